-- The answer for a target and its causes, step by step as they are judged.
use Rattle.std.proofs.Common.{◌≡◌, ◌⊎◌, ℕ, List, [], ◌∷◌, ◌++◌, Contains, Option, Some, None, false}
use Rattle.std.proofs.Common.{Result, Ok, Err, codes, true≢false, refl, sym, ap₂, subst, ◌∙◌, inl, inr, arith}
use Rattle.cc2_error.specs.Causes.{Refusal, refusal_of}
use Rattle.cc2_error.specs.Outcomes.{IsWantOfMemory}
use Rattle.cc2_error.specs.declared.error.Error.{Error}
use Rattle.cc2_cfg.specs.Meaning.{Atom}
use Rattle.cc2_rustc.proofs.TrueKeys.{none-true, true_values-same}
use Rattle.cc2_rustc.specs.Asking.{entries_by_text, SomeKeyAsks, TrueValues, IsKeysRefusal}
use Rattle.cc2_rustc.specs.Keys.{is_cfg}
use Rattle.cc2_value.specs.Cells.{KeyPath, Cell}
use Rattle.cc2_leaf.specs.TextWays.{TextWay, any_text_way, command_text_way, spaced_text_way}
use Rattle.cc2_env.specs.Kept.{Variables}
use Rattle.cc2_env.specs.Reads.{IsFound, found_refusals}
use Rattle.cc2_target_table.specs.declared.target.TargetConfig.{TargetConfig}
use Rattle.cc2_target.specs.Asked.{AreTrue, IsAnswer, IsCause, IsUnknownList}
use Rattle.cc2_target.specs.Settings.{Given, IsSettings, IsUnresolved}
use Rattle.cc2_resolved.specs.TargetConfigs.{TargetAnswer}
use Rattle.cc2_target.specs.Variables.{AreRead, IsReadCause, set_for, variable_refusals}
use Rattle.cc2_target.specs.declared.variables.TargetVariables.{TargetVariables}

-- ---- the true tables
-- where no key asks there are none
pub none_true : (entries : List (List ℕ × TargetConfig)) (said : Result (List Atom) Refusal) → ¬ (SomeKeyAsks entries)
    → AreTrue entries said []
none_true entries (Ok atoms) h = none-true atoms entries h
none_true entries (Err refusal) h = (h, refl)

-- by the list that rustc prints
pub true_by : (entries : List (List ℕ × TargetConfig)) (said : Result (List Atom) Refusal) (atoms : List Atom)
    (trues : List TargetConfig) → said ≡ Ok atoms → TrueValues atoms entries trues → AreTrue entries said trues
true_by entries said atoms trues is h =
    subst (λ (s : Result (List Atom) Refusal). AreTrue entries s trues) (sym is) h

-- there is one such list
one_true : (entries : List (List ℕ × TargetConfig)) (said : Result (List Atom) Refusal) (xs ys : List TargetConfig)
    → AreTrue entries said xs → AreTrue entries said ys → xs ≡ ys
one_true entries (Ok atoms) xs ys h k = true_values-same atoms entries xs ys h k
one_true entries (Err refusal) xs ys h k = h.1 ∙ sym k.1

-- ---- the variables
free_of : {A : Type 0} (look : A → KeyPath → Option Cell) (way : TextWay) (f : Option (List ℕ × List ℕ)) (o : Option A)
    → IsFound look way f o → found_refusals way f ≡ []
free_of look way None o h = refl
free_of look way (Some f) None h = absurd h
free_of look way (Some f) (Some a) h = h.0

none_in : (refusals : List Refusal) (refusal : Refusal) → refusals ≡ [] → Contains refusals refusal → ⊥
none_in [] refusal is (at, within, found) = omega (arith, within)
none_in (r ∷ refusals) refusal is h = cc is

-- what is read isn't refused
read_free : (vars : Variables) (triple : List ℕ) (v : TargetVariables) → AreRead vars triple v → (refusal : Refusal)
    → Contains (variable_refusals vars triple) refusal → ⊥
read_free vars triple v read refusal h =
    none_in (variable_refusals vars triple) refusal
    (ap₂ (λ x xs. x ++ xs) (free_of _ any_text_way (set_for vars triple (codes "_LINKER")) v.linker read.0)
    (ap₂ (λ x xs. x ++ xs) (free_of _ command_text_way (set_for vars triple (codes "_RUNNER")) v.runner read.1)
    (ap₂ (λ x xs. x ++ xs) (free_of _ spaced_text_way (set_for vars triple (codes "_RUSTFLAGS")) v.rustflags read.2)
    (free_of _ spaced_text_way (set_for vars triple (codes "_RUSTDOCFLAGS")) v.rustdocflags read.3)))) h

-- ---- the causes, and none of them
module _ (g : Given) (triple : List ℕ) (said : Result (List Atom) Refusal) where
  pub variable_cause : (e : Error) → IsReadCause g.vars triple e → IsWantOfMemory e ⊎ IsCause g triple said (refusal_of e)
  variable_cause e (inl memory) = inl memory
  variable_cause e (inr h) = inr (inr (inr (inl h)))

  pub list_cause : (e : Error) → IsWantOfMemory e ⊎ IsUnknownList g triple said (refusal_of e)
      → IsWantOfMemory e ⊎ IsCause g triple said (refusal_of e)
  list_cause e (inl memory) = inl memory
  list_cause e (inr h) = inr (inr (inr (inr (inl h))))

  pub choice_cause : (e : Error) (trues : List TargetConfig) → AreTrue (entries_by_text g.tables) said trues
      → IsWantOfMemory e ⊎ IsUnresolved g triple trues (refusal_of e)
      → IsWantOfMemory e ⊎ IsCause g triple said (refusal_of e)
  choice_cause e trues are (inl memory) = inl memory
  choice_cause e trues are (inr h) = inr (inr (inr (inr (inr (trues, are, h)))))

  pub no_cause : (v : TargetVariables) (trues : List TargetConfig) → is_cfg triple ≡ false
      → ((refusal : Refusal) → ¬ (IsKeysRefusal (entries_by_text g.tables) refusal)) → AreRead g.vars triple v
      → AreTrue (entries_by_text g.tables) said trues → ((refusal : Refusal) → ¬ (IsUnknownList g triple said refusal))
      → ((refusal : Refusal) → ¬ (IsUnresolved g triple trues refusal)) → (refusal : Refusal)
      → ¬ (IsCause g triple said refusal)
  no_cause v trues named keys read are listed rooted refusal (inl h) = true≢false (sym h.0 ∙ named)
  no_cause v trues named keys read are listed rooted refusal (inr (inl h)) = keys refusal h
  no_cause v trues named keys read are listed rooted refusal (inr (inr (inl h))) = read_free g.vars triple v read refusal h
  no_cause v trues named keys read are listed rooted refusal (inr (inr (inr (inl h)))) = listed refusal h
  no_cause v trues named keys read are listed rooted refusal (inr (inr (inr (inr (xs, their, h))))) =
      rooted refusal (subst (λ (ys : List TargetConfig). IsUnresolved g triple ys refusal)
      (one_true (entries_by_text g.tables) said xs trues their are) h)

  -- there is one answer
  one_by : (xs ys : List TargetConfig) (a b : TargetAnswer) → xs ≡ ys → IsSettings g triple xs a → IsSettings g triple ys b
      → a ≡ b
  one_by xs ys a b same h k =
      let h' = subst (λ (ts : List TargetConfig). IsSettings g triple ts a) same h in
      let linker : a.linker ≡ b.linker = cc (sym h'.linker ∙ k.linker) in
      let runner : a.runner ≡ b.runner = cc (sym h'.runner ∙ k.runner) in
      let rustflags : a.rustflags ≡ b.rustflags = h'.rustflags ∙ sym k.rustflags in
      let rustdocflags : a.rustdocflags ≡ b.rustdocflags = h'.rustdocflags ∙ sym k.rustdocflags in
      λ i. record { linker = linker i; runner = runner i; rustflags = rustflags i; rustdocflags = rustdocflags i }

  pub one_answer : (a b : TargetAnswer) → IsAnswer g triple said a → IsAnswer g triple said b → a ≡ b
  one_answer a b (xs, are, h) (ys, their, k) =
      one_by xs ys a b (one_true (entries_by_text g.tables) said xs ys are their) h k
