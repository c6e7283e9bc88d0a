-- Targets of texts, and targets that are answered in turn.
use Rattle.std.proofs.Common.{◌≡◌, ◌⊎◌, List, [], ◌∷◌, ◌++◌, Option, option_map, Result, Ok, Err, IsErrAnd, refl, sym, ap, subst, ◌∙◌, append_assoc, ◌≤◌, ◌<◌, ◌-◌, length, get_or, take, drop, arith}
use Rattle.std.proofs.lemmas.List.{append-nil, take_all}
use Rattle.serde_json.specs.Data.{Data, Members, no_members, object}
use Rattle.serde_json.specs.Data as json
use Rattle.cc2_error.specs.Causes.{Refusal, refusal_of}
use Rattle.cc2_error.specs.Commands.{Command}
use Rattle.cc2_error.specs.Outcomes.{IsWantOfMemory}
use Rattle.cc2_error.specs.declared.error.Error.{Error}
use Rattle.cc2_base.specs.Told.{Tree}
use Rattle.cc2_base.specs.ToldPrograms.{Answers}
use Rattle.cc2_resolved.specs.Targets.{Target}
use Rattle.cc2_target.specs.Settings.{Given}
use Rattle.cc2_resolved.specs.TargetConfigs.{TargetAnswer}
use Rattle.cargo_config2.specs.Config.{tables_of}
use Rattle.cargo_config2.specs.Kept.{given_of}
use Rattle.cargo_config2.specs.RustcKept.{rustc_command_of}
use Rattle.cargo_config2.specs.Targets.{IsTargetAlone, IsTargetCause}
use Rattle.cargo_config2.specs.declared.config.Config.{Config}
use Rattle.cargo_config2.proofs.Keeping.{same_command, same_given}
use Rattle.cc2_target_answers.specs.CrateTargets.{AreFound, AreSettings, IsPut, with_settings}
use Rattle.cc2_target_answers.specs.Outcomes.{Comes}
use Rattle.cc2_target_answers.specs.Settings.{settings_data}

-- ---- the targets of texts

-- targets, and after them those that are left
abbrev pub behind : List Target → Option (List Target) → Option (List Target)
behind targets left = option_map (λ more. targets ++ more) left

-- ---- settings in turn

-- a list by its first element
pub headed : {A : Type 0} (xs : List A) (x : A) → 1 ≤ length xs → x ≡ get_or xs 0 x → xs ≡ x ∷ take (length xs - 1) (drop 1 xs)
headed [] x some is = absurd (omega arith)
headed (y ∷ xs) x some is =
    ap (λ z. z ∷ xs) (sym is) ∙ ap (λ ys. x ∷ ys) (sym (take_all (length (y ∷ xs) - 1) xs (omega arith)))

pub none_left : {A : Type 0} (xs : List A) → length xs < 1 → xs ≡ []
none_left [] none = refl
none_left (x ∷ xs) none = absurd (omega arith)

-- a target between those in front of it and those after
between : (front : List Target) (t : Target) (left : List Target) → front ++ t ∷ left ≡ (front ++ t ∷ []) ++ left
between front t left = sym (append_assoc front (t ∷ []) left)

module _ (g : Given) (rustc : Command) (answers : Answers) where
  found_more : (front : List Target) (found : List TargetAnswer) (t : Target) (a : TargetAnswer) → AreFound g rustc answers front found
      → IsTargetAlone g rustc answers t a → AreFound g rustc answers (front ++ t ∷ []) (found ++ a ∷ [])
  found_more [] [] t a all one = (one, tt)
  found_more [] (b ∷ found) t a all one = absurd all
  found_more (s ∷ front) [] t a all one = absurd all
  found_more (s ∷ front) (b ∷ found) t a (first, all) one = (first, found_more front found t a all one)

  put_more : (front : List Target) (found : List TargetAnswer) (t : Target) (a : TargetAnswer) (ms : Members) → AreFound g rustc answers front found
      → with_settings (front ++ t ∷ []) (found ++ a ∷ []) ms ≡ json.put t.triple (settings_data a) (with_settings front found ms)
  put_more [] [] t a ms all = refl
  put_more [] (b ∷ found) t a ms all = absurd all
  put_more (s ∷ front) [] t a ms all = absurd all
  put_more (s ∷ front) (b ∷ found) t a ms (first, all) = put_more front found t a (json.put s.triple (settings_data b) ms) all

  -- all targets but those that are left have settings, which these members are
  pub record IsSoFar (all left : List Target) (ms : Members) : Type 0 where
    pub front : List Target
    pub found : List TargetAnswer
    pub are : all ≡ front ++ left
    pub answered : AreFound g rustc answers front found
    pub is : ms ≡ with_settings front found no_members

  pub at_first : (all : List Target) (ms : Members) → ms ≡ no_members → IsSoFar all all ms
  at_first all ms none = record { front = []; found = []; are = refl; answered = tt; is = none }

  pub one_more : (all left : List Target) (t : Target) (was now : Members) (a : TargetAnswer) → IsSoFar all (t ∷ left) was
      → IsTargetAlone g rustc answers t a → now ≡ json.put t.triple (settings_data a) was → IsSoFar all left now
  one_more all left t was now a h one put = record {
    front = h.front ++ t ∷ [];
    found = h.found ++ a ∷ [];
    are = h.are ∙ between h.front t left;
    answered = found_more h.front h.found t a h.answered one;
    is = put ∙ ap (λ (ms : Members). json.put t.triple (settings_data a) ms) h.is ∙ sym (put_more h.front h.found t a no_members h.answered);
  }

  pub at_last : (all : List Target) (ms : Members) → IsSoFar all [] ms → AreSettings g rustc answers (Ok all) (Ok (object ms))
  at_last all ms h = (
    h.found,
    subst (λ (targets : List Target). AreFound g rustc answers targets h.found) (sym (h.are ∙ append-nil h.front)) h.answered,
    ap object h.is ∙ ap (λ (targets : List Target). object (with_settings targets h.found no_members)) (sym (h.are ∙ append-nil h.front)),
  )

  pub first_refused : (all left : List Target) (t : Target) (ms : Members) (refusal : Refusal) → IsSoFar all (t ∷ left) ms
      → IsTargetCause g rustc answers t refusal → AreSettings g rustc answers (Ok all) (Err refusal)
  first_refused all left t ms refusal h refused = record {
    front = h.front;
    target = t;
    behind = left;
    found = h.found;
    are = h.are;
    answered = h.answered;
    refused = refused;
  }

module _ (fs : Tree) (answers : Answers) (was c : Config) (tables : tables_of c ≡ tables_of was) (loaded : c.loaded ≡ was.loaded) where
  -- what a later configuration puts for a target the earlier one does
  pub put_back : (t : Target) (m n : Members) (r : Result (Unit {0}) Error) → IsPut (given_of c) (rustc_command_of fs c) answers t m n r
      → IsPut (given_of was) (rustc_command_of fs was) answers t m n r
  put_back t m n r h =
      subst (λ (rustc : Command). IsPut (given_of was) rustc answers t m n r) (same_command fs answers was c tables loaded)
      (subst (λ (g : Given). IsPut g (rustc_command_of fs c) answers t m n r) (same_given fs answers was c tables loaded) h)

-- the exit of a `?`
pub comes_exit : {T A : Type 0} (view : T → A) (Is : Result A Refusal → Type 0) (r : Result T Error) (e : Error) → IsErrAnd r (λ f. f ≡ e)
    → IsWantOfMemory e ⊎ Is (Err (refusal_of e)) → Comes view Is r
comes_exit view Is (Ok value) e is h = absurd is
comes_exit view Is (Err f) e is h = subst (λ (g : Error). IsWantOfMemory g ⊎ Is (Err (refusal_of g))) (sym is) h

pub put_exit : (g : Given) (rustc : Command) (answers : Answers) (t : Target) (was now : Members) (r : Result (Unit {0}) Error) (e : Error)
    → IsErrAnd r (λ f. f ≡ e) → IsWantOfMemory e ⊎ IsTargetCause g rustc answers t (refusal_of e) → IsPut g rustc answers t was now r
put_exit g rustc answers t was now (Ok done) e is h = absurd is
put_exit g rustc answers t was now (Err f) e is h =
    subst (λ (x : Error). IsWantOfMemory x ⊎ IsTargetCause g rustc answers t (refusal_of x)) (sym is) h
