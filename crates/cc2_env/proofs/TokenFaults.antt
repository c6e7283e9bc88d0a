-- What is refused says nothing of a token's bytes.
use Rattle.std.proofs.Common.{◌≡◌, ℕ, true, false, cond, List, [], ◌∷◌, map, codes, Option, Some, None, Result, Ok, Err, IfErr, refl, sym, ap, subst, ◌∙◌, inl, inr, ◌⊎◌}
use Rattle.std.specs.Prelude.{flat_map, ◌++◌}
use Rattle.std.specs.List.{Contains}
use Rattle.std.specs.Str.{is_utf8}
use Rattle.cc2_error.specs.Causes.{Refusal, refusal_of, env_not_text, plain, in_context}
use Rattle.cc2_base.specs.EnvTexts.{variable_context, not_text_refusal}
use Rattle.cc2_base.specs.ShownValue.{is_token_name, shown_byte, shown_of}
use Rattle.cc2_error.specs.declared.error.Error.{Error}
use Rattle.cc2_value.specs.Cells.{KeyPath, Cell}
use Rattle.cc2_env.specs.Kept.{Variables}
use Rattle.cc2_env.specs.Ranked.{Named, set_or, first_set, fault_refusal, value_refusals, read_refusals, MemberRow, rows_of, by_field, IsRankCause}
use Rattle.cc2_env.specs.Tokens.{AreNoTexts, DifferInTokens}
use Rattle.cc2_env.proofs.Members.{names_at, IsFieldCause, field_cause, of_field_cause}

same_shown : (n v w : List ℕ) → is_token_name n ≡ true → shown_of n v ≡ shown_of n w
unfolding shown_of
same_shown n v w token =
    ap (λ b. cond b (codes "[REDACTED]") (34 ∷ (flat_map shown_byte v ++ 34 ∷ []))) token
    ∙ sym (ap (λ b. cond b (codes "[REDACTED]") (34 ∷ (flat_map shown_byte w ++ 34 ∷ []))) token)

not_text : (n : Named) (v : List ℕ) → is_utf8 v ≡ false → value_refusals n v ≡ not_text_refusal n.name v ∷ []
not_text n v h = ap (λ b. cond b (map (fault_refusal n) (n.way.faults v)) (not_text_refusal n.name v ∷ [])) h

same_refusals : (n : Named) (v w : List ℕ) → is_token_name n.name ≡ true → is_utf8 v ≡ false → is_utf8 w ≡ false
    → value_refusals n v ≡ value_refusals n w
same_refusals n v w token h k =
    not_text n v h ∙ ap (λ s. in_context (variable_context n.name) (plain (env_not_text s)) ∷ [])
    (same_shown n.name v w token) ∙ sym (not_text n w k)

module _ (vars other : Variables) (differ : DifferInTokens vars other) where
  -- the first variable that is set is refused alike
  pub first_hidden : (ns : List Named) → read_refusals (first_set vars ns) ≡ read_refusals (first_set other ns)
  first_hidden [] = refl
  first_hidden (n ∷ ns) = one (vars n.name) (other n.name) (first_set vars ns) (first_set other ns) (differ n.name)
      (first_hidden ns)
    where
      past : (o : Option (List ℕ)) (r s : Option (Named × List ℕ)) → read_refusals r ≡ read_refusals s
          → read_refusals (set_or n o r) ≡ read_refusals (set_or n o s)
      past None r s h = h
      past (Some v) r s h = refl

      one : (v w : Option (List ℕ)) (r s : Option (Named × List ℕ)) → (v ≡ w)
          ⊎ ((is_token_name n.name ≡ true) × AreNoTexts v w) → read_refusals r ≡ read_refusals s
          → read_refusals (set_or n v r) ≡ read_refusals (set_or n w s)
      one v w r s (inl same) h = past v r s h ∙ ap (λ o. read_refusals (set_or n o s)) same
      one (Some v) (Some w) r s (inr (token, texts)) h = same_refusals n v w token texts.0 texts.1
      one None w r s (inr (token, texts)) h = absurd texts
      one (Some v) None r s (inr (token, texts)) h = absurd texts

  pub field_hidden : (rows : List MemberRow) (e : Error) → IsFieldCause vars rows e → IsFieldCause other rows e
  field_hidden rows e (inl m) = inl m
  field_hidden rows e (inr (k, c)) =
      inr (k, subst (λ (rs : List Refusal). Contains rs (refusal_of e)) (first_hidden (names_at rows k)) c)

-- the same of a table, at the exit of a `?`
pub table_hidden : {T A : Type 0} (result : Result T Error) (look : A → KeyPath → Option Cell) (rows : List MemberRow)
    (vars : Variables) (a : A)
    → IfErr result (IsRankCause look (by_field (rows_of rows)) vars a)
    → IfErr result (λ e. (other : Variables) → DifferInTokens vars other
    → IsRankCause look (by_field (rows_of rows)) other a e)
table_hidden (Ok v) look rows vars a h = tt
table_hidden (Err e) look rows vars a h =
    λ other differ. of_field_cause other look rows a e
    (field_hidden vars other differ rows e (field_cause vars look rows a e h))
