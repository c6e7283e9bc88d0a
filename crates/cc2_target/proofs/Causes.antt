-- A refusal of one of several variables.
use Rattle.std.proofs.Common.{◌≡◌, ◌⊎◌, ℕ, List, ◌++◌, Some, option_map, Result, Ok, Err, IsErrAnd, IfErr, ap, sym, subst, inl, inr, Contains, codes}
use Rattle.std.proofs.lemmas.List.Elements.{Contains-append_left, Contains-append_right}
use Rattle.cc2_error.specs.Causes.{Refusal, refusal_of}
use Rattle.cc2_error.specs.Outcomes.{IsWantOfMemory}
use Rattle.cc2_error.specs.declared.error.Error.{Error}
use Rattle.cc2_leaf.specs.TextWays.{TextWay, any_text_way, command_text_way, spaced_text_way}
use Rattle.cc2_env.specs.Kept.{Variables}
use Rattle.cc2_env.specs.Ranked.{value_refusals}
use Rattle.cc2_env.specs.Ranks.{variable_by}
use Rattle.cc2_env.specs.Reads.{found_refusals, IsFoundCause}
use Rattle.cc2_target.specs.Variables.{set_in, set_for, IsReadCause}

-- memory is refused, or it is one of these refusals
abbrev IsAmong : List Refusal → Error → Type 0
IsAmong refusals e = IsWantOfMemory e ⊎ Contains refusals (refusal_of e)

among_left : (xs ys : List Refusal) (e : Error) → IsAmong xs e → IsAmong (xs ++ ys) e
among_left xs ys e (inl memory) = inl memory
among_left xs ys e (inr has) = inr (Contains-append_left xs ys (refusal_of e) has)

among_right : (xs ys : List Refusal) (e : Error) → IsAmong ys e → IsAmong (xs ++ ys) e
among_right xs ys e (inl memory) = inl memory
among_right xs ys e (inr has) = inr (Contains-append_right xs ys (refusal_of e) has)

-- the refusals of the four, in turn
module _ (vars : Variables) (triple : List ℕ) (e : Error) where
  abbrev of_linker : List Refusal
  of_linker = found_refusals any_text_way (set_for vars triple (codes "_LINKER"))

  abbrev of_runner : List Refusal
  of_runner = found_refusals command_text_way (set_for vars triple (codes "_RUNNER"))

  abbrev of_flags : List Refusal
  of_flags = found_refusals spaced_text_way (set_for vars triple (codes "_RUSTFLAGS"))

  abbrev of_doc_flags : List Refusal
  of_doc_flags = found_refusals spaced_text_way (set_for vars triple (codes "_RUSTDOCFLAGS"))

  pub linker_cause : IsFoundCause any_text_way (set_for vars triple (codes "_LINKER")) e → IsReadCause vars triple e
  linker_cause h = among_left of_linker (of_runner ++ (of_flags ++ of_doc_flags)) e h

  pub runner_cause : IsFoundCause command_text_way (set_for vars triple (codes "_RUNNER")) e
      → IsReadCause vars triple e
  runner_cause h =
      among_right of_linker (of_runner ++ (of_flags ++ of_doc_flags)) e
      (among_left of_runner (of_flags ++ of_doc_flags) e h)

  pub flags_cause : IsFoundCause spaced_text_way (set_for vars triple (codes "_RUSTFLAGS")) e
      → IsReadCause vars triple e
  flags_cause h =
      among_right of_linker (of_runner ++ (of_flags ++ of_doc_flags)) e
      (among_right of_runner (of_flags ++ of_doc_flags) e (among_left of_flags of_doc_flags e h))

  pub doc_flags_cause : IsFoundCause spaced_text_way (set_for vars triple (codes "_RUSTDOCFLAGS")) e
      → IsReadCause vars triple e
  doc_flags_cause h =
      among_right of_linker (of_runner ++ (of_flags ++ of_doc_flags)) e
      (among_right of_runner (of_flags ++ of_doc_flags) e (among_right of_flags of_doc_flags e h))

-- the exit of a `?`
pub err_exit : {T : Type 0} (P : Error → Type 0) (result : Result T Error) (e : Error) → IsErrAnd result (λ g. g ≡ e)
    → P e → IfErr result P
err_exit P (Ok v) e is h = absurd is
err_exit P (Err g) e is h = subst P (sym is) h

-- the value of a variable of this name is refused
pub found_cause : (vars : Variables) (way : TextWay) (n name value : List ℕ) (e : Error) → name ≡ n
    → Some value ≡ vars n → IsAmong (value_refusals (variable_by name way) value) e
    → IsFoundCause way (set_in vars n) e
found_cause vars way n name value e is set h =
    subst (λ refusals. IsAmong refusals e) (ap (λ o. found_refusals way (option_map (λ v. (n, v)) o)) set)
    (subst (λ m. IsAmong (value_refusals (variable_by m way) value) e) is h)
