-- A load, and then its variables.
use Rattle.std.proofs.Common.{◌≡◌, ◌⊎◌, ℕ, List, [], ◌∷◌, Contains, Option, Result, Ok, Err, refl, sym, ap, subst, ◌∙◌, inl, inr, arith}
use Rattle.cc2_error.specs.declared.error.Error.{Error}
use Rattle.cc2_error.specs.Causes.{Refusal, refusal_of}
use Rattle.cc2_error.specs.Outcomes.{IsWantOfMemory}
use Rattle.cc2_base.specs.Told.{Tree}
use Rattle.cc2_error.specs.declared.error.Shape.{Shape}
use Rattle.cc2_value.specs.Cells.{Cell, KeyPath}
use Rattle.cc2_env.specs.Kept.{Variables}
use Rattle.cc2_env.specs.Ranked.{IsRanked, IsRankCause}
use Rattle.cc2_env.specs.Ranks.{config_ranks}
use Rattle.cc2_env.proofs.Agreeing.{Agrees, fields_agree, tables_agree, overridden_same}
use Rattle.cc2_de.specs.declared.config.Config.{Config}
use Rattle.cc2_de.specs.Config.{config_at, marks_at}
use Rattle.cc2_de.specs.ConfigRanks.{config_rank}
use Rattle.cc2_de.specs.LoadFrom.{IsLoadFrom, IsLoadFromCause}
use Rattle.cc2_de.specs.LoadUnder.{IsLoadUnder, IsLoadUnderCause}

module _ (vars ws : Variables) (f g : KeyPath → Option Cell) (same : (n : List ℕ) → vars n ≡ ws n) (stood : (p : KeyPath) → f p ≡ g p) where
  cells_agree : (p : KeyPath) → config_rank.cells vars f p ≡ config_rank.cells ws g p
  cells_agree [] = ap (λ marks. marks_at marks.0 marks.1) (overridden_same vars ws same)
  cells_agree (k ∷ p) = (fields_agree config_ranks tables_agree).cells vars ws f g same stood (k ∷ p)

  refusals_agree : (p : KeyPath) → config_rank.refusals vars f p ≡ config_rank.refusals ws g p
  refusals_agree p = (fields_agree config_ranks tables_agree).refusals vars ws f g same stood p

-- what variables make of a configuration depends on their values and on its cells alone
pub config_agrees : Agrees config_rank
config_agrees = record { cells = cells_agree; refusals = refusals_agree }

pub one_answer : (o : Result (Option Cell) (Shape × Shape)) (a b : Option Cell) → o ≡ Ok a → o ≡ Ok b → a ≡ b
one_answer o a b h k = cc

module _ (fs : Tree) (cwd : List ℕ) where
  -- the files have one map
  one_map : (home : Result (Option (List ℕ)) Refusal) (m n : KeyPath → Option Cell) → IsLoadFrom fs cwd home m → IsLoadFrom fs cwd home n → (p : KeyPath) → m p ≡ n p
  one_map (Ok home) m n h k p = one_answer _ (m p) (n p) (h.1 p) (k.1 p)
  one_map (Err refusal) m n h k p = absurd h

  none_in : (refusals : List Refusal) (refusal : Refusal) → refusals ≡ [] → Contains refusals refusal → ⊥
  none_in refusals refusal none has =
      let h = subst (λ (rs : List Refusal). Contains rs refusal) none has in
      absurd (omega (arith, h.1))

-- so a load under variables has one map
pub one_under : (fs : Tree) (cwd : List ℕ) (home : Result (Option (List ℕ)) Refusal) (vars : Variables) (m n : KeyPath → Option Cell)
    → IsLoadUnder fs cwd home vars m → IsLoadUnder fs cwd home vars n → (p : KeyPath) → m p ≡ n p
one_under fs cwd home vars m n (f, loaded, ranked, free) (g, other, again, free') p =
    ranked p ∙ config_agrees.cells vars vars f g (λ name. refl) (one_map fs cwd home f g loaded other) p ∙ sym (again p)

module _ (fs : Tree) (cwd : List ℕ) (home : Result (Option (List ℕ)) Refusal) (vars ws : Variables)
    (same : (n : List ℕ) → ws n ≡ vars n) (loaded : Config) (load : IsLoadFrom fs cwd home (config_at loaded)) where
  -- what is loaded, under variables of the same values
  pub load_applied : (applied : Config) → ((refusal : Refusal) → ¬ (IsLoadFromCause fs cwd home refusal)) → IsRanked config_at config_rank ws loaded applied
      → IsLoadUnder fs cwd home vars (config_at applied) × ((refusal : Refusal) → ¬ (IsLoadUnderCause fs cwd home vars refusal))
  load_applied applied free ranked = (
    (
      config_at loaded,
      load,
      λ p. ranked.0 p ∙ config_agrees.cells ws vars (config_at loaded) (config_at loaded) same (λ q. refl) p,
      λ p. sym (config_agrees.refusals ws vars (config_at loaded) (config_at loaded) same (λ q. refl) p) ∙ ranked.1 p,
    ),
    no_cause,
  )
    where
      no_cause : (refusal : Refusal) → ¬ (IsLoadUnderCause fs cwd home vars refusal)
      no_cause refusal (inl h) = free refusal h
      no_cause refusal (inr (files, map, (p, has))) =
          none_in fs cwd (config_rank.refusals vars files p) refusal
          (sym (config_agrees.refusals ws vars (config_at loaded) files same (one_map fs cwd home (config_at loaded) files load map) p) ∙ ranked.1 p) has

  -- the same where a variable is refused
  pub load_unapplied : (e : Error) → IsRankCause config_at config_rank ws loaded e → IsWantOfMemory e ⊎ IsLoadUnderCause fs cwd home vars (refusal_of e)
  load_unapplied e (inl wants) = inl wants
  load_unapplied e (inr (p, has)) =
      inr (inr (
        config_at loaded,
        load,
        (
          p,
          subst (λ (rs : List Refusal). Contains rs (refusal_of e)) (config_agrees.refusals ws vars (config_at loaded) (config_at loaded) same (λ q. refl) p) has,
        ),
      ))
