-- The answer for a target, by what rustc prints for it, and why it may be refused.
-- Cargo Reference, Configuration, `[target]`.
use Rattle.std.specs.Prelude.{◌≡◌, ◌⊎◌, ℕ, true, List, [], Contains, Result, Ok, Err}
use Rattle.cc2_error.specs.Causes.{Refusal, plain, not_triple}
use Rattle.cc2_cfg.specs.Meaning.{Atom}
use Rattle.cc2_rustc.specs.Asking.{entries_by_text, SomeKeyAsks, TrueValues, IsKeysRefusal}
use Rattle.cc2_rustc.specs.Keys.{is_cfg}
use Rattle.cc2_target_table.specs.declared.target.TargetConfig.{TargetConfig}
use Rattle.cc2_target.specs.Settings.{Given, IsSettings, IsUnresolved}
use Rattle.cc2_resolved.specs.TargetConfigs.{TargetAnswer}
use Rattle.cc2_target.specs.Variables.{variable_refusals}

-- the tables at the true keys, in byte order of the keys; where what rustc prints isn't known and no key
-- asks for it, none
abbrev pub AreTrue : List (List ℕ × TargetConfig) → Result (List Atom) Refusal → List TargetConfig → Type 0
AreTrue entries (Ok atoms) trues = TrueValues atoms entries trues
AreTrue entries (Err refusal) trues = (¬ (SomeKeyAsks entries)) × (trues ≡ [])

-- the triple is a key `cfg(..)`
abbrev pub IsNoTriple : List ℕ → Refusal → Type 0
IsNoTriple triple refusal = (is_cfg triple ≡ true) × (refusal ≡ plain (not_triple triple))

module _ (g : Given) (triple : List ℕ) (said : Result (List Atom) Refusal) where
  -- these are the target's settings, by the tables at the true keys
  abbrev pub IsAnswer : TargetAnswer → Type 0
  IsAnswer a = (trues : List TargetConfig) × AreTrue (entries_by_text g.tables) said trues × IsSettings g triple trues a

  -- the linker or the runner that is chosen has no root
  abbrev pub IsUnresolvedChoice : Refusal → Type 0
  IsUnresolvedChoice refusal =
      (trues : List TargetConfig) × AreTrue (entries_by_text g.tables) said trues × IsUnresolved g triple trues refusal

  -- some key asks what rustc prints, and that isn't known
  abbrev pub IsUnknownList : Refusal → Type 0
  IsUnknownList refusal = SomeKeyAsks (entries_by_text g.tables) × (said ≡ Err refusal)

  -- the triple is none, a variable isn't text or a runner, a key has no tree, rustc's answer is refused, or
  -- a program has no root
  abbrev pub IsCause : Refusal → Type 0
  IsCause refusal =
      IsNoTriple triple refusal
      ⊎ (IsKeysRefusal (entries_by_text g.tables) refusal
      ⊎ (Contains (variable_refusals g.vars triple) refusal
      ⊎ (IsUnknownList refusal ⊎ IsUnresolvedChoice refusal)))

  -- these are the settings, and there is no cause
  abbrev pub IsAnswered : TargetAnswer → Type 0
  IsAnswered a = IsAnswer a × ((refusal : Refusal) → ¬ (IsCause refusal))
