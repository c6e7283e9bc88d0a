-- Which keys of `[target]` match for a triple, and its flags: each depends on the other, and Cargo 1.95 asks rustc twice at most.
-- rustc is run with the flags without keys; by what it prints keys match; with their flags it is run again if these differ.
use Rattle.std.specs.Prelude.{◌≡◌, ℕ, Bool, true, false, codes, List, [], ◌∷◌, Option, Result, Ok, Err}
use Rattle.std.specs.List.{list_any}
use Rattle.cc2_error.specs.Causes.{Refusal}
use Rattle.cc2_error.specs.Commands.{Command, with_args}
use Rattle.cc2_base.specs.Paths.{same_texts}
use Rattle.cc2_base.specs.ToldPrograms.{Answers}
use Rattle.cc2_base.specs.declared.machine.Machine.{Machine}
use Rattle.cc2_cfg.specs.Meaning.{Atom}
use Rattle.cc2_rustc.specs.CfgSets.{listed}
use Rattle.cc2_rustc.specs.Keys.{is_cfg}
use Rattle.cc2_rustc.specs.Said.{said}
use Rattle.cc2_cargo.specs.Raw.{Path, RawCell}
use Rattle.cc2_cargo_target.specs.Flags.{flags_of}
use Rattle.cc2_cargo_target.specs.Keys.{AreMatching}
use Rattle.cc2_cargo_target.specs.declared.tool.Tool.TheVariants.{Rustc}

-- flags, and the keys that match
pub record Settled : Type 0 where
  pub flags : List (List ℕ)
  pub matching : List (List ℕ)

abbrev pub question : List ℕ → List (List ℕ)
question triple = codes "--print" ∷ (codes "cfg" ∷ (codes "--target" ∷ (triple ∷ [])))

-- rustc with flags, and after them the question for the triple
abbrev pub cfg_command_with : Command → List ℕ → List (List ℕ) → Command
cfg_command_with rustc triple flags = with_args (with_args rustc flags) (question triple)

-- what rustc prints, or why that isn't known
abbrev pub printed_with : Command → Answers → List ℕ → List (List ℕ) → Result (List Atom) Refusal
printed_with rustc answers triple flags = listed (said answers (cfg_command_with rustc triple flags))

-- some key may match
abbrev pub have_cfg : List (List ℕ) → Bool
have_cfg keys = list_any is_cfg keys

module _ (rustc : Command) (answers : Answers) (triple : List ℕ) (keys : List (List ℕ)) where
  -- those of the keys that match by what rustc prints with these flags, or why that isn't known
  abbrev pub MatchWith : List (List ℕ) → Result (List (List ℕ)) Refusal → Type 0
  MatchWith flags (Ok matching) = (atoms : List Atom) × (printed_with rustc answers triple flags ≡ Ok atoms) × AreMatching atoms keys matching
  MatchWith flags (Err refusal) = printed_with rustc answers triple flags ≡ Err refusal

  -- with other flags than before rustc is asked again
  abbrev pub AsksAgain : Bool → List (List ℕ) → List (List ℕ) → Result Settled Refusal → Type 0
  AsksAgain true flags matching settled = settled ≡ Ok (record { flags = flags; matching = matching })
  AsksAgain false flags matching (Ok s) = (s.flags ≡ flags) × MatchWith flags (Ok s.matching)
  AsksAgain false flags matching (Err refusal) = MatchWith flags (Err refusal)

module _ (look : Path → Option RawCell) (machine : Machine) (rustc : Command) (answers : Answers) (triple : List ℕ) (keys : List (List ℕ)) where
  -- the flags with those of the keys that match
  abbrev pub SettlesBy : List (List ℕ) → List (List ℕ) → Result (List (List ℕ)) Refusal → Result Settled Refusal → Type 0
  SettlesBy plain matching (Ok flags) settled = AsksAgain rustc answers triple keys (same_texts flags plain) flags matching settled
  SettlesBy plain matching (Err refusal) settled = settled ≡ Err refusal

  -- by the flags without keys
  pub data Settles (plain : List (List ℕ)) (settled : Result Settled Refusal) : Type 0 where
    without_keys : have_cfg keys ≡ false → settled ≡ Ok (record { flags = plain; matching = [] }) → Settles plain settled
    not_known : (refusal : Refusal) → have_cfg keys ≡ true → MatchWith rustc answers triple keys plain (Err refusal) → settled ≡ Err refusal → Settles plain settled
    by_keys : (matching : List (List ℕ)) → have_cfg keys ≡ true → MatchWith rustc answers triple keys plain (Ok matching)
        → SettlesBy plain matching (flags_of look machine Rustc triple matching) settled → Settles plain settled
