-- What Cargo 1.95 uses for a target: its linker and its runner, and the flags for rustc and rustdoc.
-- Cargo Reference, Configuration, `[target]`.
use Rattle.std.specs.Prelude.{◌≡◌, ℕ, List, [], ◌∷◌, map, Option, Some, None, option_map, Result, Ok, Err}
use Rattle.std.specs.BTreeMap.{BTreeMap}
use Rattle.std.specs.Prelude.{String}
use Rattle.std.specs.declared.alloc.Global.{Global}
use Rattle.cc2_error.specs.Causes.{Refusal}
use Rattle.cc2_error.specs.Commands.{Command}
use Rattle.cc2_base.specs.ToldPrograms.{Answers}
use Rattle.cc2_base.specs.declared.machine.Machine.{Machine}
use Rattle.cc2_resolved.specs.Answers as answer
use Rattle.cc2_resolved.specs.Answers.{Answer}
use Rattle.cc2_resolved.specs.TargetConfigs.{TargetAnswer}
use Rattle.cc2_value.specs.Cells.{Word, word}
use Rattle.cc2_cargo.specs.Raw.{raw_members_at}
use Rattle.cc2_cargo.specs.declared.raw.Raw.{Raw}
use Rattle.cc2_cargo_target.specs.Chosen.{program_of}
use Rattle.cc2_cargo_target.specs.Flags.{flags_of}
use Rattle.cc2_cargo_target.specs.Keys.{keys_checked, target_keys}
use Rattle.cc2_cargo_target.specs.Programs.{program_path}
use Rattle.cc2_cargo_target.specs.Settling.{Settled, Settles}
use Rattle.cc2_cargo_settings.specs.Values.{on_ok}
use Rattle.cc2_cargo_target.specs.declared.program.Program.TheVariants.{Linker, Runner}
use Rattle.cc2_cargo_target.specs.declared.tool.Tool.TheVariants.{Rustc, Rustdoc}

-- flags, where there are any
abbrev pub if_any : List (List ℕ) → Option Answer
if_any [] = None
if_any (flag ∷ flags) = Some (answer.texts (flag ∷ flags))

-- a program with its arguments
abbrev pub with_words : List Word → Result (List ℕ) Refusal → Result (Option Command) Refusal
with_words ws (Ok path) = Ok (Some (record { program = path; args = map (λ w. w.text) ws }))
with_words ws (Err refusal) = Err refusal

-- words as a command, its program as Cargo runs it
abbrev pub resolved_words : List ℕ → Result (Option (List Word)) Refusal → Result (Option Command) Refusal
resolved_words dir (Ok None) = Ok None
resolved_words dir (Ok (Some [])) = Ok None
resolved_words dir (Ok (Some (w ∷ ws))) = with_words ws (program_path dir w)
resolved_words dir (Err refusal) = Err refusal

-- the settings, or the first refusal
abbrev pub built : Result (Option Command) Refusal → Result (Option Command) Refusal → List (List ℕ) → Result (List (List ℕ)) Refusal → Result TargetAnswer Refusal
built (Err refusal) runner flags doc_flags = Err refusal
built (Ok linker) (Err refusal) flags doc_flags = Err refusal
built (Ok linker) (Ok runner) flags (Err refusal) = Err refusal
built (Ok linker) (Ok runner) flags (Ok doc_flags) =
    Ok (record {
      linker = option_map (λ c. answer.single (word c.program)) linker;
      runner = option_map answer.command runner;
      rustflags = if_any flags;
      rustdocflags = if_any doc_flags;
    })

-- the keys, where what is below each can be read
abbrev pub keys_if : List (List ℕ) → Result (Unit {0}) Refusal → Result (List (List ℕ)) Refusal
keys_if keys (Ok done) = Ok keys
keys_if keys (Err refusal) = Err refusal

-- keys of `[target]`, and flags without any of them
pub record Prepared : Type 0 where
  pub keys : List (List ℕ)
  pub plain : List (List ℕ)

abbrev pub with_plain : Result (List (List ℕ)) Refusal → Result (List (List ℕ)) Refusal → Result Prepared Refusal
with_plain (Ok keys) (Ok plain) = Ok (record { keys = keys; plain = plain })
with_plain (Ok keys) (Err refusal) = Err refusal
with_plain (Err refusal) plain = Err refusal

abbrev pub RawSettings : Type 0
RawSettings = BTreeMap (String Global) Raw

abbrev pub keys_checked_in : RawSettings → Machine → Result (List (List ℕ)) Refusal → Result (List (List ℕ)) Refusal
keys_checked_in settings machine (Ok keys) = keys_if keys (keys_checked (raw_members_at settings) machine keys)
keys_checked_in settings machine (Err refusal) = Err refusal

abbrev pub checked_keys : RawSettings → Machine → Result (List (List ℕ)) Refusal
checked_keys settings machine = keys_checked_in settings machine (target_keys settings)

module _ (settings : RawSettings) (machine : Machine) (dir triple : List ℕ) where
  -- the settings with these flags, where these keys match
  abbrev pub finished : Settled → Result TargetAnswer Refusal
  finished s =
      built (resolved_words dir (program_of (raw_members_at settings) machine Linker triple s.matching))
      (resolved_words dir (program_of (raw_members_at settings) machine Runner triple s.matching))
      s.flags (flags_of (raw_members_at settings) machine Rustdoc triple s.matching)

  -- the keys, and the flags without any of them
  abbrev pub prepared : Result Prepared Refusal
  prepared = with_plain (checked_keys settings machine) (flags_of (raw_members_at settings) machine Rustc triple [])

  module _ (rustc : Command) (answers : Answers) where
    -- the settings with the flags and keys that settle, or why they don't
    abbrev pub IsTargetFrom : Result Prepared Refusal → Result TargetAnswer Refusal → Type 0
    IsTargetFrom (Ok p) target =
        (settled : Result Settled Refusal) × Settles (raw_members_at settings) machine rustc answers triple p.keys p.plain settled
        × (target ≡ on_ok finished settled)
    IsTargetFrom (Err refusal) target = target ≡ Err refusal

    -- what a target has, or why it has nothing
    abbrev pub IsTarget : Result TargetAnswer Refusal → Type 0
    IsTarget target = IsTargetFrom prepared target
