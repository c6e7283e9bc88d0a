-- The linker and the runner of a triple, by what Cargo 1.95 reads: what is set for the triple, else what the one key that
-- matches and has it sets. Cargo Reference, Configuration, `target.<cfg>.linker`, `target.<cfg>.runner`.
use Rattle.std.specs.Prelude.{ℕ, ◌==◌, if◌then◌else◌, length, List, [], ◌∷◌, ◌++◌, codes, Option, Some, None, option_map, Result, Ok, Err}
use Rattle.cc2_error.specs.Causes.{Refusal, plain, refused_text}
use Rattle.cc2_base.specs.declared.machine.Machine.{Machine}
use Rattle.cc2_base.specs.VariableNames.{target_variable}
use Rattle.cc2_value.specs.Cells.{Word}
use Rattle.cc2_cargo.specs.Raw.{Path, RawCell}
use Rattle.cc2_cargo_target.specs.AtKey.{linker_at, runner_at}
use Rattle.cc2_cargo_target.specs.Flags.{triple_path}
use Rattle.cc2_cargo_settings.specs.JoinedCommand.{joined_command_at}
use Rattle.cc2_cargo_settings.specs.Commands.{command_at}
use Rattle.cc2_cargo_settings.specs.Values.{on_ok, text_at}
use Rattle.cc2_cargo_target.specs.declared.program.Program.{Program}
use Rattle.cc2_cargo_target.specs.declared.program.Program.TheVariants as program

-- a text as a command of one word
abbrev pub as_command : Result (Option Word) Refusal → Result (Option (List Word)) Refusal
as_command (Ok set) = Ok (option_map (λ w. w ∷ []) set)
as_command (Err refusal) = Err refusal

abbrev pub program_key : Program → List ℕ
program_key program.Linker = codes "linker"
program_key program.Runner = codes "runner"

-- the runner at a path: a command of three keys, else a list of words
abbrev pub runner_by : (Path → Option RawCell) → Machine → Path → List ℕ → Result (Option (List Word)) Refusal
runner_by look machine path name =
    if length path == 3 then command_at look machine path name else joined_command_at look machine path name

-- what a program of a triple is set to
abbrev pub set_for_triple : (Path → Option RawCell) → Machine → Program → List ℕ → Result (Option (List Word)) Refusal
set_for_triple look machine program.Linker triple = as_command (text_at look machine (triple_path triple (codes "linker")) (target_variable triple (codes "_LINKER")))
set_for_triple look machine program.Runner triple = runner_by look machine (triple_path triple (codes "runner")) (target_variable triple (codes "_RUNNER"))

-- what it is set to at a key
abbrev pub set_at_key : (Path → Option RawCell) → Machine → Program → List ℕ → Result (Option (List Word)) Refusal
set_at_key look machine program.Linker k = as_command (linker_at look machine k)
set_at_key look machine program.Runner k = runner_at look machine k

-- two keys that match set it
abbrev pub both_match : Program → List ℕ → List ℕ → Refusal
both_match p j k =
    plain (refused_text (codes "several matching instances of `target.'cfg(..)'." ++ (program_key p ++ (codes "`: `" ++ (j ++ (codes "` and `" ++ (k ++ codes "`")))))))

-- a key with what it sets
abbrev pub KeyedWords : Type 0
KeyedWords = List ℕ × List Word

-- the choice so far and what one key more sets: there may be one of them
abbrev pub one_more_choice : Program → Option KeyedWords → List ℕ → Option (List Word) → Result (Option KeyedWords) Refusal
one_more_choice p first k None = Ok first
one_more_choice p None k (Some ws) = Ok (Some (k, ws))
one_more_choice p (Some (j, vs)) k (Some ws) = Err (both_match p j k)

module _ (look : Path → Option RawCell) (machine : Machine) (p : Program) where
  -- the choice among these keys, after a choice so far
  abbrev pub chosen_from : Option KeyedWords → List (List ℕ) → Result (Option KeyedWords) Refusal
  chosen_from first [] = Ok first
  chosen_from first (k ∷ ks) = on_ok (λ next. chosen_from next ks) (on_ok (λ set. one_more_choice p first k set) (set_at_key look machine p k))

  abbrev pub words_chosen : Result (Option KeyedWords) Refusal → Result (Option (List Word)) Refusal
  words_chosen (Ok choice) = Ok (option_map (λ c. c.1) choice)
  words_chosen (Err refusal) = Err refusal

  abbrev pub or_keyed : Result (Option (List Word)) Refusal → Result (Option (List Word)) Refusal → Result (Option (List Word)) Refusal
  or_keyed (Ok (Some ws)) keyed = Ok (Some ws)
  or_keyed (Ok None) keyed = keyed
  or_keyed (Err refusal) keyed = Err refusal

  -- the program of a triple, where these keys match
  abbrev pub program_of : List ℕ → List (List ℕ) → Result (Option (List Word)) Refusal
  program_of triple matching = or_keyed (set_for_triple look machine p triple) (words_chosen (chosen_from None matching))
