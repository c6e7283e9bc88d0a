-- What Cargo 1.95 reads as a command at a key of more than three parts, as the runner of a triple with a dot: a list of words,
-- to which files, a variable and the command line add. Cargo Reference, Configuration, `target.<triple>.runner`.
use Rattle.std.specs.Prelude.{ℕ, List, Option, Some, option_map, Result, Ok}
use Rattle.cc2_error.specs.Causes.{Refusal}
use Rattle.cc2_base.specs.declared.machine.Machine.{Machine}
use Rattle.cc2_value.specs.Cells.{Origin, Word}
use Rattle.cc2_cargo.specs.Raw.{Path, RawCell}
use Rattle.cc2_cargo_settings.specs.Cells.{read_as, words_of_cell}
use Rattle.cc2_cargo_settings.specs.Commands.{with_program}
use Rattle.cc2_cargo_settings.specs.Found.{lookup_at}
use Rattle.cc2_cargo_settings.specs.ProgramOrigin.{first_set_at, origin_beside, origin_there}
use Rattle.cc2_cargo_settings.specs.Values.{around, on_ok, words_or_none}
use Rattle.cc2_cargo_settings.specs.Variables.{Given, unset, set_to, not_utf8, given, or_not_utf8}

-- words whose program is relative to where what is at the path is set, with those of a variable
abbrev pub command_joined : List ℕ → Given → Option Origin → Option (List Word) → Result (Option (List Word)) Refusal
command_joined name unset origin set = Ok (option_map (first_set_at origin) set)
command_joined name (set_to t) origin set = Ok (Some (first_set_at (origin_beside name origin) (around name t (words_or_none set))))
command_joined name (not_utf8 bytes) origin set = or_not_utf8 name bytes (option_map (first_set_at (origin_beside name origin)) set)

-- the words of the command at a path with those of its variable
abbrev pub joined_command_at : (Path → Option RawCell) → Machine → Path → List ℕ → Result (Option (List Word)) Refusal
joined_command_at look machine path name =
    let there = lookup_at look path in
    on_ok (with_program path) (on_ok (command_joined name (given machine name) (origin_there there)) (read_as words_of_cell path there))
