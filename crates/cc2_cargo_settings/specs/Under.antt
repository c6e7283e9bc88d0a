-- Merged settings under environment variables: what Cargo has at each path once variables are read.
-- Cargo Reference, Configuration, environment variables.
use Rattle.std.specs.Prelude.{List, [], ◌∷◌, ◌++◌, Option, Some, None, unwrap_or, Result, Ok, if◌then◌else◌}
use Rattle.std.specs.Option.{option_or}
use Rattle.std.specs.Str.{bytes_eq}
use Rattle.cc2_error.specs.Causes.{Refusal}
use Rattle.cc2_base.specs.declared.machine.Machine.{Machine}
use Rattle.cc2_cargo.specs.Raw.{Path, RawCell, raw_members_at, table}
use Rattle.cc2_cargo_settings.specs.Changes.{Cells, Change, changes_at}
use Rattle.cc2_cargo_settings.specs.Named.{RawTable, named_rows}
use Rattle.cc2_cargo_settings.specs.Settings.{rows}
use Rattle.cc2_cargo_settings.specs.Values.{on_ok}

-- what is at a path below a member once cells are put at another: theirs at and below that one, tables above it
abbrev pub put_below : Path → Cells → Path → Option (Option RawCell)
put_below [] cells p = Some (cells p)
put_below (k ∷ path) cells [] = Some (Some table)
put_below (k ∷ path) cells (j ∷ p) = if bytes_eq k j then put_below path cells p else None

-- the same of a path of the settings: what a change makes of it; none where it doesn't concern the path
abbrev pub put_at : Path → Cells → Path → Option (Option RawCell)
put_at [] cells p = None
put_at (k ∷ path) cells [] = None
put_at (k ∷ path) cells (j ∷ p) = put_below (k ∷ path) cells (j ∷ p)

-- what the last change that concerns a path makes of it
abbrev pub changed_at : List Change → Path → Option (Option RawCell)
changed_at [] p = None
changed_at (c ∷ cs) p = option_or (changed_at cs p) (put_at c.path c.cells p)

-- the cell at a path: what a change makes of it, else the one that was there
abbrev pub under_at : List Change → (Path → Option RawCell) → Path → Option RawCell
under_at cs look p = unwrap_or (changed_at cs p) (look p)

-- the cells under variables, or the first refusal, where a key asks for them: the empty path for all. Of names that users
-- choose those count that the settings have, those that there always are, and the one that is asked for
abbrev pub under : RawTable → Machine → Path → Result (Path → Option RawCell) Refusal
under settings machine asked =
    on_ok (λ cs. Ok (under_at cs (raw_members_at settings))) (changes_at (raw_members_at settings) machine asked (rows ++ named_rows settings asked))
