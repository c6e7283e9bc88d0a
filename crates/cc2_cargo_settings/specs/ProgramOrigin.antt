-- Where the program of a command counts as set, from which it is relative. Of several layers Cargo 1.95 takes the items of an
-- array from the one that takes precedence, and where it is set from the first that it reads: of the nearest file before a farther
-- one, of files before the command line, of a file before one that includes it. Cargo Reference, Configuration,
-- `target.<triple>.runner`, config-relative paths.
use Rattle.std.specs.Prelude.{ℕ, List, [], ◌∷◌, Option, Some, None, if◌then◌else◌}
use Rattle.cc2_value.specs.Cells.{Origin, Word, variable}
use Rattle.cc2_cargo.specs.Raw.{RawCell, single, array, table, is_of_override}
use Rattle.cc2_cargo_settings.specs.Found.{Lookup, nowhere, at, blocked}

-- the first word as if it were set there
abbrev pub first_set_at : Option Origin → List Word → List Word
first_set_at origin [] = []
first_set_at origin (w ∷ ws) = record { text = w.text; origin = origin } ∷ ws

-- where what is at a path is set, an array as a whole
abbrev pub cell_origin : RawCell → Option Origin
cell_origin (single s) = s.origin
cell_origin (array from ss) = from.origin
cell_origin table = None

abbrev pub origin_there : Lookup → Option Origin
origin_there nowhere = None
origin_there (at c) = cell_origin c
origin_there blocked = None

-- beside a variable the program is relative to where the command line sets what is there, else to where the variable is
abbrev pub origin_beside : List ℕ → Option Origin → Option Origin
origin_beside name origin = if is_of_override origin then origin else Some (variable name)
