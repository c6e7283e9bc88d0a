-- Worked rows, computed on the definitions: target tables, read from what TOML has.
use Rattle.std.proofs.Common.{◌≡◌, ℕ, List, [], ◌∷◌, Option, Some, None, Ok, pos, codes, refl}
use lib.Utf8.{encode}
use Rattle.std.specs.Str.{trim_start, trim_end, chars}
use Rattle.toml.specs.Data.{Data, Members, no_members, member, string, integer, table}
use Rattle.cc2_value.specs.Cells.{field, name, KeyPath, Cell, Single, Entry, Undecoded, word, joined}
use Rattle.cc2_value.specs.Ways.{ill_typed, no_word}
use Rattle.cc2_target_table.specs.TargetReading.{own_faults, read_target}

-- the table whose one member this is
abbrev with : List ℕ → Data → Members
with key d = member key d no_members

-- its cell at a key path
abbrev cell : KeyPath → Members → Option Cell
cell p ms = read_target p None (Some ms)

-- a number is no linker
pub own_linker : own_faults (Some (with (codes "linker") (integer (pos 3)))) ≡ (field (codes "linker") ∷ [], ill_typed) ∷ []
own_linker = refl

-- a command has a word
pub own_runner : own_faults (Some (with (codes "runner") (string []))) ≡ (field (codes "runner") ∷ [], no_word) ∷ []
unfolding trim_start trim_end chars encode
own_runner = refl

-- the same below another key is no fault, and leaves a mark
pub nested_linker : own_faults (Some (with (codes "y") (table (with (codes "linker") (integer (pos 3)))))) ≡ []
nested_linker = refl

pub nested_linker_mark : cell (name (codes "y") ∷ []) (with (codes "y") (table (with (codes "linker") (integer (pos 3))))) ≡ Some Undecoded
nested_linker_mark = refl

pub nested_runner_mark : cell (name (codes "y") ∷ []) (with (codes "y") (table (with (codes "runner") (string [])))) ≡ Some Undecoded
unfolding trim_start trim_end chars encode
nested_runner_mark = refl

-- a key with a dot is one name, and a number below it is no table
pub dotted_mark : cell (name (codes "b.c") ∷ []) (with (codes "b.c") (integer (pos 3))) ≡ Some Undecoded
dotted_mark = refl

-- a table below another key is one of the same form
pub nested_entry : cell (name (codes "y") ∷ []) (with (codes "y") (table no_members)) ≡ Some Entry
nested_entry = refl

pub nested_text : cell (name (codes "y") ∷ field (codes "linker") ∷ []) (with (codes "y") (table (with (codes "linker") (string (codes "l")))))
    ≡ Some (Single (record { payload = word (codes "l"); origin = None }))
nested_text = refl

-- what is further below a mark isn't kept
pub below_mark : cell (name (codes "y") ∷ field (codes "linker") ∷ []) (with (codes "y") (table (member (codes "linker") (string (codes "l")) (with (codes "runner") (string []))))) ≡ None
unfolding trim_start trim_end chars encode
below_mark = refl

-- a field's key is no name
pub field_is_no_name : cell (name (codes "linker") ∷ []) (with (codes "linker") (string (codes "l"))) ≡ None
field_is_no_name = refl

-- a table replaces a mark, whichever is the stronger
pub near_mark : joined (Undecoded ∷ Entry ∷ []) ≡ Ok (Some Entry)
near_mark = refl

pub far_mark : joined (Entry ∷ Undecoded ∷ []) ≡ Ok (Some Entry)
far_mark = refl
