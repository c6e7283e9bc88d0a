-- The flags and pairs that the output of rustc's `--print cfg` lists.
-- rustc book, Command-line arguments, `--print`; Rust Reference, Conditional compilation.
use Rattle.std.specs.Prelude.{ℕ, ◌-◌, nat_le, ◌==◌, ◌&&◌, if◌then◌else◌, Bool, true, false, bytes_eq}
use Rattle.std.specs.Prelude.{List, [], ◌∷◌, map, filter, filter_map, length, slice_index, slice_range}
use Rattle.std.specs.Prelude.{Option, Some, None, option_map, string_bytes}
use Rattle.std.specs.List.{position_or_len, before_first, after_first}
use Rattle.std.specs.Str.{trim}
use Rattle.std.specs.Str.Lines.{lines}
use Rattle.cc2_cfg.specs.Meaning.{Atom, FlagAtom, PairAtom}
use Rattle.cc2_rustc.specs.declared.cfg_set.CfgSet.{CfgSet}
use Rattle.cc2_rustc.specs.declared.printed.Printed.{Printed}
use Rattle.cc2_rustc.specs.declared.printed.Printed.TheVariants as line

-- `=`
abbrev pub is_equals : ℕ → Bool
is_equals b = b == 61

-- the text isn't empty
abbrev pub has_bytes : List ℕ → Bool
has_bytes [] = false
has_bytes (b ∷ bs) = true

-- the value has at least two bytes, and begins and ends with `"`
abbrev pub is_quoted : List ℕ → Bool
is_quoted value =
    nat_le 2 (length value) && (slice_index value 0 == 34) && (slice_index value (length value - 1) == 34)

-- the text between these
abbrev pub inside : List ℕ → Option (List ℕ)
inside value = if is_quoted value then Some (slice_range value 1 (length value - 1)) else None

-- what a line says: without `=` it is a flag, else a pair where the value is quoted
abbrev pub atom_in : List ℕ → Option Atom
atom_in text = if position_or_len is_equals text == length text then Some (FlagAtom text)
    else option_map (PairAtom (before_first is_equals text)) (inside (after_first is_equals text))

-- what the lines say, trimmed and without the blank ones
abbrev pub printed : List ℕ → List Atom
printed text = filter_map atom_in (filter has_bytes (map trim (lines text)))

-- two predicates are the same
abbrev pub same_atom : Atom → Atom → Bool
same_atom (FlagAtom word) (FlagAtom other) = bytes_eq word other
same_atom (FlagAtom word) (PairAtom key value) = false
same_atom (PairAtom key value) (FlagAtom other) = false
same_atom (PairAtom key value) (PairAtom name text) = bytes_eq key name && bytes_eq value text

-- ---- what the structs show

abbrev pub atom_of_printed : Printed → Atom
atom_of_printed (line.Flag word) = FlagAtom (string_bytes word)
atom_of_printed (line.Pair key value) = PairAtom (string_bytes key) (string_bytes value)

abbrev pub atoms_of : CfgSet → List Atom
atoms_of set = map atom_of_printed set.printed.items
