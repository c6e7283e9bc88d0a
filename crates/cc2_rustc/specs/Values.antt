-- The values that rustc printed for a name, in byte order, each once.
-- rustc book, Command-line arguments, `--print`; Rust Reference, Conditional compilation.
use Rattle.std.specs.Prelude.{ℕ, List, [], filter_map, Option, Some, None, if◌then◌else◌, bytes_eq}
use Rattle.std.specs.List.{fold}
use Rattle.std.specs.Ordering.{nat_cmp}
use Rattle.std.specs.Cmp.Lexicographic.{slice_cmp}
use Rattle.std.specs.BTreeSet.{insert_key}
use Rattle.cc2_cfg.specs.Meaning.{Atom, FlagAtom, PairAtom}

-- the value of a pair of this name
abbrev pub value_at : List ℕ → Atom → Option (List ℕ)
value_at name (FlagAtom word) = None
value_at name (PairAtom key value) = if bytes_eq name key then Some value else None

-- texts with one more at its place in byte order, unless it is there
abbrev pub with_text : List (List ℕ) → List ℕ → List (List ℕ)
with_text texts text = insert_key (slice_cmp nat_cmp) texts text

-- and with one where there is one
abbrev pub with_value : List (List ℕ) → Option (List ℕ) → List (List ℕ)
with_value texts (Some text) = with_text texts text
with_value texts None = texts

-- the values of the pairs of this name, in byte order, each once
abbrev pub values_of : List ℕ → List Atom → List (List ℕ)
values_of name atoms = fold with_text [] (filter_map (value_at name) atoms)
