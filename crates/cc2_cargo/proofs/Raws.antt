-- What raw values show, by their variants.
use Rattle.std.proofs.Common.{◌≡◌, ℕ, String, BTreeMap, Global, List, [], ◌∷◌, map, Option, Some, rules, ap, ◌∙◌}
use Rattle.std.specs.BTreeMap.{get_by_text}
use Rattle.toml.specs.declared.value.Value.{Value as TomlValue}
use Rattle.cc2_value.specs.declared.value.Value.{Value}
use Rattle.cc2_cargo.specs.Raw as cell
use Rattle.cc2_cargo.specs.Raw.{RawCell, Path, array_cell, in_member, member_of, raw_members_at, below_raw, raw_at, raw_value}
use Rattle.cc2_cargo.specs.RawReading.{IsOne}
use Rattle.cc2_cargo.specs.declared.raw.Raw.{Raw, out-Raw, the_lemmas}
use Rattle.cc2_cargo.specs.declared.raw.RawArray.{RawArray}
use Rattle.cc2_cargo.specs.declared.raw.Raw.TheBlock.{Single as single, Array as array}
use Rattle.cc2_cargo.specs.declared.raw.Raw.TheViews.{Table as table}

-- what a table shows
abbrev pub table_at : BTreeMap (String Global) Raw → Path → Option RawCell
table_at m [] = Some cell.table
table_at m (k ∷ p) = raw_members_at m (k ∷ p)

member_in : (k : List ℕ) (m : BTreeMap (String Global) Raw) → member_of k (out-Raw (table m)) ≡ get_by_text m k
member_in k m = search (rules, the_lemmas)

pub raw_table : (m : BTreeMap (String Global) Raw) (p : Path) → raw_at (table m) p ≡ table_at m p
raw_table m [] = search (rules, the_lemmas)
raw_table m (k ∷ p) = ap (in_member (below_raw p)) (member_in k m)

pub raw_single : (v : Value TomlValue) → IsOne (cell.single (raw_value v)) (single v)
raw_single v [] = search (rules, the_lemmas)
raw_single v (k ∷ p) = search (rules, the_lemmas)

pub raw_array : (a : RawArray) → IsOne (array_cell a) (array a)
raw_array a [] = search (rules, the_lemmas)
raw_array a (k ∷ p) = search (rules, the_lemmas)

-- the cell of the value itself
pub table_here : (r : Raw) (m : BTreeMap (String Global) Raw) → r ≡ table m → raw_at r [] ≡ Some cell.table
table_here r m is = ap (λ (x : Raw). raw_at x []) is ∙ raw_table m []

pub array_here : (r : Raw) (a : RawArray) → r ≡ array a → raw_at r [] ≡ Some (array_cell a)
array_here r a is = ap (λ (x : Raw). raw_at x []) is ∙ raw_array a []

pub single_here : (r : Raw) (v : Value TomlValue) → r ≡ single v → raw_at r [] ≡ Some (cell.single (raw_value v))
single_here r v is = ap (λ (x : Raw). raw_at x []) is ∙ raw_single v []
