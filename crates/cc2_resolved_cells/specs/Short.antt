-- Which numbers and lengths fit four bytes.
use Rattle.std.specs.Prelude.{ℕ, ◌+◌, nat_abs, List, [], ◌∷◌, length}
use Rattle.std.specs.List.{AllByRecursion}
use Rattle.cc2_ask.specs.Fields.{IsSmall, IsShortList}
use Rattle.cc2_value.specs.Cells.{KeyPath, key_text}
use Rattle.cc2_resolved_cells.specs.Cells.{ResolvedCell}
use Rattle.cc2_resolved_cells.specs.Values.{ValueItem, text, list, Value, number, truth, one, several, place, variable, written_value}

abbrev pub IsShortItem : ValueItem → Type 0
IsShortItem (text t) = IsSmall (length t)
IsShortItem (list ts) = IsShortList ts

abbrev pub AreShortItems : List ValueItem → Type 0
AreShortItems items = AllByRecursion IsShortItem items

abbrev pub IsShortValue : Value → Type 0
IsShortValue (number z) = IsSmall (nat_abs z)
IsShortValue (truth b) = Unit {0}
IsShortValue (one item) = IsShortItem item
IsShortValue (several items) = IsSmall (length items) × AreShortItems items
IsShortValue place = Unit {0}
IsShortValue (variable v) = IsSmall (length v.value)

abbrev pub AreShortKeys : KeyPath → Type 0
AreShortKeys p = AllByRecursion (λ k. IsSmall (length (key_text k))) p

-- each number of the cells, the length of each text and list, and the absolute value of each number fit four bytes, also
-- with so many keys in front
abbrev pub AreShortBehind : ℕ → List ResolvedCell → Type 0
AreShortBehind depth [] = Unit {0}
AreShortBehind depth (c ∷ cs) =
    IsSmall (depth + length c.0) × AreShortKeys c.0 × IsShortValue (written_value c.1) × AreShortBehind depth cs
