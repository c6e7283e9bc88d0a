-- From the cells of its parts to those of a merged target table.
use Rattle.std.proofs.Common.{rules, String, BTreeMap, Global, false, ◌≡◌, option_map, ℕ, List, [], ◌∷◌, Option, Some, None, Ok, refl, sym, ap, ◌∙◌, inl, inr}
use Rattle.std.specs.Global.{Box}
use Rattle.std.specs.BTreeMap.{get_by_text}
use Rattle.cc2_error.specs.declared.error.Error.{Error}
use Rattle.cc2_value.specs.Cells.{field, name, KeyPath, Cell, Origin}
use Rattle.cc2_value.specs.Copies.{cell_set, IsCopied}
use Rattle.cc2_value.specs.Gathered.{reversed, IsGathered, IsUngathered, IsReversed, FieldsGathered, FieldsReversed, IsFieldUngathered}
use Rattle.cc2_value.specs.Shown.{map_at, option_at}
use Rattle.cc2_value.specs.Visits.{FieldsCopied}
use Rattle.cc2_value.proofs.Copies.{table_copied}
use Rattle.cc2_value.proofs.GatheredTables.{field_gathered, field_reversed}
use Rattle.cc2_value.proofs.Built.{IsBuilt}
use Rattle.cc2_value.proofs.TwoCells.{both}
use Rattle.cc2_target_table.specs.declared.target.TargetConfig.{TargetConfig}
use Rattle.cc2_target_table.specs.declared.target.Node.{Node, the_lemmas}
use Rattle.cc2_target_table.specs.declared.target.Node.TheBlock as block
use Rattle.cc2_target_table.specs.declared.target.Node.TheViews.{Table}
use Rattle.cc2_target_table.specs.Target.{target_fields, in_found, below_target, mark_at, target_at, node_at}

pub found_same : (p : KeyPath) (o : Option Node) → in_found p (below_target p) o ≡ option_at node_at o p
found_same p None = refl
found_same p (Some n) = refl

-- a node that is a table shows its cells
pub table_node : (b : Box TargetConfig) (p : KeyPath) → node_at (Table b) p ≡ target_at b.value p
table_node b p = search (rules, the_lemmas)

-- and one that doesn't decode its mark
pub mark_node : (p : KeyPath) → node_at block.Undecoded p ≡ mark_at p
mark_node p = search (rules, the_lemmas)

-- a cell with its list reversed, where there is one
abbrev pub R : Option Cell → Option Cell
R o = option_map reversed o

-- what is refused of two tables is refused of their nodes
pub tables_refused : (high low : Node) (s t : Box TargetConfig) (e : Error) → high ≡ Table s → low ≡ Table t → IsUngathered target_at s.value t.value e → IsUngathered node_at high low e
tables_refused high low s t e is is' (inl memory) = inl memory
tables_refused high low s t e is is' (inr (p, shapes, meets, says)) =
    inr (
      p,
      shapes,
      ap (λ (n : Node). both (R (node_at n p)) (node_at low p)) is ∙ ap (λ (o : Option Cell). both (R o) (node_at low p)) (table_node s p)
          ∙ ap (λ (n : Node). both (R (target_at s.value p)) (node_at n p)) is' ∙ ap (λ (o : Option Cell). both (R (target_at s.value p)) o) (table_node t p) ∙ meets,
      says,
    )

-- below a name is what the map has there
below_name : (t : TargetConfig) (k : List ℕ) (p : KeyPath) → target_at t (name k ∷ p) ≡ map_at node_at t.nested (name k ∷ p)
below_name t k p = found_same p (get_by_text t.nested k)

both_below : (x y : TargetConfig) (k : List ℕ) (p : KeyPath)
    → both (R (target_at x (name k ∷ p))) (target_at y (name k ∷ p)) ≡ both (R (map_at node_at x.nested (name k ∷ p))) (map_at node_at y.nested (name k ∷ p))
both_below x y k p = (λ i. both (R (below_name x k p i)) (below_name y k p i))

-- a table whose fields and nested tables are gathered is gathered
pub target_gathered : (x y c : TargetConfig) → FieldsGathered target_fields x y c → IsGathered (map_at node_at) x.nested y.nested c.nested → IsGathered target_at x y c
target_gathered x y c fields below [] = refl
target_gathered x y c fields below (field k ∷ p) = field_gathered target_fields x y c fields k p
target_gathered x y c fields below (name k ∷ p) = both_below x y k p ∙ below (name k ∷ p) ∙ ap (λ (o : Option Cell). Ok (R o)) (sym (below_name c k p))

-- what is refused of the nested tables is refused of the table
pub target_refused : (x y : TargetConfig) (e : Error) → IsUngathered (map_at node_at) x.nested y.nested e → IsUngathered target_at x y e
target_refused x y e (inl memory) = inl memory
target_refused x y e (inr ([], shapes, meets, says)) = cc
target_refused x y e (inr (field k ∷ p, shapes, meets, says)) = cc
target_refused x y e (inr (name k ∷ p, shapes, meets, says)) = inr (name k ∷ p, shapes, both_below x y k p ∙ meets, says)

-- what is refused of the fields is refused of the table
pub target_field_refused : (x y : TargetConfig) (e : Error) → IsFieldUngathered target_fields x y e → IsUngathered target_at x y e
target_field_refused x y e (k, inl memory) = inl memory
target_field_refused x y e (k, inr h) = inr (field k ∷ h.0, h.1, h.2, h.3)

-- a table whose fields' and nested tables' lists are reversed has its lists reversed
pub target_reversed : (x c : TargetConfig) → FieldsReversed target_fields x c → IsReversed (map_at node_at) x.nested c.nested → IsReversed target_at x c
target_reversed x c fields below [] = refl
target_reversed x c fields below (field k ∷ p) = field_reversed target_fields x c fields k p
target_reversed x c fields below (name k ∷ p) = below_name c k p ∙ below (name k ∷ p) ∙ ap R (sym (below_name x k p))

-- nested tables, one by one
abbrev pub reversed_seen : List ℕ → KeyPath → Option Node → Option Cell
reversed_seen k p o = R (option_at node_at o p)

pub nested_reversed : (m n : BTreeMap (String Global) Node) → IsBuilt node_at reversed_seen m.entries n → IsReversed (map_at node_at) m n
nested_reversed m n built [] = refl
nested_reversed m n built (field k ∷ p) = refl
nested_reversed m n built (name k ∷ p) = sym (built k p)

-- a table whose fields and nested tables are copied is copied
pub target_copied : (origin : Option Origin) (x y : TargetConfig) → FieldsCopied target_fields origin x y → IsCopied (map_at node_at) origin x.nested y.nested → IsCopied target_at origin x y
target_copied origin x y fields below [] = refl
target_copied origin x y fields below (field k ∷ p) = table_copied false target_fields origin x y fields (field k ∷ p)
target_copied origin x y fields below (name k ∷ p) = below_name y k p ∙ below (name k ∷ p) ∙ ap (λ (o : Option Cell). option_map (cell_set origin) o) (sym (below_name x k p))
