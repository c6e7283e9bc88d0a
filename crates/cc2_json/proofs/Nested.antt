-- Target tables, whose members are those that are nested and then those of their fields.
use Rattle.std.proofs.Common.{◌≡◌, ℕ, Bool, true, false, true≢false, cond, List, [], ◌∷◌, Option, Some, None, String, Global, refl, sym, ap, ◌∙◌}
use Rattle.std.specs.Prelude.{is_some, if◌then◌else◌}
use Rattle.std.specs.BTreeMap.{get_by_text}
use Rattle.std.specs.Global.{Box}
use Rattle.serde_json.specs.Data.{Members, object}
use Rattle.serde_json.specs.View.{view, members_view}
use Rattle.serde_json.specs.declared.value.Value.{Value}
use Rattle.cc2_value.specs.Cells.{Key, field, name, KeyPath, Entry, Undecoded}
use Rattle.cc2_value.specs.Rows.{keys_of_fields, looks_of_fields}
use Rattle.cc2_value.specs.Shown.{map_at}
use Rattle.cc2_value.specs.Visits.{Look}
use Rattle.cc2_target_table.specs.declared.target.Node.{Node, out-Node}
use Rattle.cc2_target_table.specs.declared.target.Node.TheOpen.{Node-F}
use Rattle.cc2_target_table.specs.declared.target.Node.TheViews as node
use Rattle.cc2_target_table.specs.declared.target.TargetConfig.{TargetConfig}
use Rattle.cc2_target_table.specs.Target.{target_fields, in_node, below_target, mark_at, target_at, node_at}
use Rattle.cc2_target_table.proofs.Targets.{found_same, table_node}
use Rattle.cc2_json.specs.Json.{put_branches, put_told, tree_data, AreNamesPut, ArePut, IsJsonOf, IsPutBelow}
use Rattle.cc2_json.specs.Trees.{Tree, leaf, table, Branches, no_branches, branch, is_key, tree_at, branch_at, row_branches, lacks, AreProper, AreTreesOf}
use Rattle.cc2_json.specs.declared.form.Form.{Form}
use Rattle.cc2_json.proofs.Trees.{row_proper, row_shows, same_part, none_put, pair_put}

-- the branches of both, the first ones in front
abbrev joined : Branches → Branches → Branches
joined no_branches bs = bs
joined (branch k t cs) bs = branch k t (joined cs bs)

-- all of them have fields as keys
abbrev AreFields : Branches → Type 0
AreFields no_branches = Unit {0}
AreFields (branch (field k) t bs) = AreFields bs
AreFields (branch (name k) t bs) = ⊥

row_fields : (ks : List (List ℕ)) (ts : List Tree) → AreFields (row_branches ks ts)
row_fields [] ts = tt
row_fields (k ∷ ks) [] = tt
row_fields (k ∷ ks) (t ∷ ts) = row_fields ks ts

joined_lacks : (k : Key) (cs bs : Branches) → lacks k cs ≡ true → lacks k bs ≡ true → lacks k (joined cs bs) ≡ true
joined_lacks k no_branches bs h g = g
joined_lacks k (branch l t cs) bs h g = go (is_key l k) h (λ r. joined_lacks k cs bs r g)
  where
    go : (b : Bool) → (if b then false else lacks k cs) ≡ true → (lacks k cs ≡ true → lacks k (joined cs bs) ≡ true) → (if b then false else lacks k (joined cs bs)) ≡ true
    go true h rest = absurd (true≢false (sym h))
    go false h rest = rest h

-- fields before names are proper, whatever texts they share
joined_proper : (cs bs : Branches) → AreFields cs → AreProper cs → AreProper bs → ((k : List ℕ) → lacks (field k) bs ≡ true) → AreProper (joined cs bs)
joined_proper no_branches bs fields proper proper' no_field = proper'
joined_proper (branch (field k) t cs) bs fields proper proper' no_field =
    (joined_lacks (field k) cs bs proper.0 (no_field k), proper.1, proper.2, joined_proper cs bs fields proper.3 proper' no_field)
joined_proper (branch (name k) t cs) bs fields proper proper' no_field = absurd fields

joined_put : (form : Form) (cs bs : Branches) (m : Members) → put_branches form (joined cs bs) m ≡ put_branches form cs (put_branches form bs m)
joined_put form no_branches bs m = refl
joined_put form (branch k t cs) bs m = ap (λ n. put_told form k (tree_data form t) n) (joined_put form cs bs m)

joined_field : (cs bs : Branches) (q : List ℕ) (p : KeyPath) → branch_at bs (field q) p ≡ None → branch_at (joined cs bs) (field q) p ≡ branch_at cs (field q) p
joined_field no_branches bs q p none = none
joined_field (branch k t cs) bs q p none = ap (λ o. cond (is_key k (field q)) (tree_at t p) o) (joined_field cs bs q p none)

joined_name : (ks : List (List ℕ)) (ts : List Tree) (bs : Branches) (q : List ℕ) (p : KeyPath)
    → branch_at (joined (row_branches ks ts) bs) (name q) p ≡ branch_at bs (name q) p
joined_name [] ts bs q p = refl
joined_name (k ∷ ks) [] bs q p = refl
joined_name (k ∷ ks) (t ∷ ts) bs q p = joined_name ks ts bs q p

in_own : (n : Node-F Node TargetConfig) → is_some (in_node [] (below_target []) n) ≡ true
in_own (Node-F.Table b) = refl
in_own Node-F.Undecoded = refl

-- a nested table has a cell of its own
pub node_own : (n : Node) → is_some (node_at n []) ≡ true
node_own n = in_own (out-Node n)

module _ (form : Form) where
  -- one part, at the first of more keys
  widened : (k : List ℕ) (ks : List (List ℕ)) (look : Look) (ts : List Tree) (x y : List (String Global × Value)) → AreTreesOf (look ∷ []) ts
      → members_view y ≡ put_branches form (row_branches (k ∷ []) ts) (members_view x) → members_view y ≡ put_branches form (row_branches (k ∷ ks) ts) (members_view x)
  widened k ks look [] x y of are = absurd of
  widened k ks look (t ∷ []) x y of are = are ∙ ap (λ m. put_told form (field k) (tree_data form t) m) (sym (none_put form ks (members_view x)))
  widened k ks look (t ∷ (u ∷ ts)) x y of are = absurd of.1

  wide : (k : List ℕ) (ks : List (List ℕ)) (look : Look) (x y : List (String Global × Value)) → ArePut form (k ∷ []) (look ∷ []) x y → ArePut form (k ∷ ks) (look ∷ []) x y
  wide k ks look x y h = record { trees = h.trees; of = h.of; are = widened k ks look h.trees x y h.of h.are }

  -- four parts, the last one put first
  pub four_put : (a b c d : List ℕ) (la lb lc ld : Look) (x4 x3 x2 x1 x0 : List (String Global × Value))
      → ArePut form (d ∷ []) (ld ∷ []) x4 x3 → ArePut form (c ∷ []) (lc ∷ []) x3 x2 → ArePut form (b ∷ []) (lb ∷ []) x2 x1 → ArePut form (a ∷ []) (la ∷ []) x1 x0
      → ArePut form (a ∷ b ∷ c ∷ d ∷ []) (la ∷ lb ∷ lc ∷ ld ∷ []) x4 x0
  four_put a b c d la lb lc ld x4 x3 x2 x1 x0 hd hc hb ha =
      let cd : ArePut form (c ∷ d ∷ []) (lc ∷ ld ∷ []) x4 x2 = pair_put form (c ∷ d ∷ []) (lc ∷ []) (ld ∷ []) 1 x4 x3 x2 refl hd (wide c (d ∷ []) lc x3 x2 hc) in
      let bcd : ArePut form (b ∷ c ∷ d ∷ []) (lb ∷ lc ∷ ld ∷ []) x4 x1 =
      pair_put form (b ∷ c ∷ d ∷ []) (lb ∷ []) (lc ∷ ld ∷ []) 1 x4 x2 x1 refl cd (wide b (c ∷ d ∷ []) lb x2 x1 hb) in
      pair_put form (a ∷ b ∷ c ∷ d ∷ []) (la ∷ []) (lb ∷ lc ∷ ld ∷ []) 1 x4 x1 x0 refl bcd (wide a (b ∷ c ∷ d ∷ []) la x1 x0 ha)

  -- a table's members are those of what is nested, and those of its fields in front
  pub target_put : (t : TargetConfig) (x y z : List (String Global × Value)) → AreNamesPut form (map_at node_at t.nested) x y
      → ArePut form (keys_of_fields target_fields) (looks_of_fields target_fields t) y z → IsPutBelow form (target_at t) x z
  target_put t x y z nested own =
      record {
        branches = joined row nested.branches;
        proper = joined_proper row nested.branches (row_fields (keys_of_fields target_fields) own.trees)
            (row_proper (keys_of_fields target_fields) (looks_of_fields target_fields t) own.trees own.of refl) nested.proper nested.no_field;
        shows = at;
        are = own.are ∙ ap (put_branches form row) nested.are ∙ sym (joined_put form row nested.branches (members_view x));
      }
    where
      row : Branches
      row = row_branches (keys_of_fields target_fields) own.trees

      at : (k : Key) (p : KeyPath) → branch_at (joined row nested.branches) k p ≡ target_at t (k ∷ p)
      at (field q) p =
          joined_field row nested.branches q p (nested.shows (field q) p)
          ∙ row_shows (keys_of_fields target_fields) (looks_of_fields target_fields t) own.trees own.of (field q) p ∙ sym (same_part target_fields t q p)
      at (name q) p =
          joined_name (keys_of_fields target_fields) own.trees nested.branches q p ∙ nested.shows (name q) p ∙ sym (found_same p (get_by_text t.nested q))

  below_entry : (t : TargetConfig) (bs : Branches) → ((k : Key) (p : KeyPath) → branch_at bs k p ≡ target_at t (k ∷ p)) → (p : KeyPath)
      → tree_at (table (Some Entry) bs) p ≡ target_at t p
  below_entry t bs shows [] = refl
  below_entry t bs shows (k ∷ p) = shows k p

  -- a table whose members are put in an object
  pub target_is : (t : TargetConfig) (json : Value) (x y : List (String Global × Value)) → x ≡ [] → IsPutBelow form (target_at t) x y
      → view json ≡ object (members_view y) → IsJsonOf form (target_at t) (Some json)
  target_is t json x y none put is =
      record {
        tree = table (Some Entry) put.branches;
        of = record { proper = (refl, put.proper); shows = below_entry t put.branches put.shows };
        is = ap Some (is ∙ ap object (put.are ∙ ap (λ l. put_branches form put.branches (members_view l)) none));
      }

  -- the same of a node that is a table
  pub node_is : (n : Node) (b : Box TargetConfig) (json : Option Value) → n ≡ node.Table b → IsJsonOf form (target_at b.value) json → IsJsonOf form (node_at n) json
  node_is n b json is h =
      record {
        tree = h.tree;
        of = record { proper = h.of.proper; shows = λ p. h.of.shows p ∙ sym (table_node b p) ∙ sym (ap (λ m. node_at m p) is) };
        is = h.is;
      }

  mark_shows : (p : KeyPath) → tree_at (leaf Undecoded) p ≡ mark_at p
  mark_shows [] = refl
  mark_shows (k ∷ p) = refl

  -- what doesn't decode isn't written
  pub undecoded_is : (n : Node) → ((p : KeyPath) → node_at n p ≡ mark_at p) → IsJsonOf form (node_at n) None
  undecoded_is n is = record { tree = leaf Undecoded; of = record { proper = refl; shows = λ p. mark_shows p ∙ sym (is p) }; is = refl }
