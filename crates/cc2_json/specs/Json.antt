-- A tree as JSON: a table is an object, whose members are in the order of their keys' bytes.
use Rattle.std.specs.Prelude.{◌≡◌, ℕ, Bool, true, false, List, ◌∷◌, Option, Some, None, option_map, String, if◌then◌else◌}
use Rattle.std.specs.declared.alloc.Global.{Global}
use Rattle.serde_json.specs.Data.{Data, object, Members, no_members, member, put}
use Rattle.serde_json.specs.Find.{as_object}
use Rattle.serde_json.specs.View.{view, members_view}
use Rattle.serde_json.specs.declared.value.Value.{Value}
use Rattle.cc2_value.specs.Cells.{Key, field, name, KeyPath}
use Rattle.cc2_value.specs.Visits.{Look}
use Rattle.cc2_json.specs.Forms.{cell_data, told_at}
use Rattle.cc2_json.specs.Trees.{Tree, nothing, leaf, table, Branches, no_branches, branch, branch_at, row_branches, lacks, AreProper, IsTreeOf, AreTreesOf}
use Rattle.cc2_json.specs.declared.form.Form.{Form}

abbrev pub is_none_in : Members → Bool
is_none_in no_members = true
is_none_in (member k d ms) = false

abbrev pub is_bare_object : Option Members → Bool
is_bare_object None = false
is_bare_object (Some ms) = is_none_in ms

-- whether it is an object without members
abbrev pub is_bare : Data → Bool
is_bare d = is_bare_object (as_object d)

-- what is at a field's key: a table that shows nothing isn't written
abbrev pub put_field : Form → List ℕ → Data → Members → Members
put_field form k d ms = if is_bare d then ms else put k (told_at form (field k) d) ms

-- what is at a key, put among members; at a name that the file picks a table is written even where it shows nothing
abbrev pub put_told : Form → Key → Option Data → Members → Members
put_told form (field k) None ms = ms
put_told form (field k) (Some d) ms = put_field form k d ms
put_told form (name k) None ms = ms
put_told form (name k) (Some d) ms = put k d ms

-- a tree as JSON; of two branches with one text the first is kept
abbrev mutual
  pub tree_data : Form → Tree → Option Data
  tree_data form nothing = None
  tree_data form (leaf c) = cell_data form.origins c
  tree_data form (table own bs) = Some (object (put_branches form bs no_members))

  pub put_branches : Form → Branches → Members → Members
  put_branches form no_branches ms = ms
  put_branches form (branch k t bs) ms = put_told form k (tree_data form t) (put_branches form bs ms)

-- the JSON is that of a proper tree that has the cells of the look
pub record IsJsonOf (form : Form) (look : Look) (json : Option Value) : Type 0 where
  pub tree : Tree
  pub of : IsTreeOf look tree
  pub is : option_map view json ≡ tree_data form tree

-- the members are those of m and, each at its key, what the looks show
pub record ArePut (form : Form) (keys : List (List ℕ)) (looks : List Look) (m n : List (String Global × Value)) : Type 0 where
  pub trees : List Tree
  pub of : AreTreesOf looks trees
  pub are : members_view n ≡ put_branches form (row_branches keys trees) (members_view m)

-- the members are those of m and what the look shows below its root
pub record IsPutBelow (form : Form) (look : Look) (m n : List (String Global × Value)) : Type 0 where
  pub branches : Branches
  pub proper : AreProper branches
  pub shows : (k : Key) (p : KeyPath) → branch_at branches k p ≡ look (k ∷ p)
  pub are : members_view n ≡ put_branches form branches (members_view m)

-- the members are those of m and, each at its name, what the look shows below its root
pub record AreNamesPut (form : Form) (look : Look) (m n : List (String Global × Value)) : Type 0 where
  pub branches : Branches
  pub proper : AreProper branches
  pub no_field : (k : List ℕ) → lacks (field k) branches ≡ true
  pub shows : (k : Key) (p : KeyPath) → branch_at branches k p ≡ look (k ∷ p)
  pub are : members_view n ≡ put_branches form branches (members_view m)

-- an object of what the look shows below its root
pub record IsObjectOf (form : Form) (look : Look) (d : Data) : Type 0 where
  pub branches : Branches
  pub proper : AreProper branches
  pub shows : (k : Key) (p : KeyPath) → branch_at branches k p ≡ look (k ∷ p)
  pub is : d ≡ object (put_branches form branches no_members)

-- all objects of the look are equal
abbrev pub HasOneObject : Form → Look → Type 0
HasOneObject form look = (d e : Data) → IsObjectOf form look d → IsObjectOf form look e → d ≡ e

-- at the key of a field each JSON of the look puts the same members
abbrev pub HasOneField : Form → Look → Type 0
HasOneField form look =
    (a b : Option Value) (k : List ℕ) (ms : Members) → IsJsonOf form look a → IsJsonOf form look b
    → put_told form (field k) (option_map view a) ms ≡ put_told form (field k) (option_map view b) ms
