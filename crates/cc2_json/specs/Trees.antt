-- What a value shows, as a tree: what is at each key, and the cell at each key path.
use Rattle.std.specs.Prelude.{◌≡◌, ℕ, Bool, true, false, ◌&&◌, List, [], ◌∷◌, Option, Some, None, if◌then◌else◌}
use Rattle.std.specs.Str.{bytes_eq}
use Rattle.cc2_value.specs.Cells.{Key, field, name, KeyPath, Cell, is_entry}
use Rattle.cc2_value.specs.Visits.{Look}

mutual
  pub data Tree : Type 0 where
    nothing : Tree
    leaf : Cell → Tree
    -- a table: the cell of its own place, and what is below it
    table : Option Cell → Branches → Tree

  pub data Branches : Type 0 where
    no_branches : Branches
    branch : Key → Tree → Branches → Branches

abbrev pub is_key : Key → Key → Bool
is_key (field a) (field b) = bytes_eq a b
is_key (name a) (name b) = bytes_eq a b
is_key (field a) (name b) = false
is_key (name a) (field b) = false

-- the cell at a key path
abbrev mutual
  pub tree_at : Tree → KeyPath → Option Cell
  tree_at nothing p = None
  tree_at (leaf c) [] = Some c
  tree_at (leaf c) (k ∷ p) = None
  tree_at (table own bs) [] = own
  tree_at (table own bs) (k ∷ p) = branch_at bs k p

  pub branch_at : Branches → Key → KeyPath → Option Cell
  branch_at no_branches k p = None
  branch_at (branch l t bs) k p = if is_key l k then tree_at t p else branch_at bs k p

-- the trees, each at the key of its place
abbrev pub row_branches : List (List ℕ) → List Tree → Branches
row_branches [] ts = no_branches
row_branches (k ∷ ks) [] = no_branches
row_branches (k ∷ ks) (t ∷ ts) = branch (field k) t (row_branches ks ts)

-- the cell of a table's own place: an entry of a map, or none
abbrev pub is_place : Option Cell → Bool
is_place None = true
is_place (Some c) = is_entry c

abbrev pub is_entry_at : Option Cell → Bool
is_entry_at None = false
is_entry_at (Some c) = is_entry c

-- no table, or a table that is an entry of a map
abbrev pub is_member : Tree → Bool
is_member nothing = true
is_member (leaf c) = true
is_member (table own bs) = is_entry_at own

-- a table at a name is an entry of a map
abbrev pub fits : Key → Tree → Bool
fits (field k) t = true
fits (name k) t = is_member t

-- no branch has the key
abbrev pub lacks : Key → Branches → Bool
lacks k no_branches = true
lacks k (branch l t bs) = if is_key l k then false else lacks k bs

-- no later branch has the key; a field comes before a name of the same text
abbrev pub leads : Key → Branches → Bool
leads (field k) bs = lacks (field k) bs
leads (name k) bs = lacks (name k) bs && lacks (field k) bs

-- each key has one branch, a leaf is a value or an array, and a table is a table
abbrev mutual
  pub IsProper : Tree → Type 0
  IsProper nothing = Unit {0}
  IsProper (leaf c) = is_entry c ≡ false
  IsProper (table own bs) = (is_place own ≡ true) × AreProper bs

  pub AreProper : Branches → Type 0
  AreProper no_branches = Unit {0}
  AreProper (branch k t bs) = (leads k bs ≡ true) × (fits k t ≡ true) × IsProper t × AreProper bs

-- the tree is proper and has the cells of the look
pub record IsTreeOf (look : Look) (tree : Tree) : Type 0 where
  pub proper : IsProper tree
  pub shows : (p : KeyPath) → tree_at tree p ≡ look p

-- and so each tree of its look
abbrev pub AreTreesOf : List Look → List Tree → Type 0
AreTreesOf [] [] = Unit {0}
AreTreesOf [] (t ∷ ts) = ⊥
AreTreesOf (l ∷ ls) [] = ⊥
AreTreesOf (l ∷ ls) (t ∷ ts) = IsTreeOf l t × AreTreesOf ls ts
