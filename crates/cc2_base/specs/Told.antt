-- The worlds that an implementation of an interface agrees with, and what files hold.
use Rattle.std.specs.Prelude.{ℕ, List, Option, Some, option_map, if◌then◌else◌, bytes_eq}
use Rattle.std.specs.BTreeMap.{get_by_text}
use Rattle.cc2_base.specs.declared.files.FileTable.{FileTable}

-- what is at a path: nothing, a fault, or bytes
abbrev pub Content : Type 0
Content = Option (Option (List ℕ))

-- what files hold, by the bytes of the path
abbrev pub Tree : Type 0
Tree = List ℕ → Content

-- P holds in each world of `told`
abbrev pub WhereTold : {M : Type 0} → (M → Type 0) → (M → Type 0) → Type 0
WhereTold {M} told P = (m : M) → told m → P m

-- the worlds before and after are the same
abbrev pub Keeps : {M : Type 0} → (M → Type 0) → (M → Type 0) → Type 0
Keeps {M} before after = (m : M) → (before m → after m) × (after m → before m)

-- what a table of files holds
abbrev pub tree_of : FileTable → Tree
tree_of t path = option_map (λ c. option_map (λ v. v.items) c) (get_by_text t.table path)

-- a tree with one path changed
abbrev pub with_file : Tree → List ℕ → Option (List ℕ) → Tree
with_file tree path content q = if bytes_eq path q then Some content else tree q
