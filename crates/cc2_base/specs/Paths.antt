-- Paths: Rust's rules on Unix, over texts by their bytes.
use Rattle.std.specs.Prelude.{ℕ, zero, suc, ◌+◌, ◌-◌, ◌==◌, Bool, not, ◌||◌, if◌then◌else◌, bytes_eq, codes, slice_index, slice_get, length, take, List, [], ◌∷◌, ◌++◌, map, Option, Some, None}
use Rattle.std.specs.Cmp.Lexicographic.{pointwise}
use Rattle.std.specs.List.{slice_split, filter, find, before_last, after_last}
use Rattle.std.specs.Option.{option_map, option_and_then}

-- the byte of `/`
abbrev pub slash : ℕ
slash = 47

-- the path begins with `/`
abbrev pub begins_at_root : List ℕ → Bool
begins_at_root p = slice_index p 0 == slash

-- a `/`, where the path is neither empty nor ends in one
abbrev pub separator_after : List ℕ → List ℕ
separator_after p = if (length p == 0 || slice_index p (length p - 1) == slash) then [] else slash ∷ []

-- the second path where it is absolute, else the first, a separator and the second
unfoldable pub joined : List ℕ → List ℕ → List ℕ
joined p q = if begins_at_root q then q else p ++ (separator_after p ++ q)

-- what is between the slashes
abbrev pub pieces : List ℕ → List (List ℕ)
pieces = slice_split (λ b. b == slash)

-- a piece that is a component wherever it occurs: it is neither empty nor `.`
abbrev pub is_name : List ℕ → Bool
is_name piece = not (length piece == 0 || bytes_eq piece (codes "."))

-- the components among the pieces of a relative path, the first of which may be `.`
abbrev pub relative_components : List (List ℕ) → List (List ℕ)
relative_components [] = []
relative_components (first ∷ others) = if length first == 0 then filter is_name others else first ∷ filter is_name others

-- the root where the path begins with `/`, and the pieces that are not dropped
unfoldable pub components_of : List ℕ → List (List ℕ)
components_of p = if begins_at_root p then codes "/" ∷ filter is_name (pieces p) else relative_components (pieces p)

abbrev pub same_texts : List (List ℕ) → List (List ℕ) → Bool
same_texts = pointwise bytes_eq

-- two texts are the same path where their components are equal
unfoldable pub same_path : List ℕ → List ℕ → Bool
same_path p q = same_texts (components_of p) (components_of q)

-- the fronts of a text, the shortest first
abbrev pub fronts : List ℕ → List (List ℕ)
fronts [] = [] ∷ []
fronts (b ∷ rest) = [] ∷ map (λ front. b ∷ front) (fronts rest)

abbrev pub but_last : List (List ℕ) → List (List ℕ)
but_last cs = take (length cs - 1) cs

-- no component, or the root alone
abbrev pub is_bare : List (List ℕ) → Bool
is_bare cs = same_texts cs [] || same_texts cs (codes "/" ∷ [])

-- none for an empty path and the root; else the shortest front that has all components but the last,
-- which so ends with the last byte of the last component but one, and is empty where there is only one
unfoldable pub parent_of : List ℕ → Option (List ℕ)
parent_of p =
    if is_bare (components_of p) then None
    else find (λ front. same_texts (components_of front) (but_last (components_of p))) (fronts p)

-- a path, its parent, and so on, n of them at most
abbrev pub ancestors_within : ℕ → Option (List ℕ) → List (List ℕ)
ancestors_within zero p = []
ancestors_within (suc n) None = []
ancestors_within (suc n) (Some p) = p ∷ ancestors_within n (parent_of p)

-- a path, its parent, and so on; each is shorter than the one before it
unfoldable pub ancestors_of : List ℕ → List (List ℕ)
ancestors_of p = ancestors_within (length p + 1) (Some p)

-- a component that names a file: neither the root, `.` nor `..`
abbrev pub as_file_name : List ℕ → Option (List ℕ)
as_file_name c = if (bytes_eq c (codes "/") || (bytes_eq c (codes ".") || bytes_eq c (codes ".."))) then None else Some c

-- the last component, where it names a file
unfoldable pub file_name_of : List ℕ → Option (List ℕ)
file_name_of p = option_and_then as_file_name (slice_get (components_of p) (length (components_of p) - 1))

abbrev pub is_dot : ℕ → Bool
is_dot b = b == 46

-- no dot occurs in the name, or the last one is its first byte
abbrev pub is_whole : List ℕ → Bool
is_whole name = length (before_last is_dot name) == 0

abbrev pub stem_of_name : List ℕ → List ℕ
stem_of_name name = if is_whole name then name else before_last is_dot name

abbrev pub extension_of_name : List ℕ → Option (List ℕ)
extension_of_name name = if is_whole name then None else Some (after_last is_dot name)

-- the file name up to its last dot
unfoldable pub stem_of : List ℕ → Option (List ℕ)
stem_of p = option_map stem_of_name (file_name_of p)

-- the file name after its last dot
unfoldable pub extension_of : List ℕ → Option (List ℕ)
extension_of p = option_and_then extension_of_name (file_name_of p)
