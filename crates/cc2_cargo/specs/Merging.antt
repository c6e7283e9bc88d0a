-- How files merge: of single values the strongest is kept, arrays are joined, the strongest's items last, but for commands, of
-- which the strongest's items are kept; and tables merge key by key. Cargo Reference, Configuration, hierarchical structure; Cargo 1.95 for commands.
use Rattle.std.specs.Prelude.{◌≡◌, ◌⊎◌, Bool, true, false, ◌&&◌, ◌||◌, nat_le, List, [], ◌∷◌, ◌++◌, ℕ, codes, map, Option, Some, None, Result, Ok, Err, if◌then◌else◌}
use Rattle.std.specs.Str.{bytes_eq}
use Rattle.cc2_error.specs.Causes.{refusal_of, plain, memory, mixed}
use Rattle.cc2_error.specs.declared.error.Error.{Error}
use Rattle.cc2_error.specs.declared.error.Shape.{Shape}
use Rattle.cc2_error.specs.declared.error.Shape.TheVariants as shape
use Rattle.cc2_cargo.specs.Raw.{LayerOrigin, RawCell, RawValue, Path, single, array, table, is_of_override}

-- a path of one key
abbrev pub is_one_key : Path → Bool
is_one_key [] = false
is_one_key (k ∷ []) = true
is_one_key (k ∷ (l ∷ p)) = false

-- the path of this key alone
abbrev pub is_only : List ℕ → Path → Bool
is_only key [] = false
is_only key (k ∷ []) = bytes_eq k key
is_only key (k ∷ (l ∷ p)) = false

-- such a path below any key
abbrev pub is_below_any : (Path → Bool) → Path → Bool
is_below_any is [] = false
is_below_any is (k ∷ p) = is p

-- `credential-alias.NAME`, `doc.browser`, `host.runner`, `registries.NAME.credential-provider`,
-- `registry.credential-provider` and `target.NAME.runner`
abbrev pub is_command_path : Path → Bool
is_command_path [] = false
is_command_path (k ∷ p) =
    if bytes_eq k (codes "credential-alias") then is_one_key p
    else if bytes_eq k (codes "doc") then is_only (codes "browser") p
    else if bytes_eq k (codes "host") then is_only (codes "runner") p
    else if bytes_eq k (codes "registries") then is_below_any (is_only (codes "credential-provider")) p
    else if bytes_eq k (codes "registry") then is_only (codes "credential-provider") p
    else if bytes_eq k (codes "target") then is_below_any (is_only (codes "runner")) p
    else false

abbrev pub shape_of : RawCell → Shape
shape_of (single s) = shape.String
shape_of (array from ss) = shape.Array
shape_of table = shape.Table

-- files precede overrides, then turns count
abbrev pub precedes : LayerOrigin → LayerOrigin → Bool
precedes one other =
    if is_of_override one.origin then is_of_override other.origin && nat_le one.turn other.turn
    else is_of_override other.origin || nat_le one.turn other.turn

-- where an array is set that two layers have
abbrev pub first_origin : LayerOrigin → LayerOrigin → LayerOrigin
first_origin one other = if precedes one other then one else other

-- items over weaker ones, which they replace or follow
abbrev pub items_over : {A : Type 0} → Bool → List A → List A → List A
items_over replaces ss ts = if replaces then ss else ts ++ ss

-- an array over a weaker one
abbrev pub array_over : Bool → LayerOrigin → List RawValue → LayerOrigin → List RawValue → RawCell
array_over replaces from ss weak ts = array (first_origin from weak) (items_over replaces ss ts)

-- a cell over a weaker one, whose array it joins or replaces, or the two shapes that meet
abbrev pub raw_over : Bool → RawCell → RawCell → Result (Option RawCell) (Shape × Shape)
raw_over replaces (single s) (single t) = Ok (Some (single s))
raw_over replaces (array from ss) (array weak ts) = Ok (Some (array_over replaces from ss weak ts))
raw_over replaces table table = Ok (Some table)
raw_over replaces c d = Err (shape_of c, shape_of d)

abbrev pub over_at : Bool → Option RawCell → Option RawCell → Result (Option RawCell) (Shape × Shape)
over_at replaces None o = Ok o
over_at replaces (Some c) None = Ok (Some c)
over_at replaces (Some c) (Some d) = raw_over replaces c d

abbrev pub over_these : Bool → Option RawCell → Result (Option RawCell) (Shape × Shape) → Result (Option RawCell) (Shape × Shape)
over_these replaces o (Err shapes) = Err shapes
over_these replaces o (Ok weaker) = over_at replaces o weaker

-- what the cells at one path come to, the strongest first: each over what the weaker ones come to
abbrev pub raw_joined : Bool → List (Option RawCell) → Result (Option RawCell) (Shape × Shape)
raw_joined replaces [] = Ok None
raw_joined replaces (o ∷ os) = over_these replaces o (raw_joined replaces os)

-- at each path the look has what the cells of xs come to, the strongest first
abbrev pub IsRawMapOf : {A : Type 0} → (A → Path → Option RawCell) → List A → (Path → Option RawCell) → Type 0
IsRawMapOf cells xs look = (p : Path) → raw_joined (is_command_path p) (map (λ x. cells x p) xs) ≡ Ok (look p)

-- at each path the new cell is the strong one over the weak one
abbrev pub IsRawOver : (Path → Bool) → (Path → Option RawCell) → (Path → Option RawCell) → (Path → Option RawCell) → Type 0
IsRawOver commands strong weak new = (p : Path) → over_at (commands p) (strong p) (weak p) ≡ Ok (new p)

-- two shapes meet at the path, and the error says so
abbrev pub IsRawMixedAt : (Path → Bool) → (Path → Option RawCell) → (Path → Option RawCell) → Path → Error → Type 0
IsRawMixedAt commands strong weak p e =
    (shapes : Shape × Shape) × (over_at (commands p) (strong p) (weak p) ≡ Err shapes) × (refusal_of e ≡ plain (mixed p shapes.0 shapes.1))

abbrev pub IsRawMixed : (Path → Bool) → (Path → Option RawCell) → (Path → Option RawCell) → Error → Type 0
IsRawMixed commands strong weak e = (p : Path) × IsRawMixedAt commands strong weak p e

-- memory ran out, or two shapes meet
abbrev pub IsNotRawOver : (Path → Bool) → (Path → Option RawCell) → (Path → Option RawCell) → Error → Type 0
IsNotRawOver commands strong weak e = (refusal_of e ≡ plain memory) ⊎ IsRawMixed commands strong weak e
