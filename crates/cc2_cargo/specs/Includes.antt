-- The files that a configuration file includes, in their order.
-- Cargo Reference, Configuration, including extra configuration files.
use Rattle.std.specs.Prelude.{ℕ, ◌+◌, ◌==◌, Bool, false, not, ◌&&◌, ◌||◌, List, [], ◌∷◌, codes, Option, Some, None, string_bytes, Result, Ok, Err, if◌then◌else◌}
use Rattle.std.specs.List.{list_any}
use Rattle.std.specs.Str.{bytes_eq}
use Rattle.toml.specs.Data.{Data, string, boolean, array, Items, no_items, item, Members, get, get_member}
use Rattle.cc2_base.specs.Paths.{extension_of}
use Rattle.cc2_cargo.specs.declared.include.Include.{Include as CodeInclude}
use Rattle.cc2_cargo.specs.declared.include.IncludeFault.{IncludeFault}
use Rattle.cc2_cargo.specs.declared.include.IncludeFault.TheVariants.{NoArray, WrongType, WrongPath}

-- a path, and whether the file may be absent
pub record Include : Type 0 where
  pub path : List ℕ
  pub optional : Bool

abbrev pub include_view : CodeInclude → Include
include_view i = record { path = string_bytes i.path; optional = i.optional }

-- one of `*`, `?`, `[`, `]`, `{` and `}`
abbrev pub is_pattern : List ℕ → Bool
is_pattern path =
    list_any (λ b. b == 42) path || (list_any (λ b. b == 63) path || (list_any (λ b. b == 91) path
    || (list_any (λ b. b == 93) path || (list_any (λ b. b == 123) path || list_any (λ b. b == 125) path))))

abbrev pub is_toml : Option (List ℕ) → Bool
is_toml None = false
is_toml (Some end) = bytes_eq end (codes "toml")

-- the path ends with `.toml`, and names one file
abbrev pub is_include_path : List ℕ → Bool
is_include_path path = is_toml (extension_of path) && not (is_pattern path)

-- the item at an index, by its path
abbrev pub checked : ℕ → List ℕ → Bool → Result Include IncludeFault
checked index path optional = if is_include_path path then Ok (record { path = path; optional = optional }) else Err (WrongPath index)

-- by the keys `path` and `optional` of a table
abbrev pub by_optional : ℕ → List ℕ → Option Data → Result Include IncludeFault
by_optional index path None = checked index path false
by_optional index path (Some (boolean optional)) = checked index path optional
by_optional index path _ = Err (WrongType index)

abbrev pub by_keys : ℕ → Option Data → Option Data → Result Include IncludeFault
by_keys index (Some (string path)) optional = by_optional index path optional
by_keys index _ optional = Err (WrongType index)

abbrev pub include_of : ℕ → Data → Result Include IncludeFault
include_of index (string path) = checked index path false
include_of index d = by_keys index (get (codes "path") d) (get (codes "optional") d)

-- the first fault, else the first item and the others
abbrev pub with_include : Result Include IncludeFault → Result (List Include) IncludeFault → Result (List Include) IncludeFault
with_include (Err fault) others = Err fault
with_include (Ok include) (Err fault) = Err fault
with_include (Ok include) (Ok includes) = Ok (include ∷ includes)

-- the items of an array, the first of which has this index
abbrev pub includes_from : ℕ → Items → Result (List Include) IncludeFault
includes_from index no_items = Ok []
includes_from index (item d ds) = with_include (include_of index d) (includes_from (index + 1) ds)

abbrev pub listed_includes : Option Data → Result (List Include) IncludeFault
listed_includes None = Ok []
listed_includes (Some (array ds)) = includes_from 0 ds
listed_includes _ = Err NoArray

-- the files that a table of a file includes
abbrev pub includes_in : Members → Result (List Include) IncludeFault
includes_in ms = listed_includes (get_member (codes "include") ms)
