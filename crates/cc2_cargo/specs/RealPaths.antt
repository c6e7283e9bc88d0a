-- The real paths of what is at paths.
use Rattle.std.specs.Prelude.{ℕ, List, Option, Some, option_map, if◌then◌else◌, bytes_eq, string_bytes}
use Rattle.std.specs.BTreeMap.{get_by_text}
use Rattle.cc2_cargo.specs.declared.real_paths.RealPathTable.{RealPathTable}

-- the real path of what is at a path; none where nothing is there, or it isn't known
abbrev pub RealPathMap : Type 0
RealPathMap = List ℕ → Option (List ℕ)

-- what a table holds
abbrev pub real_paths_of : RealPathTable → RealPathMap
real_paths_of t path = option_map string_bytes (get_by_text t.table path)

-- a map with the real path of one path changed
abbrev pub with_real_path : RealPathMap → List ℕ → List ℕ → RealPathMap
with_real_path reals path real q = if bytes_eq path q then Some real else reals q
