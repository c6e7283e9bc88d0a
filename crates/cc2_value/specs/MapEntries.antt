-- A map into which one entry more is gathered, below what the map has at its key.
use Rattle.std.specs.Prelude.{ℕ, List, Option, Some, None, String, if◌then◌else◌}
use Rattle.std.specs.BTreeMap.{BTreeMap, get_by_text}
use Rattle.std.specs.Str.{bytes_eq}
use Rattle.std.specs.declared.alloc.Global.{Global}
use Rattle.cc2_error.specs.declared.error.Error.{Error}
use Rattle.cc2_value.specs.Cells.{Cell, KeyPath}
use Rattle.cc2_value.specs.Gathered.{IsGathered, IsUngatheredBelow}
use Rattle.cc2_value.specs.Shown.{option_at}

-- the entry alone, at a key
abbrev pub entry_of : {V : Type 0} → List ℕ → V → List ℕ → Option V
entry_of name v k = if bytes_eq name k then Some v else None

-- at each key the map n has what m has there, with the entry gathered into it
abbrev pub IsEntryGathered : {V : Type 0} → (V → KeyPath → Option Cell) → BTreeMap (String Global) V → List ℕ → V → BTreeMap (String Global) V → Type 0
IsEntryGathered look m name v n = (k : List ℕ) → IsGathered (option_at look) (get_by_text m k) (entry_of name v k) (get_by_text n k)

-- the entry doesn't merge with what m has at its key
abbrev pub IsEntryUngathered : {V : Type 0} → (V → KeyPath → Option Cell) → BTreeMap (String Global) V → List ℕ → V → Error → Type 0
IsEntryUngathered look m name v e = IsUngatheredBelow name (option_at look (get_by_text m name)) (look v) e
