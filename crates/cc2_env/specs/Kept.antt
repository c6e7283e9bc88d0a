-- The environment variables that are kept: those that Cargo or rustc looks at, and the browser.
use Rattle.std.specs.Prelude.{◌≡◌, ℕ, nat_eq, Bool, true, ◌||◌, if◌then◌else◌, List, codes, Option, None, option_map, bytes_eq, String, Vec}
use Rattle.std.specs.List.{starts_with}
use Rattle.std.specs.BTreeMap.{BTreeMap, get_by_text}
use Rattle.std.specs.declared.alloc.Global.{Global}
use Rattle.cc2_base.specs.Machines.{last_value}

-- the value of each variable that is set
abbrev pub Variables : Type 0
Variables = List ℕ → Option (List ℕ)

-- Cargo's and rustc's names, and the browser's
abbrev pub is_kept_name : List ℕ → Bool
is_kept_name name =
    starts_with nat_eq name (codes "CARGO")
    || (starts_with nat_eq name (codes "RUST") || bytes_eq name (codes "BROWSER"))

-- what is kept of an environment: of a name that occurs twice the last value
abbrev pub kept_of : List (String Global × Vec ℕ Global) → Variables
kept_of env name = if is_kept_name name then last_value env name else None

-- the variables of a map by name
abbrev pub variables_in : BTreeMap (String Global) (Vec ℕ Global) → Variables
variables_in m name = option_map (λ value. value.items) (get_by_text m name)

-- two environments have the same value for each name that is kept
abbrev pub AgreeOnKept : List (String Global × Vec ℕ Global) → List (String Global × Vec ℕ Global) → Type 0
AgreeOnKept xs ys = (name : List ℕ) → is_kept_name name ≡ true → last_value xs name ≡ last_value ys name
