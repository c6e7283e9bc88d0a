-- Which variables are those of a registry, and what they make of its entry.
use Rattle.std.specs.Prelude.{◌≡◌, ℕ, Bool, List, ◌++◌, codes, Some, String, if◌then◌else◌}
use Rattle.std.specs.BTreeMap.{BTreeMap, get_by_text}
use Rattle.std.specs.List.{list_any}
use Rattle.std.specs.Str.{bytes_eq}
use Rattle.std.specs.declared.alloc.Global.{Global}
use Rattle.cc2_value.specs.Shown.{option_at, fields_at}
use Rattle.cc2_tables.specs.Registries.{registries_fields}
use Rattle.cc2_tables.specs.declared.registries.RegistriesConfigValue.{RegistriesConfigValue}
use Rattle.cc2_env.specs.Kept.{Variables}
use Rattle.cc2_env.specs.Ranked.{named_in, rows_of, by_field, IsRanked}
use Rattle.cc2_env.specs.Ranks.{registries_ranks}

-- whether a variable of this name is one of the registry n
abbrev pub is_registry_variable : List ℕ → List ℕ → Bool
is_registry_variable n variable = list_any (λ x. bytes_eq x.name variable) (named_in (registries_ranks n))

-- the same of what follows `CARGO_REGISTRIES_` in the name
abbrev pub is_registry_rest : List ℕ → List ℕ → Bool
is_registry_rest n rest = is_registry_variable n (codes "CARGO_REGISTRIES_" ++ rest)

-- the map m with this value at the name n
abbrev pub IsWithEntry : {V : Type 0} → BTreeMap (String Global) V → List ℕ → V → BTreeMap (String Global) V → Type 0
IsWithEntry old n v m = (k : List ℕ) → get_by_text m k ≡ (if bytes_eq n k then Some v else get_by_text old k)

-- the registry n is what its variables make of it, and the others stay
abbrev pub IsRegistrySet : Variables → BTreeMap (String Global) RegistriesConfigValue → List ℕ
    → BTreeMap (String Global) RegistriesConfigValue → Type 0
IsRegistrySet vars old n m =
    (r : RegistriesConfigValue) × IsWithEntry old n r m
    × IsRanked (option_at (fields_at registries_fields)) (by_field (rows_of (registries_ranks n))) vars
    (get_by_text old n) (Some r)
