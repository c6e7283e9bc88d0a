-- At which keys below `target` files give a setting.
-- Cargo Reference, Configuration, `target.<triple>.linker`, `target.<cfg>.linker`.
use Rattle.std.specs.Prelude.{ℕ, Bool, true, false, not, ◌&&◌, ◌||◌, List, [], ◌∷◌, ◌++◌, codes, bytes_eq, filter, find, flat_map, Option, Some, None, if◌then◌else◌}
use Rattle.std.specs.List.{list_any}
use Rattle.std.specs.Option.{is_some}
use Rattle.toml.specs.Data.{Data, as_table, Members, no_members, member, get, get_member}
use Rattle.cc2_base.specs.Machines.{variable_of}
use Rattle.cc2_base.specs.declared.machine.Machine.{Machine}
use Rattle.cc2_rustc.specs.Keys.{is_cfg}
use Rattle.cc2_target.specs.Finding.{pieces}
use Rattle.cc2_base.specs.VariableNames.{target_variable}
use Rattle.cc2_lint_settings.specs.declared.rival_setting.Setting.{Setting}
use Rattle.cc2_lint_settings.specs.declared.rival_setting.Setting.TheVariants.{Linker, Runner}

-- the key of a setting
abbrev pub key_of : Setting → List ℕ
key_of Linker = codes "linker"
key_of Runner = codes "runner"

-- the end of the variable that sets it for a triple
abbrev pub variable_end : Setting → List ℕ
variable_end Linker = codes "_LINKER"
variable_end Runner = codes "_RUNNER"

-- it is a table with the setting
abbrev pub gives : Setting → Data → Bool
gives s d = is_some (get (key_of s) d)

-- one of a list, where it is wanted
abbrev pub where_true : {A : Type 0} → Bool → A → List A
where_true true a = a ∷ []
where_true false a = []

-- the keys of a table at which a table has the setting, in their order
abbrev pub givers_in : Setting → Members → List (List ℕ)
givers_in s no_members = []
givers_in s (member k d ms) = where_true (gives s d) k ++ givers_in s ms

abbrev pub givers_at : Setting → Option Members → List (List ℕ)
givers_at s None = []
givers_at s (Some ms) = givers_in s ms

-- those of a value; none where it is no table
abbrev pub givers_below : Setting → Data → List (List ℕ)
givers_below s d = givers_at s (as_table d)

abbrev pub givers_under : Setting → Option Data → List (List ℕ)
givers_under s None = []
givers_under s (Some d) = givers_below s d

-- those below `target` of a file
abbrev pub givers_of : Setting → Members → List (List ℕ)
givers_of s ms = givers_under s (get_member (codes "target") ms)

-- the first of these keys that isn't this one
abbrev pub other_than : List ℕ → List (List ℕ) → Option (List ℕ)
other_than key keys = find (λ k. not (bytes_eq k key)) keys

-- there are two different keys
abbrev pub are_two : List (List ℕ) → Bool
are_two [] = false
are_two (k ∷ ks) = is_some (other_than k ks)

-- there is a value at these keys of a value, each a key of the table at those before it
abbrev pub has_value : List (List ℕ) → Option Data → Bool
has_value keys None = false
has_value [] (Some d) = true
has_value (key ∷ keys) (Some d) = has_value keys (get key d)

-- a file has a value at these keys below `target`
abbrev pub has_below : List (List ℕ) → Members → Bool
has_below keys ms = has_value keys (get_member (codes "target") ms)

-- the keys below `target` that lead to the setting of a triple itself: Cargo cuts the triple at its dots
abbrev pub own_keys : Setting → List ℕ → List (List ℕ)
own_keys s triple = pieces triple ++ key_of s ∷ []

-- the triple has the setting itself: by its variable, or in one of these files
abbrev pub is_settled : Setting → List ℕ → Machine → List Members → Bool
is_settled s triple machine files =
    list_any (has_below (own_keys s triple)) files || is_some (variable_of machine (target_variable triple (variable_end s)))

-- the keys `cfg(..)` of these
abbrev pub cfg_keys : List (List ℕ) → List (List ℕ)
cfg_keys keys = filter is_cfg keys

-- those keys, where it makes a difference which of them hold: there are two, and the triple hasn't the setting itself
abbrev pub open_among : Setting → List ℕ → Machine → List Members → List (List ℕ) → List (List ℕ)
open_among s triple machine files keys =
    if are_two (cfg_keys keys) && not (is_settled s triple machine files) then cfg_keys keys else []

-- such keys of files
abbrev pub open_givers : Setting → List ℕ → Machine → List Members → List (List ℕ)
open_givers s triple machine files = open_among s triple machine files (flat_map (givers_of s) files)
