-- The places of tables, as far as these say which keys below are commands.
use Rattle.std.specs.Prelude.{ℕ, Bool, true, false, List, [], ◌∷◌, codes, if◌then◌else◌}
use Rattle.std.specs.Str.{bytes_eq}
use Rattle.cc2_cargo.specs.Merging.{is_command_path, is_one_key, is_only, is_below_any}
use Rattle.cc2_cargo.specs.Raw.{Path}
use Rattle.cc2_cargo.specs.declared.raw.command.Place.{Place}
use Rattle.cc2_cargo.specs.declared.raw.command.Place.TheVariants as place

abbrev pub is_here : Path → Bool
is_here [] = true
is_here (k ∷ p) = false

-- the paths from a place that lead to commands
abbrev pub commands_from : Place → Path → Bool
commands_from place.Top p = is_command_path p
commands_from place.CredentialAlias p = is_one_key p
commands_from place.Doc p = is_only (codes "browser") p
commands_from place.Target p = is_only (codes "runner") p
commands_from place.Targets p = is_below_any (is_only (codes "runner")) p
commands_from place.Registry p = is_only (codes "credential-provider") p
commands_from place.Registries p = is_below_any (is_only (codes "credential-provider")) p
commands_from place.Command p = is_here p
commands_from place.Other p = false

abbrev pub command_if : Bool → Place
command_if true = place.Command
command_if false = place.Other

-- the place at a key of the whole configuration
abbrev pub top_below : List ℕ → Place
top_below k =
    if bytes_eq k (codes "credential-alias") then place.CredentialAlias
    else if bytes_eq k (codes "doc") then place.Doc
    else if bytes_eq k (codes "host") then place.Target
    else if bytes_eq k (codes "registries") then place.Registries
    else if bytes_eq k (codes "registry") then place.Registry
    else if bytes_eq k (codes "target") then place.Targets
    else place.Other
