-- Which keys below a place are commands.
use Rattle.std.proofs.Common.{◌≡◌, ℕ, Bool, true, false, List, [], ◌∷◌, codes, refl}
use Rattle.std.specs.Prelude.{if◌then◌else◌}
use Rattle.std.specs.Str.{bytes_eq}
use Rattle.cc2_cargo.specs.Merging.{is_command_path, is_one_key, is_only}
use Rattle.cc2_cargo.specs.Places.{command_if, commands_from, is_here, top_below}
use Rattle.cc2_cargo.specs.Raw.{Path}
use Rattle.cc2_cargo.specs.declared.raw.command.Place.{Place}
use Rattle.cc2_cargo.specs.declared.raw.command.Place.TheVariants as place

-- of one of two places
either : (b : Bool) (x y : Place) (u v : Bool) (p : Path) → commands_from x p ≡ u → commands_from y p ≡ v → commands_from (if b then x else y) p ≡ (if b then u else v)
either true x y u v p h k = h
either false x y u v p h k = k

pub below_top : (k : List ℕ) (p : Path) → commands_from (top_below k) p ≡ is_command_path (k ∷ p)
below_top k p =
    either (bytes_eq k (codes "credential-alias")) place.CredentialAlias _ _ _ p refl
    (either (bytes_eq k (codes "doc")) place.Doc _ _ _ p refl
    (either (bytes_eq k (codes "host")) place.Target _ _ _ p refl
    (either (bytes_eq k (codes "registries")) place.Registries _ _ _ p refl
    (either (bytes_eq k (codes "registry")) place.Registry _ _ _ p refl
    (either (bytes_eq k (codes "target")) place.Targets place.Other _ _ p refl refl)))))

-- a key alone
pub below_only : (key k : List ℕ) (p : Path) → commands_from (command_if (bytes_eq k key)) p ≡ is_only key (k ∷ p)
below_only key k [] = go (bytes_eq k key)
  where
    go : (b : Bool) → commands_from (command_if b) [] ≡ b
    go true = refl
    go false = refl
below_only key k (l ∷ p) = go (bytes_eq k key)
  where
    go : (b : Bool) → commands_from (command_if b) (l ∷ p) ≡ false
    go true = refl
    go false = refl

pub below_alias : (k : List ℕ) (p : Path) → is_here p ≡ is_one_key (k ∷ p)
below_alias k [] = refl
below_alias k (l ∷ p) = refl

pub below_command : (k : List ℕ) (p : Path) → false ≡ is_here (k ∷ p)
below_command k p = refl
