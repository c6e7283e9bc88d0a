-- Definitions of one variant.
use Rattle.std.specs.Prelude.{◌≡◌, Bool, true, false, refl}
use Rattle.std.specs.Cmp.{IsEquivalence}
use Rattle.cc2_value.specs.declared.definition.Definition.{Definition}
use Rattle.cc2_value.specs.declared.definition.Definition.TheVariants.{Path, Environment, Cli}

abbrev pub same_variant : Definition → Definition → Bool
same_variant (Path p) (Path q) = true
same_variant (Environment n) (Environment m) = true
same_variant (Cli p) (Cli q) = true
same_variant _ _ = false

itself : (x : Definition) → same_variant x x ≡ true
itself (Path p) = refl
itself (Environment n) = refl
itself (Cli p) = refl

turned : (x y : Definition) → same_variant x y ≡ same_variant y x
turned (Path p) (Path q) = refl
turned (Path p) (Environment n) = refl
turned (Path p) (Cli q) = refl
turned (Environment n) (Path p) = refl
turned (Environment n) (Environment m) = refl
turned (Environment n) (Cli p) = refl
turned (Cli p) (Path q) = refl
turned (Cli p) (Environment n) = refl
turned (Cli p) (Cli q) = refl

along : (x y z : Definition) → same_variant x y ≡ true → same_variant x z ≡ same_variant y z
along (Path p) (Path q) (Path r) h = refl
along (Path p) (Path q) (Environment n) h = refl
along (Path p) (Path q) (Cli r) h = refl
along (Path p) (Environment n) z h = cc
along (Path p) (Cli q) z h = cc
along (Environment n) (Path p) z h = cc
along (Environment n) (Environment m) (Path p) h = refl
along (Environment n) (Environment m) (Environment k) h = refl
along (Environment n) (Environment m) (Cli p) h = refl
along (Environment n) (Cli p) z h = cc
along (Cli p) (Path q) z h = cc
along (Cli p) (Environment n) z h = cc
along (Cli p) (Cli q) (Path r) h = refl
along (Cli p) (Cli q) (Environment n) h = refl
along (Cli p) (Cli q) (Cli r) h = refl

pub same_variant_equiv : IsEquivalence same_variant
same_variant_equiv = record { refl = itself; symm = turned; congr = along }
