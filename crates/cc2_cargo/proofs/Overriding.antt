-- Overrides, one after another.
use Rattle.std.proofs.Common.{◌≡◌, ℕ, List, [], ◌∷◌, ◌++◌, true, false, if◌then◌else◌, Some, refl, sym, ap, subst}
use Rattle.std.specs.List.{list_any}
use Rattle.cc2_base.specs.Paths.{same_path}
use Rattle.cc2_base.specs.Told.{Tree}
use Rattle.cc2_cargo.specs.Expanding.{ConfigFile}
use Rattle.cc2_cargo.specs.Overrides.{OverridesRead, ReadsOverride, ReadsOverrides, repeated}

-- one override more
pub reads_more : (fs : Tree) (dir : List ℕ) (done : List (List ℕ)) (text : List ℕ) (s t u : OverridesRead) → ReadsOverrides fs dir done s t
    → ReadsOverride fs dir text t u → ReadsOverrides fs dir (done ++ text ∷ []) s u
reads_more fs dir [] text s t u same one = (u, subst (λ x. ReadsOverride fs dir text x u) (sym same) one, refl)
reads_more fs dir (first ∷ done) text s t u (v, own, rest) one = (v, own, reads_more fs dir done text v t u rest one)

-- the first file was read before, or a later one may be
pub repeated_here : (seen : List (List ℕ)) (s : ConfigFile) (ss : List ConfigFile) → list_any (λ p. same_path p s.path) seen ≡ true
    → repeated seen (s ∷ ss) ≡ Some s.path
repeated_here seen s ss h = ap (λ b. if b then Some s.path else repeated seen ss) h

pub repeated_later : (seen : List (List ℕ)) (s : ConfigFile) (ss : List ConfigFile) → list_any (λ p. same_path p s.path) seen ≡ false
    → repeated seen (s ∷ ss) ≡ repeated seen ss
repeated_later seen s ss h = ap (λ b. if b then Some s.path else repeated seen ss) h
