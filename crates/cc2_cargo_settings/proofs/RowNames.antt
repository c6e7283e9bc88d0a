-- The names of the variables of settings.
use Rattle.std.proofs.Common.{◌≡◌, All, List, [], ◌∷◌, map}
use Rattle.std.proofs.lemmas.List.Elements.{All-cons, All-nil}
use Rattle.cc2_cargo_settings.specs.Names.{key_variable}
use Rattle.cc2_cargo_settings.specs.Settings.{HasName, row_of}
use Rattle.cc2_cargo_settings.specs.declared.setting.Setting.{Setting}

first_same : {A : Type 0} (x y : A) (xs ys : List A) → x ∷ xs ≡ y ∷ ys → x ≡ y
first_same x y xs ys h = cc

others_same : {A : Type 0} (x y : A) (xs ys : List A) → x ∷ xs ≡ y ∷ ys → xs ≡ ys
others_same x y xs ys h = cc

-- each has the name of its path, where the lists of both are the same
pub all_named : (ss : List Setting) → map (λ s. s.variable.now) ss ≡ map (λ r. key_variable r.path) (map row_of ss) → All HasName ss
all_named [] h = All-nil HasName
all_named (s ∷ ss) h = All-cons HasName s ss (first_same _ _ _ _ h) (all_named ss (others_same _ _ _ _ h))
