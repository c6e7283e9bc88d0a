use Rattle.std.proofs.Common.{◌≡◌, Bool, List, [], ◌∷◌, map, refl, ap, ◌∙◌, string_bytes}
use Rattle.std.specs.Prelude.{◌||◌}
use Rattle.std.specs.List.{list_any}
use Rattle.cc2_base.specs.Paths.{ancestors_of}
use Rattle.cc2_cargo.specs.RealHomes.{is_home, real_folder, real_or_own}
use Rattle.cc2_cargo.proofs.home.is_walked.Goals as goal

-- whether a test holds for some value of a function
any_value : {X Y : Type 0} (p : X → Bool) (f : Y → X) (ys : List Y) → list_any p (map f ys) ≡ list_any (λ y. p (f y)) ys
any_value p f [] = refl
any_value p f (y ∷ ys) = ap (λ b. p (f y) || b) (any_value p f ys)

pub returns : goal.returns
returns g c reals world =
    let home = c.args.home.now in
    let folders = ap (map string_bytes) c.as_slice.ensures.value ∙ c.in_ok-folders.ensures reals world in
    let real_home = c.as_str.ensures.value ∙ c.in_ok-real_home.ensures reals world ∙ ap (real_or_own reals) c.in_ok-from_str.ensures.ok in
    c.is_among.ensures ∙ (λ i. list_any (is_home (real_home i) home) (folders i))
    ∙ any_value (is_home (real_or_own reals home) home) (real_folder reals) (ancestors_of c.args.dir.now)
