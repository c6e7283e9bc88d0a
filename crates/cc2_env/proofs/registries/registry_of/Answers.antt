use Rattle.std.proofs.Common.{◌≡◌, ℕ, List, codes, sym, ap, ◌∙◌, ◌++◌, subst, false, MatchOption}
use Rattle.std.specs.Str.{bytes_eq}
use Rattle.cc2_env.specs.Registries.{is_registry_variable}
use Rattle.cc2_env.proofs.RegistryNames.{of_other}
use Rattle.cc2_env.proofs.registries.registry_of.Goals as goal

pub returns-in-None : goal.returns-in-None
returns-in-None c n = of_other n c.args.name.now c.in-None.ensures.cases

pub returns-in-Some : goal.returns-in-Some
returns-in-Some c =
    let cut = c.in-Some.ensures.cases in
    let is : c.args.name.now ≡ codes "CARGO_REGISTRIES_" ++ c.in-Some.rest.now =
    cut.1.1 ∙ ap (λ t. codes "CARGO_REGISTRIES_" ++ t) (sym cut.2) in
    subst (λ (t : List ℕ). MatchOption c.registry_before.result ((n : List ℕ) → is_registry_variable n t ≡ false)
    (λ registry. (n : List ℕ) → is_registry_variable n t ≡ bytes_eq n registry.now)) (sym is)
    c.registry_before.ensures
