use Rattle.std.proofs.Common.{option_map, ap, sym, subst, ◌∙◌}
use Rattle.cc2_error.specs.Outcomes.{IsRefusal}
use Rattle.cc2_rustc.specs.AskedVersions.{Asked, AgreesOnVersions, cargo_version_said}
use Rattle.cc2_rustc.specs.Shown.{of_cargo}
use Rattle.cc2_rustc.specs.declared.kept_versions.Versions.{Versions}
use Rattle.std.specs.Option.{option_copied}
use Rattle.cc2_rustc.specs.Asked.{asks}
use Rattle.cargo_config2.proofs.AskedNow.{asked_now}
use Rattle.cc2_target.proofs.Exits.{gives_exit}
use Rattle.cargo_config2.proofs.config.Config.cargo_version.Goals as goal

pub returns-in-Some-clause-answer : goal.returns-in-Some-clause-answer
returns-in-Some-clause-answer g c fs answers files programs h =
    h.versions.cargo _ (ap (option_map of_cargo) c.in-Some.is)

pub returns-in_err-found-clause-answer : goal.returns-in_err-found-clause-answer
returns-in_err-found-clause-answer g c fs answers files programs h =
    let asked = asked_now fs c.args.self.now c.host_triple.result c.in_ok-cargo.field-0 c.host_triple.ensures
    (c.in_ok-cargo.ensures.told fs files) in
    gives_exit of_cargo c.from_residual-in_err-found.result _ c.in_err-found.field-0.0
    c.from_residual-in_err-found.ensures.1
    (subst (λ (s : Asked). IsRefusal (cargo_version_said s answers) c.in_err-found.field-0.0) asked
    (c.in_err-found.ensures.refused answers programs))

pub returns-clause-answer : goal.returns-clause-answer
returns-clause-answer g c fs answers files programs h =
    let asked = asked_now fs c.args.self.now c.host_triple.result c.in_ok-cargo.field-0 c.host_triple.ensures
    (c.in_ok-cargo.ensures.told fs files) in
    let before = subst (λ (v : Versions). AgreesOnVersions (asks (option_copied c.host_triple.result)
    c.in_ok-cargo.field-0) answers v) (sym c.replace-versions.ensures.value)
    (subst (λ (s : Asked). AgreesOnVersions s answers c.args.self.now.kept.versions) (sym asked) h.versions) in
    let after = c.in_ok-found.ensures.agrees answers programs before in
    ap (λ (s : Asked). cargo_version_said s answers) (sym asked) ∙ after.cargo _
    (ap (option_map of_cargo) c.in-Some-cargo.is)
