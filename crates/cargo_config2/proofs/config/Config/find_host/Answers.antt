use Rattle.std.proofs.Common.{IfErr, subst}
use Rattle.cc2_error.specs.Outcomes.{IsRefusal}
use Rattle.cc2_rustc.specs.AskedVersions.{Asked, host_said}
use Rattle.cargo_config2.proofs.AskedNow.{asked_now}
use Rattle.cargo_config2.proofs.config.Config.find_host.Goals as goal

pub returns-clause-refused : goal.returns-clause-refused
returns-clause-refused g c fs answers files programs =
    let asked = asked_now fs c.args.self.now c.host_triple.result c.in_ok-cargo.field-0 c.host_triple.ensures
    (c.in_ok-cargo.ensures.told fs files) in
    subst (λ (s : Asked). IfErr c.find_host-found.result (IsRefusal (host_said s answers))) asked
    (c.find_host-found.ensures.refused answers programs)
