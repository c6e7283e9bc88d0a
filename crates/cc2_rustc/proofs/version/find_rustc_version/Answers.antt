use Rattle.cc2_rustc.proofs.version.find_rustc_version.Goals as goal

pub returns-clause-agrees : goal.returns-clause-agrees
returns-clause-agrees g c m told h =
    let tried = c.try_host.ensures.agrees m told h in
    record {
      host = tried.host;
      rustc = c.ask.ensures.agrees m ((c.try_host.ensures.same m).0 told) tried.rustc;
      cargo = tried.cargo;
    }
