use Rattle.cc2_rustc.proofs.host.told_host.Goals as goal

pub returns-clause-agrees : goal.returns-clause-agrees
returns-clause-agrees g c m told h = record {
  host = h.host;
  rustc = c.rustc_host.ensures.agrees m ((c.cargo_host.ensures.same m).0 told) h.rustc;
  cargo = c.cargo_host.ensures.agrees m told h.cargo;
}
