use Rattle.cc2_uses.proofs.in_turn.ask.Goals as goal

pub returns-in-Rustc-clause-left : goal.returns-in-Rustc-clause-left
returns-in-Rustc-clause-left g c = record {
  agrees = λ fs answers files programs h. c.find_rustc.ensures.all_agree fs files answers h;
  tables = c.find_rustc.ensures.tables;
  loaded = c.find_rustc.ensures.loaded;
}
