use Rattle.std.proofs.Common.{◌≡◌, ◌-◌}
use Rattle.cc2_ask.specs.Records.{records_in}
use Rattle.cc2_ask.specs.Views.{given_view}
use Rattle.cc2_ask.specs.Givens.{given_behind}
use Rattle.cc2_ask.proofs.given.Given.add_records.Given as goal

abbrev pub invariant-loop : goal.invariant-loop
invariant-loop l =
    given_behind (given_view l.self) (records_in (l.most - l.counter) l.reader.rest.now)
    ≡ given_behind (given_view l.initial.self) (records_in l.most l.initial.reader.rest.now)
