use Rattle.std.proofs.Common.{length, sym, ◌∙◌}
use Rattle.cc2_ask.specs.Givens.{given_behind, given_of}
use Rattle.cc2_ask.specs.Records.{records_in}
use Rattle.cc2_ask.specs.Views.{given_view}
use Rattle.cc2_ask.proofs.Requests.{of_request, read_or_refused}
use Rattle.cc2_ask.proofs.given.Given.read.Goals as goal

pub returns-in-Ok : goal.returns-in-Ok
returns-in-Ok c =
    let request = c.args.request.now in
    let all = of_request request c.new-reader.result.rest.now (given_view c.nothing-given.result) c.nothing-given.ensures c.new-reader.ensures in
    sym all ∙ c.in-Ok.ensures

pub returns-in-Err : goal.returns-in-Err
returns-in-Err c =
    let request = c.args.request.now in
    let left = c.new-reader.result.rest.now in
    let none = given_view c.nothing-given.result in
    read_or_refused (given_behind none (records_in (length request) left)) (given_of request) (given_view c.add_records.new.self) c.in-Err.fault
    (of_request request left none c.nothing-given.ensures c.new-reader.ensures) c.in-Err.ensures
