use Rattle.cc2_resolved_json.proofs.Cells.{unset_json, set_json}
use Rattle.cc2_resolved_json.proofs.to_json.OptionToJson.to_json.Goals as goal

pub returns-in-None-clause-shown : goal.returns-in-None-clause-shown
returns-in-None-clause-shown g c = unset_json c.args._tokens g.T.ResolvedValue.answer c.args.self.now c.in-None.is

pub returns-in_ok-plain_json-in-Some-clause-shown : goal.returns-in_ok-plain_json-in-Some-clause-shown
returns-in_ok-plain_json-in-Some-clause-shown g c =
    set_json c.args._tokens g.T.ResolvedValue.answer c.args.self.now c.in-Some.value c.in_ok-plain_json-in-Some.field-0
    c.in-Some.is (g.met.T.PlainValue.whole c.in-Some.value) c.in_ok-plain_json-in-Some.ensures

pub returns-in-None-clause-member : goal.returns-in-None-clause-member
returns-in-None-clause-member g c = unset_json c.args._tokens g.T.ResolvedValue.answer c.args.self.now c.in-None.is

pub returns-in_ok-plain_json-in-Some-clause-member : goal.returns-in_ok-plain_json-in-Some-clause-member
returns-in_ok-plain_json-in-Some-clause-member g c =
    set_json c.args._tokens g.T.ResolvedValue.answer c.args.self.now c.in-Some.value c.in_ok-plain_json-in-Some.field-0
    c.in-Some.is (g.met.T.PlainValue.whole c.in-Some.value) c.in_ok-plain_json-in-Some.ensures
