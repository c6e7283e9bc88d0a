use Rattle.std.proofs.Common.{refl}
use Rattle.cc2_resolved.specs.Answers.{list_answer}
use Rattle.cc2_resolved_json.proofs.Cells.{answer_json}
use Rattle.cc2_resolved_json.proofs.to_json.StringListToJson.to_json.Goals as goal

pub returns-clause-shown : goal.returns-clause-shown
returns-clause-shown c = answer_json c.args._tokens (list_answer c.args.self.now) c.in_ok-texts_json.field-0 refl (rw c.as_slice.ensures.value at c.in_ok-texts_json.ensures)

pub returns-clause-member : goal.returns-clause-member
returns-clause-member c = answer_json c.args._tokens (list_answer c.args.self.now) c.in_ok-texts_json.field-0 refl (rw c.as_slice.ensures.value at c.in_ok-texts_json.ensures)
