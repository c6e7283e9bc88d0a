use Rattle.std.proofs.Common.{refl, Some, ap}
use Rattle.cc2_resolved.specs.Answers.{command_answer}
use Rattle.cc2_resolved_json.proofs.Cells.{answer_json}
use Rattle.cc2_resolved_json.proofs.to_json.PathAndArgsToJson.to_json.Goals as goal

pub returns-clause-shown : goal.returns-clause-shown
returns-clause-shown c = answer_json c.args._tokens (command_answer c.args.self.now) c.in_ok-command_json.field-0 refl (ap Some c.in_ok-command_json.ensures)

pub returns-clause-member : goal.returns-clause-member
returns-clause-member c = answer_json c.args._tokens (command_answer c.args.self.now) c.in_ok-command_json.field-0 refl (ap Some c.in_ok-command_json.ensures)
