use Rattle.cc2_json.proofs.Trees.{none_json}
use Rattle.cc2_json.proofs.into_json.OptionIntoJson.into_json.Goals as goal

pub returns-in-None : goal.returns-in-None
returns-in-None g c = none_json c.args.form g.T.MergeFrom.cell_at c.args.self c.in-None.is
