use Rattle.cc2_json.proofs.Trees.{none_json}
use Rattle.cc2_json.proofs.target.option_json.Goals as goal

pub returns-in-None : goal.returns-in-None
returns-in-None g c = none_json c.args.form g.T.MergeFrom.cell_at c.args.value.now c.in-None.is
