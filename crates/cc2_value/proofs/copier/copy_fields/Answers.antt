use Rattle.std.proofs.lemmas.Result.{on_ok_weaker}
use Rattle.cc2_value.specs.Copies.{origin_given}
use Rattle.cc2_value.proofs.Visits.{fields_given}
use Rattle.cc2_value.proofs.copier.copy_fields.Goals as goal

pub returns-clause-ok : goal.returns-clause-ok
returns-clause-ok g c =
    on_ok_weaker c.each_ref.result (fields_given g.T.Fields.fields (origin_given c.args.definition)
    c.args.table.now _) c.each_ref.ensures.ok
