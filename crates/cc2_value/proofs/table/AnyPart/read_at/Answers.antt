use Rattle.std.proofs.Common.{[], Option, subst}
use Rattle.std.proofs.lemmas.Result.{IfErr-weaker}
use Rattle.toml.specs.Data.{Data, as_table}
use Rattle.toml.specs.View.{view}
use Rattle.cc2_value.specs.Cells.{field}
use Rattle.cc2_value.specs.Reading.{table_way, table_faults}
use Rattle.cc2_value.specs.Ways.{IsFaultBehind, below, faults_in}
use Rattle.cc2_value.proofs.Decoded.{fault_below}
use Rattle.cc2_value.proofs.table.AnyPart.read_at.Goals as goal

pub returns-in-Some-clause-refused : goal.returns-in-Some-clause-refused
returns-in-Some-clause-refused g c =
    let key = field c.args.key.now in
    let fields = g.T.Fields.fields in
    IfErr-weaker c.read_table.result _ _
    (λ e refused. subst (λ (o : Option Data). IsFaultBehind []
    (below key (faults_in (table_way fields) o)) e) c.in-Some.ensures.found
    (fault_below key (table_faults fields (as_table (view c.in-Some.value))) e refused))
    c.read_table.ensures.refused
