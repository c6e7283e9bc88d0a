use Rattle.toml.specs.View.{table_view}
use Rattle.cc2_findings.proofs.Faults.{refused}
use Rattle.cc2_findings.proofs.refusal.refusal.Goals as goal

pub returns : goal.returns
returns c =
    refused (table_view c.args.table.now) c.in-Err.error c.in-Err.ensures.refused c.in_ok-no_memory_wanted-in-Err.ensures.ok
