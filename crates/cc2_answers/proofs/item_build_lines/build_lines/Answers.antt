use Rattle.std.proofs.Common.{rules, codes}
use Rattle.cc2_cli.proofs.Appended.{as_one}
use Rattle.cc2_resolved_tables.specs.Build.{build_rows}
use Rattle.cc2_answers.specs.ResolvedLines.{row_lines}
use Rattle.cc2_answers.proofs.item_build_lines.build_lines.Goals as goal

pub returns : goal.returns
returns c = as_one (row_lines (codes "build.") c.args.build.now) build_rows (search rules)
