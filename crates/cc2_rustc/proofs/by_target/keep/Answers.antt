use Rattle.std.proofs.Common.{◌∙◌}
use Rattle.cc2_rustc.proofs.Sets.{added}
use Rattle.cc2_rustc.proofs.by_target.keep.Goals as goal

pub returns-clause-adds : goal.returns-clause-adds
returns-clause-adds g c =
    added c.in_ok-name.name c.args.value c.args.kept.now c.insert.new.self _
    (c.in_ok-name.ensures.ok ∙ c.as_command_text.ensures) c.in_ok-insert.ensures.updates
