use Rattle.std.proofs.Common.{rules}
use Rattle.cc2_de.specs.Config.{config_at}
use Rattle.cc2_cli.specs.Lines.{build_keys, key_lines}
use Rattle.cc2_cli.proofs.Appended.{as_one}
use Rattle.cc2_answers.proofs.build_lines.build_lines.Goals as goal

pub returns : goal.returns
returns c = as_one (key_lines (config_at c.args.config.now)) build_keys (search rules)
