use Rattle.std.proofs.Common.{rules}
use Rattle.std.proofs.lemmas.Str.{chars_from_encodes}
use Rattle.cc2_command_line.proofs.nearest.char_count.Goals as goal

pub returns : goal.returns
returns c = search (rules, chars_from_encodes)
