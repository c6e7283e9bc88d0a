use Rattle.std.proofs.Common.{sym, lit<, None}
use Rattle.std.proofs.lemmas.Str.Pattern.{split_once_first}
use Rattle.cc2_findings.proofs.Templates.{open_piece}
use Rattle.cc2_findings.proofs.template.names_variable.Goals as goal

pub returns-in-None : goal.returns-in-None
returns-in-None c =
    let piece = c.args.piece.now in
    sym (open_piece piece (split_once_first 125 piece None c.in-None.ensures.cases (lit< tt)))
