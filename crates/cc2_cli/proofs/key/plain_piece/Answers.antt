use Rattle.std.proofs.Common.{Some, None, sym}
use Rattle.std.proofs.lemmas.List.{append-nil}
use Rattle.cc2_cli.proofs.Keys.{plain_cut, plain_none}
use Rattle.cc2_cli.proofs.key.plain_piece.Goals as goal

pub returns-then-is_plain : goal.returns-then-is_plain
returns-then-is_plain c =
    plain_cut c.args.text.now c.in-Some.piece.now (Some c.in-Some.rest.now) c.requires.single c.requires.double c.in-Some.ensures.0 c.in-Some.ensures.1
    c.if-is_plain.ensures

pub returns-else-is_plain : goal.returns-else-is_plain
returns-else-is_plain c =
    plain_none c.args.text.now c.in-Some.piece.now (Some c.in-Some.rest.now) c.requires.single c.requires.double c.in-Some.ensures.0 c.in-Some.ensures.1
    c.if-is_plain.ensures

pub returns-then-is_plain-2 : goal.returns-then-is_plain-2
returns-then-is_plain-2 c =
    plain_cut c.args.text.now c.args.text.now None c.requires.single c.requires.double (sym (append-nil c.args.text.now)) c.in-None.ensures c.if-is_plain-2.ensures

pub returns-else-is_plain-2 : goal.returns-else-is_plain-2
returns-else-is_plain-2 c =
    plain_none c.args.text.now c.args.text.now None c.requires.single c.requires.double (sym (append-nil c.args.text.now)) c.in-None.ensures c.if-is_plain-2.ensures
