use Rattle.std.proofs.lemmas.Result.{on_ok_weaker}
use Rattle.cc2_resolved.proofs.SentTexts.{texts_sent}
use Rattle.cc2_resolved.proofs.sent.send_texts.Goals as goal

pub returns : goal.returns
returns g c = on_ok_weaker c.serialize.result (texts_sent c.args.texts.now _ _) c.serialize.ensures
