use Rattle.cc2_value.specs.Copies.{origin_given}
use Rattle.cc2_leaf.proofs.LeafCopies.{word_copied}
use Rattle.cc2_leaf.proofs.text_copies.copied_text.Goals as goal

pub returns-clause-ok : goal.returns-clause-ok
returns-clause-ok c =
    word_copied (origin_given c.args.definition) c.args.text.now c.in_ok-copied.field-0 c.in_ok-copied.ensures.ok
