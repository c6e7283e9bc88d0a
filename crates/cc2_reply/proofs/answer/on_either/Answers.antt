use Rattle.std.proofs.Common.{◌≡◌, ◌++◌, sym, subst}
use Rattle.std.proofs.lemmas.List.{append-nil}
use Rattle.cc2_cli.specs.Answers.{answer_text}
use Rattle.cc2_show_answers.specs.ToldAnswers.{written}
use Rattle.cc2_show_answers.specs.declared.told.Told.{Told}
use Rattle.cc2_reply.proofs.answer.on_either.Goals as goal

pub returns-in-Shown-clause-text : goal.returns-in-Shown-clause-text
returns-in-Shown-clause-text c =
    subst (λ (told : Told). answer_text c.in-Shown.answer ≡ (written told).out ++ (written told).err) (sym c.in-Shown.is)
    (sym (append-nil (answer_text c.in-Shown.answer)))
