use Rattle.std.proofs.Common.{◌∙◌, sym}
use Rattle.std.proofs.lemmas.Bool.{false≢true}
use Rattle.cc2_cli.specs.Answers.{answer_text}
use Rattle.cc2_cli.specs.GetTasks.{question_view}
use Rattle.cc2_answers.proofs.Questions.{nothing_asks, nothing_gives}
use Rattle.cc2_reply.proofs.answer.get_answer.Goals as goal

pub returns-in-Some : goal.returns-in-Some
returns-in-Some g c fs answers files programs = record {
  files = c.in-Some.ensures.told fs files;
  programs = c.in-Some.ensures.asks fs answers files programs;
  nothing = λ h. absurd (false≢true (c.in-Some.ensures.none ∙ h));
}

pub returns-in-None : goal.returns-in-None
returns-in-None g c fs answers files programs =
    let q = question_view c.args.question in
    record {
      files = nothing_gives fs c.args.machine.now q.choices (answer_text c.no_answer.result) c.no_answer.result.status q.task (sym c.in-None.ensures.none);
      programs = nothing_asks fs c.args.machine.now q.choices (answer_text c.no_answer.result) c.no_answer.result.status answers q.task (sym c.in-None.ensures.none);
      nothing = λ h. (c.no_answer.ensures.text, c.no_answer.ensures.status);
    }
