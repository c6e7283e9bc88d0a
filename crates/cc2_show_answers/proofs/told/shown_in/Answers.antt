use Rattle.std.proofs.Common.{◌≡◌, ◌⊎◌, ℕ, List, [], map, sym, subst}
use Rattle.cc2_error.specs.Causes.{memory, plain}
use Rattle.serde_json.specs.View.{view}
use Rattle.cc2_cli.specs.ShowTasks.{request_view}
use Rattle.cc2_show_answers.specs.ToldAnswers.{written}
use Rattle.cc2_show_answers.specs.ToldRuns.{IsRefused, unset_line}
use Rattle.cc2_show_answers.proofs.Tells.{found_text, nothing_there}
use Rattle.cc2_show_answers.proofs.told.shown_in.Goals as goal

pub returns-in-Some : goal.returns-in-Some
returns-in-Some c free =
    found_text (request_view c.args.request) (map (λ p. p.now) c.args.pieces.now) (view c.args.json.now) free (view c.in-Some.found.now)
    c.text_of.result c.answer_of.result (sym c.in-Some.ensures) c.text_of.ensures c.answer_of.ensures

pub returns-in-None : goal.returns-in-None
returns-in-None c free =
    nothing_there (request_view c.args.request) (map (λ p. p.now) c.args.pieces.now) (view c.args.json.now) (written c.unset.result) (sym c.in-None.ensures)
    (subst (λ (key : List ℕ). (written c.unset.result ≡ record { out = []; err = unset_line key; status = 1 }) ⊎ IsRefused (plain memory) (written c.unset.result))
    c.key_text.ensures c.unset.ensures)
