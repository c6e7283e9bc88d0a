use Rattle.std.proofs.Common.{◌≡◌, ◌∙◌, ap, List, ℕ, codes}
use Rattle.serde_json.proofs.Views.{view-Object}
use Rattle.serde_json.specs.Data.{Members, put, string}
use Rattle.serde_json.specs.View.{members_view, view}
use Rattle.cc2_reports.specs.Levels.{level_name}
use Rattle.cc2_reports.specs.Problems.{problem_of}
use Rattle.cc2_reports.proofs.Members.{problem_put}
use Rattle.cc2_reports.proofs.json.problem_json.Goals as goal

-- a text that is put, by another name of it
text_put : (key : List ℕ) {text same : List ℕ} (m : Members) {n : Members} → text ≡ same → n ≡ put key (string text) m → n ≡ put key (string same) m
text_put key m is put_is = put_is ∙ ap (λ t. put key (string t) m) is

pub returns : goal.returns
returns c =
    let p = c.args.place.now in
    view-Object c.put_copy-6.new.members ∙
    problem_put (problem_of c.args.report.now) (view p.line) (view p.column) (view p.end_line) (view p.end_column)
    (view c.args.path.now) (view c.args.help.now) (ap members_view c.new-members.ensures.empty)
    c.in_ok-put_copy.ensures c.in_ok-put_copy-2.ensures c.in_ok-put_copy-3.ensures
    (text_put (codes "file") (members_view c.put_copy-3.new.members.entries) c.as_str.ensures.value c.in_ok-put_text.ensures)
    c.in_ok-put_copy-4.ensures (text_put (codes "kind") (members_view c.put_copy-4.new.members.entries) c.word.ensures c.in_ok-put_text-2.ensures)
    (text_put (codes "level") (members_view c.put_text-2.new.members.entries) (c.name.ensures ∙ ap level_name c.level.ensures) c.in_ok-put_text-3.ensures)
    c.in_ok-put_copy-5.ensures (text_put (codes "message") (members_view c.put_copy-5.new.members.entries) c.as_str-2.ensures.value c.in_ok-put_text-4.ensures)
    c.in_ok-put_copy-6.ensures
