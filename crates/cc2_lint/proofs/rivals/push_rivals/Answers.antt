use Rattle.std.proofs.Common.{◌≡◌, ◌+◌, ◌++◌, ◌∷◌, map, drop, ap, sym, ◌∙◌, append_assoc, arith}
use Rattle.std.proofs.lemmas.Grind.{common_steps}
use Rattle.cc2_reports.specs.Problems.{subjects_of}
use Rattle.cc2_lint_settings.specs.Views.{rival_view}
use Rattle.cc2_lint.specs.Files.{items_at, nth_list, rival_subjects, rivals_view}
use Rattle.cc2_lint.specs.Subjects.{rival_subject}
use Rattle.cc2_lint.proofs.ListAt.{viewed_at}
use Rattle.cc2_lint.proofs.rivals.push_rivals.Goals as goal

pub loop-one-preserved : goal.loop-one-preserved
loop-one-preserved c =
    let file = c.args.file.now in
    let n = c.args.number in
    let one = c.one-item.result in
    let before = subjects_of c.loop-one.reports.items in
    let found = c.nth_list.result.now in
    let behind = map rivals_view (drop (c.loop-one.one-index + 1) c.args.rivals.now) in
    let rest = rival_subjects file behind n in
    let split : map rivals_view (drop c.loop-one.one-index c.args.rivals.now) ≡ rivals_view one ∷ behind = grind (arith, common_steps) in
    let own : map rival_view found ≡ nth_list (rivals_view one) n =
    ap (map rival_view) (c.nth_list.ensures ∙ ap (λ vs. items_at vs n) c.as_slice.ensures.value)
    ∙ sym (viewed_at rival_view one.found.items n) in
    ap (λ ss. ss ++ rest) c.in_ok-push_found.ensures
    ∙ append_assoc before (map (rival_subject file) (map rival_view found)) rest
    ∙ ap (λ rs. before ++ (map (rival_subject file) rs ++ rest)) own
    ∙ ap (λ fs. before ++ rival_subjects file fs n) (sym split)
    ∙ c.loop-one.invariant
