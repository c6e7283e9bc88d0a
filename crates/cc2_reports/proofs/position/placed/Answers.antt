use Rattle.std.proofs.Common.{◌≡◌, ◌∙◌, ◌++◌, ◌∷◌, [], All, List, ap, append_assoc, arith, length, subst, sym}
use Rattle.std.proofs.lemmas.List.{append-nil, map-append, nil_from_length}
use Rattle.std.proofs.lemmas.List.Elements.{All-push}
use Rattle.cc2_reports.specs.Positions.{IsPlaced, source_text}
use Rattle.cc2_reports.specs.Problems.{subject_of, subjects_of}
use Rattle.cc2_reports.specs.declared.report.Report.{Report}
use Rattle.cc2_reports.proofs.position.placed.Goals as goal

pub loop-report-preserved : goal.loop-report-preserved
loop-report-preserved c =
    let (parted, long, same, placed) = c.loop-report.invariant in
    let taken = c.loop-report.yielded in
    let report = c.in-Some.report in
    let now = c.in_ok-placed_one.field-0 in
    let (steps, less) = c.in-Some.ensures.steps in
    let items = c.in_ok-push.ensures.items in (
      append_assoc taken (report ∷ []) c.next.new.self.rest.items ∙ ap (λ (rs : List Report). taken ++ rs) (sym steps) ∙ parted,
      omega (arith, long, less, ap length steps),
      ap subjects_of items ∙ map-append subject_of c.loop-report.placed.items (now ∷ [])
          ∙ ap (λ ss. ss ++ subject_of now ∷ []) same
          ∙ ap (λ s. subjects_of taken ++ s ∷ []) c.in_ok-placed_one.ensures.same.subject
          ∙ sym (map-append subject_of taken (report ∷ [])),
      subst (All (IsPlaced (source_text c.args.source.now))) (sym items)
          (All-push (IsPlaced (source_text c.args.source.now)) c.loop-report.placed.items now placed c.in_ok-placed_one.ensures.placed),
    )

pub returns-clause-same : goal.returns-clause-same
returns-clause-same c =
    let (parted, long, same, placed) = c.loop-report.invariant in
    let taken = c.loop-report.yielded in
    let none = nil_from_length c.loop-report.report-iterator.rest.items (sym long ∙ c.in-None.ensures.steps.0) in
    let all : taken ≡ c.args.reports.items = sym (append-nil taken) ∙ ap (λ (rs : List Report). taken ++ rs) (sym none) ∙ parted in
    same ∙ ap subjects_of all

pub returns-clause-placed : goal.returns-clause-placed
returns-clause-placed c =
    let (parted, long, same, placed) = c.loop-report.invariant in placed
