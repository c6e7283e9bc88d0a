use Rattle.std.proofs.Common.{ℕ, List, map, string_bytes, sym, ap, subst, inl, inr}
use Rattle.cc2_base.proofs.Telling.{kept_on, kept_same}
use Rattle.cc2_error.specs.Causes.{refusal_of}
use Rattle.cc2_answers.specs.ItemViews.{item_view}
use Rattle.cc2_answers.specs.Items.{Item, items_of}
use Rattle.cargo_config2.proofs.Left.{left_before, left_on, left_same}
use Rattle.cc2_answers.specs.Outcomes.{AreOutcome}
use Rattle.cc2_answers.proofs.Comes.{comes_exit}
use Rattle.cc2_answers.proofs.Leaving.{outcome_back, ready_on}
use Rattle.cc2_answers.proofs.SoFar.{at_first, at_last, first_refused, IsSoFar, one_more}
use Rattle.cc2_answers.proofs.several.all_lines.Goals as goal

pub loop-item-init : goal.loop-item-init
loop-item-init g c =
    let config = c.args.config.now in
    let all = items_of (map string_bytes c.args.words.now) in
    record {
      left = left_same (g.F.Files.told c.args.files.now) (g.P.Programs.told c.args.programs.now) config;
      same = kept_same (g.P.Programs.told c.args.programs.now);
      so_far = λ fs answers files programs ready.
          subst (λ (text : List ℕ). IsSoFar fs answers config all all text) (sym c.new-lines.ensures.items) (at_first fs answers config all);
    }

pub returns-in_err-push_item : goal.returns-in_err-push_item
returns-in_err-push_item g c fs answers files programs ready =
    let was = c.args.config.now in
    let config = c.loop-item.config in
    let so = c.loop-item.invariant in
    let all = items_of (map string_bytes c.args.words.now) in
    let item = item_view c.in-Some.item in
    let behind = items_of (map string_bytes c.in-Some.behind.now) in
    let text = c.loop-item.lines.items in
    let e = c.in_err-push_item.field-0.0 in
    let so_far = subst (λ (left : List Item). IsSoFar fs answers was all left text)
    (ap (λ (read : List Item × List (List ℕ)). read.0) c.in-Some.ensures.read) (so.so_far fs answers files programs ready) in
    let later = ready_on fs answers (g.F.Files.told c.args.files.now) (g.P.Programs.told c.args.programs.now) was config so.left files programs ready in
    comes_exit (AreOutcome fs answers was all) c.from_residual.result e c.from_residual.ensures.1
    (elim (c.in_err-push_item.ensures.told fs answers files ((so.same answers).0 programs) later) [
      | inl wants ↦ inl wants
      | inr refused ↦ inr (first_refused fs answers was all behind item text (refusal_of e) so_far
          (outcome_back fs answers was config so.left.tables so.left.loaded item _ refused))
    ])

pub loop-item-preserved : goal.loop-item-preserved
loop-item-preserved g c =
    let was = c.args.config.now in
    let config = c.loop-item.config in
    let so = c.loop-item.invariant in
    let all = items_of (map string_bytes c.args.words.now) in
    let item = item_view c.in-Some.item in
    let behind = items_of (map string_bytes c.in-Some.behind.now) in
    let text = c.loop-item.lines.items in
    let told = g.F.Files.told c.args.files.now in
    let told_programs = g.P.Programs.told c.args.programs.now in
    let one = c.in_ok-push_item.ensures in
    record {
      left = left_on told told_programs was config c.push_item.new.config so.left
          (left_before told told_programs _ config c.push_item.new.config so.same one.left);
      same = kept_on told_programs _ _ so.same one.same;
      so_far = λ fs answers files programs ready.
          let later = ready_on fs answers told told_programs was config so.left files programs ready in
          let so_far = subst (λ (left : List Item). IsSoFar fs answers was all left text)
          (ap (λ (read : List Item × List (List ℕ)). read.0) c.in-Some.ensures.read) (so.so_far fs answers files programs ready) in
          let (lines, answered, is) = one.told fs answers files ((so.same answers).0 programs) later in
          one_more fs answers was all behind item text c.push_item.new.out.items lines so_far
          (outcome_back fs answers was config so.left.tables so.left.loaded item _ answered) is;
    }

pub returns : goal.returns
returns g c fs answers files programs ready =
    let was = c.args.config.now in
    let all = items_of (map string_bytes c.args.words.now) in
    let text = c.loop-item.lines.items in
    at_last fs answers was all text
    (subst (λ (left : List Item). IsSoFar fs answers was all left text)
    (ap (λ (read : List Item × List (List ℕ)). read.0) c.in_default.ensures.read)
    (c.loop-item.invariant.so_far fs answers files programs ready))
