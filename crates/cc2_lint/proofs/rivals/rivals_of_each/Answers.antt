use Rattle.std.proofs.Common.{◌≡◌, ◌⊎◌, inl, inr, ◌+◌, ◌++◌, [], ◌∷◌, map, take, drop, sym, ap, ◌∙◌, arith}
use Rattle.std.proofs.lemmas.Grind.{common_steps}
use Rattle.std.proofs.lemmas.List.{map-append, take-append-drop}
use Rattle.cc2_error.specs.Causes.{refusal_of}
use Rattle.cc2_error.specs.Outcomes.{IsWantOfMemory}
use Rattle.cc2_error.proofs.Refused.{err_exit}
use Rattle.cc2_base.proofs.Telling.{kept_on, kept_same}
use Rattle.cc2_lint_settings.specs.Views.{table_of}
use Rattle.cc2_lint.specs.Files.{rivals_view}
use Rattle.cc2_lint.specs.Listed.{IsOfTarget, IsMatchesCause}
use Rattle.cc2_lint.proofs.Asked.{targets_cause}
use Rattle.cc2_reports.proofs.InTurn.{each_end, each_next, each_start}
use Rattle.cc2_lint.proofs.rivals.rivals_of_each.Goals as goal

pub loop-text-init : goal.loop-text-init
loop-text-init g c =
    let targets = map (λ text. text.now) c.args.targets.now in
    record {
      same = kept_same (g.P.Programs.told c.args.programs.now);
      so_far = λ fs answers files programs.
          each_start (IsOfTarget fs answers c.args.machine.now c.args.dir.now (map table_of c.args.linted.now)) targets
          (map rivals_view c.new-all.result.items) (ap (map rivals_view) c.new-all.ensures.items);
    }

pub loop-text-preserved : goal.loop-text-preserved
loop-text-preserved g c =
    let so = c.loop-text.invariant in
    let targets = map (λ t. t.now) c.args.targets.now in
    let before = map (λ t. t.now) (drop c.loop-text.text-index c.args.targets.now) in
    let after = map (λ t. t.now) (drop (c.loop-text.text-index + 1) c.args.targets.now) in
    let one = c.in_ok-rivals.ensures in record {
      same = kept_on _ _ _ so.same one.same;
      so_far = λ fs answers files programs.
          each_next (IsOfTarget fs answers c.args.machine.now c.args.dir.now (map table_of c.args.linted.now)) targets before after _
          (map rivals_view c.loop-text.all.items) (rivals_view c.in_ok-rivals.rivals ∷ []) (map rivals_view c.push.new.self.items)
          (one.ok fs answers files ((so.same answers).0 programs))
          (grind (arith, common_steps))
          (ap (map rivals_view) c.in_ok-push.ensures.items
          ∙ map-append rivals_view c.loop-text.all.items (c.in_ok-rivals.rivals ∷ []))
          (so.so_far fs answers files programs);
    }

pub returns-in_err-rivals-clause-refused : goal.returns-in_err-rivals-clause-refused
returns-in_err-rivals-clause-refused g c fs answers files programs =
    let at = c.loop-text.text-index in
    let all = c.args.targets.now in
    let machine = c.args.machine.now in
    let dir = c.args.dir.now in
    let targets = map (λ t. t.now) all in
    let before = map (λ t. t.now) (take at all) in
    let left = map (λ t. t.now) (drop at all) in
    let behind = map (λ t. t.now) (drop (at + 1) all) in
    let split : targets ≡ before ++ left =
    ap (map (λ t. t.now)) (sym (take-append-drop at all)) ∙ map-append (λ t. t.now) (take at all) (drop at all) in
    let e = c.in_err-rivals.field-0.0 in
    err_exit c.from_residual.result (λ e. IsWantOfMemory e ⊎ IsMatchesCause fs answers machine dir targets (refusal_of e)) e
    c.from_residual.ensures.1
    (elim (c.in_err-rivals.ensures.refused fs answers files ((c.loop-text.invariant.same answers).0 programs)) [
      | inl memory ↦ inl memory
      | inr cause ↦ inr (targets_cause fs answers machine dir targets before left behind _ (refusal_of e) cause (grind (arith, common_steps)) split)
    ])

pub returns-clause-ok : goal.returns-clause-ok
returns-clause-ok g c fs answers files programs =
    let left : map (λ t. t.now) (drop c.loop-text.text-index c.args.targets.now) ≡ [] = grind (arith, common_steps) in
    each_end (IsOfTarget fs answers c.args.machine.now c.args.dir.now (map table_of c.args.linted.now))
    (map (λ t. t.now) c.args.targets.now) (map (λ t. t.now) (drop c.loop-text.text-index c.args.targets.now))
    (map rivals_view c.loop-text.all.items) left (c.loop-text.invariant.so_far fs answers files programs)
