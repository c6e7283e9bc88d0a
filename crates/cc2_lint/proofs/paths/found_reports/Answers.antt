use Rattle.std.proofs.Common.{◌≡◌, inl, inr, ◌+◌, [], ◌∷◌, ◌++◌, map, take, drop, string_bytes, ap, sym, ◌∙◌, arith}
use Rattle.std.proofs.lemmas.Grind.{common_steps}
use Rattle.std.proofs.lemmas.List.{map-append, take-append-drop}
use Rattle.cc2_error.specs.Causes.{refusal_of}
use Rattle.cc2_error.proofs.Refused.{err_exit}
use Rattle.cc2_base.proofs.Telling.{kept_on}
use Rattle.cc2_lint.specs.Answers.{IsWhyNot}
use Rattle.cc2_lint.specs.Listed.{IsOfPath}
use Rattle.cc2_reports.proofs.InTurn.{each_end, each_next}
use Rattle.cc2_reports.proofs.Outcomes.{if_err, if_ok}
use Rattle.cc2_lint.proofs.Asked.{among, cause_none, cause_of, found_each, found_none}
use Rattle.cc2_lint.proofs.paths.found_reports.Goals as goal

pub returns-then-is_empty-clause-ok : goal.returns-then-is_empty-clause-ok
returns-then-is_empty-clause-ok g c fs answers is_open files programs permissions =
    let q = c.args.question.now in
    if_ok c.dir_reports.result _ _
    (λ reports h. found_none fs answers c.args.machine.now is_open (map (λ t. t.now) q.targets.now) q.dir.now q.paths.now reports.items
    (sym c.is_empty.ensures ∙ c.if-is_empty.true) h)
    (c.dir_reports.ensures.ok fs answers is_open files programs permissions)

pub returns-then-is_empty-clause-refused : goal.returns-then-is_empty-clause-refused
returns-then-is_empty-clause-refused g c fs answers files programs =
    let q = c.args.question.now in
    if_err c.dir_reports.result _ _
    (λ e why. elim why [
      | inl memory ↦ inr memory
      | inr cause ↦ inl (cause_none fs answers c.args.machine.now (map (λ t. t.now) q.targets.now) q.dir.now q.paths.now (refusal_of e)
          (sym c.is_empty.ensures ∙ c.if-is_empty.true) cause)
    ])
    (c.dir_reports.ensures.refused fs answers files programs)

pub returns-in_err-found-clause-refused : goal.returns-in_err-found-clause-refused
returns-in_err-found-clause-refused g c fs answers files programs =
    let q = c.args.question.now in
    let at = c.loop-path.path-index in
    let paths = q.paths.now in
    let behind = map string_bytes (drop (at + 1) paths) in
    let next : map string_bytes (drop at paths) ≡ c.as_str-path.result.now ∷ behind = grind (arith, common_steps) in
    let split : map string_bytes paths ≡ map string_bytes (take at paths) ++ map string_bytes (drop at paths) =
    ap (map string_bytes) (sym (take-append-drop at paths)) ∙ map-append string_bytes (take at paths) (drop at paths) in
    err_exit c.from_residual.result (λ e. IsWhyNot fs answers c.args.machine.now q (refusal_of e)) c.in_err-found.field-0.0
    c.from_residual.ensures.1
    (elim (c.in_err-found.ensures.refused fs answers files ((c.loop-path.invariant.same answers).0 programs)) [
      | inl memory ↦ inr memory
      | inr cause ↦ inl (cause_of fs answers c.args.machine.now (map (λ t. t.now) q.targets.now) q.dir.now paths
          (refusal_of c.in_err-found.field-0.0) c.as_str-path.result.now (sym c.is_empty.ensures ∙ c.if-is_empty.false)
          (among (map string_bytes paths) (map string_bytes (take at paths)) (map string_bytes (drop at paths)) behind
          c.as_str-path.result.now split next) cause.0 cause.1)
    ])

pub loop-path-preserved : goal.loop-path-preserved
loop-path-preserved g c =
    let q = c.args.question.now in
    let at = c.loop-path.path-index in
    let paths = q.paths.now in
    let behind = map string_bytes (drop (at + 1) paths) in
    let next : map string_bytes (drop at paths) ≡ c.as_str-path.result.now ∷ behind = grind (arith, common_steps) in
    let so = c.loop-path.invariant in
    let one = c.in_ok-found.ensures in record {
      same = kept_on _ _ _ so.same one.same;
      so_far = λ fs answers is_open files programs permissions.
          each_next (IsOfPath fs answers is_open c.args.machine.now (map (λ t. t.now) q.targets.now) q.dir.now) (map string_bytes paths)
          (map string_bytes (drop at paths)) behind c.as_str-path.result.now c.loop-path.all.items c.in_ok-found.found.items
          c.append.new.self.items (one.ok fs answers is_open files ((so.same answers).0 programs) permissions) next
          c.in_ok-append.ensures.items (so.so_far fs answers is_open files programs permissions);
    }

pub returns-clause-ok : goal.returns-clause-ok
returns-clause-ok g c fs answers is_open files programs permissions =
    let q = c.args.question.now in
    let paths = q.paths.now in
    let left : map string_bytes (drop c.loop-path.path-index paths) ≡ [] = grind (arith, common_steps) in
    found_each fs answers c.args.machine.now is_open (map (λ t. t.now) q.targets.now) q.dir.now paths c.loop-path.all.items
    (sym c.is_empty.ensures ∙ c.if-is_empty.false)
    (each_end (IsOfPath fs answers is_open c.args.machine.now (map (λ t. t.now) q.targets.now) q.dir.now) (map string_bytes paths)
    (map string_bytes (drop c.loop-path.path-index paths)) c.loop-path.all.items left
    (c.loop-path.invariant.so_far fs answers is_open files programs permissions))
