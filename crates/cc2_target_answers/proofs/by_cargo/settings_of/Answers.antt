use Rattle.std.proofs.Common.{◌≡◌, ◌+◌, ℕ, List, [], Bor, Ok, Err, drop, map, arith, refl, sym, ap, ◌∙◌, subst, inl, inr, ⊎_elim}
use Rattle.std.proofs.lemmas.Grind.{common_steps}
use Rattle.serde_json.proofs.Views.{view-Object}
use Rattle.serde_json.specs.Data.{no_members}
use Rattle.serde_json.specs.View.{members_view, view}
use Rattle.serde_json.specs.declared.value.Value.{Object}
use Rattle.serde_json.specs.Written.{has_float, members_have_float}
use Rattle.cc2_base.proofs.Telling.{kept_on, kept_same}
use Rattle.cc2_error.specs.Causes.{refusal_of}
use Rattle.cc2_error.specs.Commands.{command_of}
use Rattle.cc2_cargo_target.proofs.Matching.{left_over}
use Rattle.cc2_target_answers.specs.CargoTargets.{ArePut}
use Rattle.cc2_target_answers.proofs.Found.{comes_exit}
use Rattle.cc2_target_answers.proofs.Putting.{put_on, stops}
use Rattle.cc2_target_answers.proofs.by_cargo.settings_of.Goals as goal

pub loop-triple-init : goal.loop-triple-init
loop-triple-init g c =
    let settings = c.args.sources.settings.now in
    let empty = ap members_view c.new-members.ensures.empty in
    record {
      same = kept_same (g.P.Programs.told c.args.programs.now);
      free = ap (λ es. members_have_float (members_view es)) c.new-members.ensures.empty;
      so_far = λ answers before outcome put.
          subst (λ ms. ArePut settings c.args.sources.machine.now c.args.dir.now (command_of c.args.rustc.now) answers (map (λ t. t.now) c.args.triples.now) ms outcome)
          empty put;
    }

pub returns-in_err-put_target-clause-told : goal.returns-in_err-put_target-clause-told
returns-in_err-put_target-clause-told g c answers before =
    let settings = c.args.sources.settings.now in
    let machine = c.args.sources.machine.now in
    let dir = c.args.dir.now in
    let rustc = command_of c.args.rustc.now in
    let triples = c.args.triples.now in
    let so = c.loop-triple.invariant in
    let e = c.in_err-put_target.field-0.0 in
    let ms = members_view c.loop-triple.members.entries in
    let left = map (λ t. t.now) (drop (c.loop-triple.triple-index + 1) triples) in
    comes_exit view (ArePut settings machine dir rustc answers (map (λ t. t.now) triples) no_members) c.from_residual.result e c.from_residual.ensures.1
    (⊎_elim (λ memory. inl memory)
    (λ is. inr (so.so_far answers before (Err (refusal_of e))
    (subst (λ ts. ArePut settings machine dir rustc answers ts ms (Err (refusal_of e)))
    (sym (ap (λ ts. map (λ t. t.now) ts) (left_over triples c.loop-triple.triple-index _ c.loop-triple-test.true)))
    (stops settings machine dir rustc answers (Err (refusal_of e)) left _ ms (refusal_of e) is refl))))
    (c.in_err-put_target.ensures.told answers ((so.same answers).0 before)))

pub loop-triple-preserved : goal.loop-triple-preserved
loop-triple-preserved g c =
    let settings = c.args.sources.settings.now in
    let machine = c.args.sources.machine.now in
    let dir = c.args.dir.now in
    let rustc = command_of c.args.rustc.now in
    let triples = c.args.triples.now in
    let so = c.loop-triple.invariant in
    let ms = members_view c.loop-triple.members.entries in
    let ns = members_view c.put_target.new.members.entries in
    let left = map (λ t. t.now) (drop (c.loop-triple.triple-index + 1) triples) in
    record {
      same = kept_on (g.P.Programs.told c.args.programs.now) _ _ so.same c.in_ok-put_target.ensures.same;
      free = c.in_ok-put_target.ensures.free so.free;
      so_far = λ answers before outcome next.
          let (a, is, put) = c.in_ok-put_target.ensures.told answers ((so.same answers).0 before) in
          so.so_far answers before outcome
          (subst (λ ts. ArePut settings machine dir rustc answers ts ms outcome)
          (sym (ap (λ ts. map (λ t. t.now) ts) (left_over triples c.loop-triple.triple-index _ c.loop-triple-test.true)))
          (put_on settings machine dir rustc answers outcome left _ ms ns a is put next));
    }

pub returns-clause-free : goal.returns-clause-free
returns-clause-free g c = ap has_float (view-Object c.loop-triple.members) ∙ c.loop-triple.invariant.free

pub returns-clause-told : goal.returns-clause-told
returns-clause-told g c answers before =
    let triples = c.args.triples.now in
    let members = c.loop-triple.members in
    let ms = members_view members.entries in
    let machine = c.args.sources.machine.now in
    let rustc = command_of c.args.rustc.now in
    let none : drop c.loop-triple.triple-index triples ≡ [] = grind (arith, common_steps) in
    c.loop-triple.invariant.so_far answers before (Ok (view (Object members)))
    (subst (λ (ts : List (Bor (List ℕ))). ArePut c.args.sources.settings.now machine c.args.dir.now rustc answers (map (λ t. t.now) ts) ms (Ok (view (Object members))))
    (sym none) (ap Ok (view-Object members)))
