use Rattle.std.proofs.Common.{List, Ok, Err, map, ◌-◌, length, take, drop, ap, sym, subst, inl, inr}
use Rattle.serde_json.proofs.Views.{view-Object}
use Rattle.serde_json.specs.Data.{Data}
use Rattle.serde_json.specs.View.{members_view, view}
use Rattle.serde_json.specs.Written.{members_have_float}
use Rattle.cc2_base.proofs.Telling.{kept_on, kept_same}
use Rattle.cc2_error.specs.Causes.{refusal_of}
use Rattle.cc2_resolved.specs.ShownTargets.{target_at}
use Rattle.cc2_resolved.specs.Targets.{Target}
use Rattle.cargo_config2.specs.Kept.{given_of}
use Rattle.cargo_config2.specs.RustcKept.{rustc_command_of}
use Rattle.cargo_config2.proofs.Left.{left_before, left_on, left_same}
use Rattle.cc2_answers.proofs.Leaving.{ready_on}
use Rattle.cc2_target_answers.specs.CrateTargets.{AreSettings}
use Rattle.cc2_target_answers.proofs.Found.{IsSoFar, at_first, at_last, comes_exit, first_refused, headed, none_left, one_more, put_back}
use Rattle.cc2_target_answers.proofs.by_crate.settings_of.Goals as goal

pub loop-rest-init : goal.loop-rest-init
loop-rest-init g c =
    let config = c.args.config.now in
    record {
      left = left_same (g.F.Files.told c.args.files.now) (g.P.Programs.told c.args.programs.now) config;
      same = kept_same (g.P.Programs.told c.args.programs.now);
      free = ap (λ es. members_have_float (members_view es)) c.new-members.ensures.empty;
      so_far = λ fs answers files programs ready.
          at_first (given_of config) (rustc_command_of fs config) answers (map target_at c.args.targets.now) (members_view c.new-members.result.entries)
          (ap members_view c.new-members.ensures.empty);
    }

pub returns-in_err-put_target-clause-told : goal.returns-in_err-put_target-clause-told
returns-in_err-put_target-clause-told g c fs answers files programs ready =
    let was = c.args.config.now in
    let config = c.loop-rest.config in
    let so = c.loop-rest.invariant in
    let given = given_of was in
    let rustc = rustc_command_of fs was in
    let all = map target_at c.args.targets.now in
    let rest = c.loop-rest.rest.now in
    let t = c.target-item.result in
    let ms = members_view c.loop-rest.members.entries in
    let e = c.in_err-put_target.field-0.0 in
    let so_far = subst (λ (left : List Target). IsSoFar given rustc answers all left ms)
    (ap (map target_at) (headed rest t c.in-len1-up.len_at_least c.target-item.is)) (so.so_far fs answers files programs ready) in
    let later = ready_on fs answers (g.F.Files.told c.args.files.now) (g.P.Programs.told c.args.programs.now) was config so.left files programs ready in
    comes_exit view (AreSettings given rustc answers (Ok all)) c.from_residual.result e c.from_residual.ensures.1
    (elim (put_back fs answers was config so.left.tables so.left.loaded (target_at t) ms ms (Err e)
    (c.in_err-put_target.ensures.asked.told fs answers files ((so.same answers).0 programs) later)) [
      | inl wants ↦ inl wants
      | inr refused ↦ inr (first_refused given rustc answers all (map target_at (take (length rest - 1) (drop 1 rest))) (target_at t) ms (refusal_of e) so_far refused)
    ])

pub loop-rest-preserved : goal.loop-rest-preserved
loop-rest-preserved g c =
    let was = c.args.config.now in
    let config = c.loop-rest.config in
    let so = c.loop-rest.invariant in
    let all = map target_at c.args.targets.now in
    let rest = c.loop-rest.rest.now in
    let t = c.target-item.result in
    let ms = members_view c.loop-rest.members.entries in
    let told = g.F.Files.told c.args.files.now in
    let told_programs = g.P.Programs.told c.args.programs.now in
    let one = c.in_ok-put_target.ensures.asked in
    record {
      left = left_on told told_programs was config c.put_target.new.config so.left
          (left_before told told_programs _ config c.put_target.new.config so.same one.left);
      same = kept_on told_programs _ _ so.same one.same;
      free = c.in_ok-put_target.ensures.free so.free;
      so_far = λ fs answers files programs ready.
          let given = given_of was in
          let rustc = rustc_command_of fs was in
          let so_far = subst (λ (left : List Target). IsSoFar given rustc answers all left ms)
          (ap (map target_at) (headed rest t c.in-len1-up.len_at_least c.target-item.is)) (so.so_far fs answers files programs ready) in
          let later = ready_on fs answers told told_programs was config so.left files programs ready in
          let (a, answered, put) = put_back fs answers was config so.left.tables so.left.loaded (target_at t) _ _ (Ok c.in_ok-put_target.field-0)
          (one.told fs answers files ((so.same answers).0 programs) later) in
          one_more given rustc answers all (map target_at (take (length rest - 1) (drop 1 rest))) (target_at t) ms (members_view c.put_target.new.members.entries) a so_far answered put;
    }

pub returns-clause-told : goal.returns-clause-told
returns-clause-told g c fs answers files programs ready =
    let was = c.args.config.now in
    let all = map target_at c.args.targets.now in
    let ms = c.loop-rest.members in
    subst (λ (d : Data). AreSettings (given_of was) (rustc_command_of fs was) answers (Ok all) (Ok d)) (sym (view-Object ms))
    (at_last (given_of was) (rustc_command_of fs was) answers all (members_view ms.entries)
    (subst (λ (left : List Target). IsSoFar (given_of was) (rustc_command_of fs was) answers all left (members_view ms.entries))
    (ap (map target_at) (none_left c.loop-rest.rest.now c.in_default.len_below)) (c.loop-rest.invariant.so_far fs answers files programs ready)))
