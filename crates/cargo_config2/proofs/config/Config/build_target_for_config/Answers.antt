use Rattle.std.proofs.Common.{rules, ◌≡◌, List, [], map, Result, Ok, Some, option_map, ap, sym, subst, ◌∙◌}
use Rattle.std.proofs.lemmas.List.{nil_from_length}
use Rattle.std.proofs.lemmas.Result.{IfOk-weaker}
use Rattle.std.specs.Option.{option_copied}
use Rattle.cc2_error.specs.Causes.{Refusal}
use Rattle.cc2_error.specs.Outcomes.{Gives}
use Rattle.cc2_resolved.specs.ShownTargets.{target_at}
use Rattle.cc2_resolved.specs.Targets.{Target}
use Rattle.cc2_rustc.specs.AskedVersions.{Asked, host_said}
use Rattle.cargo_config2.specs.BuildTarget.{of_host, or_host, target_alone, targets_set, targets_shown}
use Rattle.cargo_config2.specs.Kept.{asked_by, host_of}
use Rattle.cargo_config2.proofs.Keeping.{given_answer, known_said, same_asked}
use Rattle.cargo_config2.proofs.config.Config.build_target_for_config.Goals as goal

pub returns-clause-answer : goal.returns-clause-answer
returns-clause-answer g c fs answers files programs h =
    let was = c.args.self.now in
    let new = c.find_host.new.self in
    let found = c.in_ok-find_host.ensures in
    let after = found.agrees fs answers files programs h in
    let host = c.in-Some.host.now in
    let told : host_said (asked_by fs was) answers ≡ Ok host =
    ap (λ (s : Asked). host_said s answers) (sym (same_asked fs answers was new found.tables found.loaded))
    ∙ known_said (asked_by fs new) answers new.kept.versions after.versions host
    (sym c.known_host.ensures ∙ ap (λ o. option_copied o) c.in-Some.is) in
    let none : targets_set (map target_at c.args.given.now) (targets_shown was.build.target) ≡ [] =
    sym c.in_ok-targets.ensures.targets ∙ ap (map target_at)
    (nil_from_length c.in_ok-targets.targets.items (search rules)) in
    subst (λ (said : Result (List Target) Refusal). Gives (λ targets. map target_at targets.items) c.alone.result said)
    (sym (ap (λ set. or_host set (host_said (asked_by fs was) answers)) none ∙ ap of_host told)) c.alone.ensures

pub returns-clause-kept_as : goal.returns-clause-kept_as
returns-clause-kept_as g c none =
    let host = c.in-Some.host.now in
    let known : host_of c.find_host.new.self ≡ Some host =
    sym c.known_host.ensures ∙ ap (λ o. option_copied o) c.in-Some.is in
    IfOk-weaker c.alone.result (λ targets. target_alone host ≡ Ok (map target_at targets.items))
    (λ targets. option_map target_alone (host_of c.find_host.new.self) ≡ Some (Ok (map target_at targets.items)))
    (λ targets is. ap (option_map target_alone) known ∙ ap Some is)
    (given_answer (λ targets. map target_at targets.items) c.alone.result (target_alone host) c.alone.ensures)
