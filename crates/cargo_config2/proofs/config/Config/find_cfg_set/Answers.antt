use Rattle.std.proofs.Common.{◌≡◌, IfErr, ap, refl, sym, subst, ◌∙◌}
use Rattle.cc2_error.specs.Commands.{Command}
use Rattle.cc2_error.specs.Outcomes.{IsRefusal}
use Rattle.cc2_resolved.specs.ShownTargets.{target_at}
use Rattle.cc2_rustc.specs.CfgSets.{set_said}
use Rattle.cc2_rustc.specs.Lists.{AgreesOnLists}
use Rattle.cc2_rustc.specs.Rustc.{is_there, rustc_command}
use Rattle.cargo_config2.specs.RustcKept.{rustc_command_of}
use Rattle.cc2_rustc.specs.RustcParts.{settings_of}
use Rattle.cc2_rustc.specs.declared.kept.Kept.{Kept}
use Rattle.cargo_config2.proofs.Keeping.{lists_anew}
use Rattle.cargo_config2.proofs.config.Config.find_cfg_set.Goals as goal

pub returns-clause-agrees : goal.returns-clause-agrees
returns-clause-agrees g c fs answers files programs =
    let was = c.args.self.now in
    let command = rustc_command (is_there fs) (settings_of c.parts_of-parts.result) in
    let taken = c.replace-kept.ensures.value in
    lists_anew fs answers was _ refl refl command (ap (rustc_command (is_there fs)) c.parts_of-parts.ensures)
    (λ h. c.find_set-found.ensures.agrees fs answers files programs
    (subst (λ (k : Kept). AgreesOnLists command answers k) (sym taken) h))
    (c.find_set-found.ensures.keeps.versions ∙ ap (λ (k : Kept). k.versions) taken) refl

pub returns-clause-refused : goal.returns-clause-refused
returns-clause-refused g c fs answers files programs h =
    let was = c.args.self.now in
    let command = rustc_command (is_there fs) (settings_of c.parts_of-parts.result) in
    let asked : command ≡ rustc_command_of fs was = ap (rustc_command (is_there fs)) c.parts_of-parts.ensures in
    let before = subst (λ (k : Kept). AgreesOnLists command answers k) (sym c.replace-kept.ensures.value)
    (subst (λ (m : Command). AgreesOnLists m answers was.kept) (sym asked)
    (record { command = h.rustc; sets = h.sets })) in
    subst (λ (m : Command). IfErr c.find_set-found.result (IsRefusal (set_said m answers
    (target_at c.args.target.now)))) asked
    (c.find_set-found.ensures.refused fs answers files programs before)
