use Rattle.std.proofs.Common.{◌≡◌, IsSome, ap, refl, sym, subst}
use Rattle.std.specs.BTreeMap.{get_by_text}
use Rattle.cc2_error.specs.Commands.{Command}
use Rattle.cc2_error.specs.Outcomes.{Answered}
use Rattle.cc2_resolved.specs.ShownTargets.{target_at}
use Rattle.cc2_resolved.specs.Targets.{command_text}
use Rattle.cc2_resolved.specs.TargetConfigs.{shown}
use Rattle.cargo_config2.specs.Kept.{given_of}
use Rattle.cc2_rustc.specs.Lists.{AgreesOnLists, KeepsLists}
use Rattle.cc2_rustc.specs.Rustc.{is_there, rustc_command}
use Rattle.cargo_config2.specs.RustcKept.{rustc_command_of}
use Rattle.cc2_rustc.specs.RustcParts.{settings_of}
use Rattle.cargo_config2.specs.Targets.{IsTarget, IsTargetCause}
use Rattle.cc2_rustc.specs.declared.kept.Kept.{Kept}
use Rattle.cargo_config2.proofs.Keeping.{lists_anew}
use Rattle.cargo_config2.proofs.config.Config.ask_for_target.Goals as goal

pub returns-clause-leaves : goal.returns-clause-leaves
returns-clause-leaves g c =
    let was = c.args.self.now in
    let taken = c.replace-kept.ensures.value in
    let found = c.settings-found.ensures in
    let keeps = subst (λ (k : Kept). KeepsLists k c.settings-found.new.kept) taken found.keeps in record {
      agrees = λ fs answers files programs.
          let command = rustc_command (is_there fs) (settings_of c.parts_of-parts.result) in
          lists_anew fs answers was _ refl refl command (ap (rustc_command (is_there fs)) c.parts_of-parts.ensures)
          (λ h. found.agrees fs answers files programs (subst (λ (k : Kept). AgreesOnLists command
          answers k) (sym taken) h))
          keeps.versions refl;
      keeps = record {
        rustc = keeps.rustc;
        versions = record {
          host = λ known. ap (λ v. v.host) keeps.versions;
          rustc = λ known. ap (λ v. v.rustc) keeps.versions;
          cargo = λ known. ap (λ v. v.cargo) keeps.versions;
        };
        sets = keeps.sets;
        targets = λ name known. refl;
      };
      tables = refl;
      loaded = refl;
      few = found.few;
      none_unasked = found.none_unasked;
      none_listed = λ known. found.none_listed
          (subst (λ (k : Kept). IsSome (get_by_text k.cfg_sets
          (command_text (target_at c.args.target.now)))) (sym taken) known);
    }

pub returns-clause-answer : goal.returns-clause-answer
returns-clause-answer g c fs answers files programs h =
    let was = c.args.self.now in
    let target = target_at c.args.target.now in
    let command = rustc_command (is_there fs) (settings_of c.parts_of-parts.result) in
    let asked : command ≡ rustc_command_of fs was = ap (rustc_command (is_there fs)) c.parts_of-parts.ensures in
    let before = subst (λ (k : Kept). AgreesOnLists command answers k) (sym c.replace-kept.ensures.value)
    (subst (λ (m : Command). AgreesOnLists m answers was.kept) (sym asked)
    (record { command = h.rustc; sets = h.sets })) in
    subst (λ (m : Command). Answered shown c.settings-found.result (IsTarget (given_of was) m answers target)
    (IsTargetCause (given_of was) m answers target)) asked (c.settings-found.ensures.answer fs answers
    files programs before)
