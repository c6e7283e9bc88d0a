use Rattle.std.proofs.Common.{◌≡◌, Option, sym, subst}
use Rattle.cc2_error.specs.Commands.{Command, command_of}
use Rattle.cc2_error.specs.declared.path_and_args.PathAndArgs.{PathAndArgs}
use Rattle.cc2_rustc.specs.CfgSets.{Sets, AgreesOnSets}
use Rattle.cc2_rustc.specs.Rustc.{is_there, rustc_command}
use Rattle.cc2_rustc.specs.Kept.{IsKeptAs}
use Rattle.cc2_rustc.specs.RustcParts.{settings_of}
use Rattle.cc2_rustc.proofs.lists.find_set.Goals as goal

pub returns-clause-agrees : goal.returns-clause-agrees
returns-clause-agrees g c fs answers files programs h =
    let asked = rustc_command (is_there fs) (settings_of c.args.parts.now) in
    let kept = c.in_ok-find_rustc.ensures.agrees fs files h.command in
    let rustc : command_of c.in-Some.rustc ≡ asked =
    subst (λ (k : Option PathAndArgs). IsKeptAs k asked) c.in-Some.is kept in
    let before = subst (λ (command : Command). AgreesOnSets command answers c.replace-sets.result) (sym rustc)
    (subst (λ (s : Sets). AgreesOnSets asked answers s) (sym c.replace-sets.ensures.value) h.sets) in record {
      command = kept;
      sets = subst (λ (command : Command). AgreesOnSets command answers c.find_cfg_set-found.new.sets) rustc
          (c.find_cfg_set-found.ensures.agrees answers programs before);
    }
