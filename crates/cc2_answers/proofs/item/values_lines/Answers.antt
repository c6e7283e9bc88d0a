use Rattle.std.proofs.Common.{◌≡◌, ◌⊎◌, Option, Some, Ok, Err, sym, ap, subst, ◌∙◌, inr}
use Rattle.std.specs.Cow.{cow_str_bytes}
use Rattle.cc2_base.proofs.Telling.{kept_same}
use Rattle.cc2_error.specs.Causes.{refusal_of}
use Rattle.cc2_error.specs.Commands.{Command}
use Rattle.cc2_error.specs.Outcomes.{IsWantOfMemory}
use Rattle.cc2_rustc.specs.Printed.{atoms_of}
use Rattle.cc2_resolved.specs.ShownTargets.{target_at}
use Rattle.cc2_resolved.specs.Targets.{Target, target_of}
use Rattle.cc2_target.proofs.Exits.{known_none, known_one}
use Rattle.cc2_rustc.specs.CfgSets.{set_said}
use Rattle.cc2_rustc.proofs.Sets.{said_kept}
use Rattle.cargo_config2.specs.RustcKept.{rustc_command_of}
use Rattle.cargo_config2.proofs.Keeping.{same_command}
use Rattle.cc2_answers.specs.CfgLines.{cfg_lines}
use Rattle.cc2_answers.specs.Items.{cfg}
use Rattle.cc2_answers.specs.Outcomes.{cfg_outcome, IsOutcomeOf}
use Rattle.cc2_answers.proofs.Comes.{comes_exit, given_lines, refused_lines}
use Rattle.cargo_config2.proofs.Left.{left_same}
use Rattle.cc2_answers.proofs.item.values_lines.Goals as goal

pub returns-in_err-target : goal.returns-in_err-target
returns-in_err-target g c =
    let config = c.args.config.now in
    let text = c.args.text.now in
    let name = c.args.name.now in
    let e = c.in_err-target.field-0.0 in
    let (none, is) = known_none (target_of text) _ _ c.in_err-target.ensures.target in record {
      left = left_same _ _ config;
      same = kept_same (g.P.Programs.told c.args.programs.now);
      told = λ fs answers files programs ready.
          comes_exit (IsOutcomeOf fs answers config (cfg text name)) c.from_residual.result e c.from_residual.ensures.1
          (inr (subst (λ (t : Option Target). Err (refusal_of e) ≡ cfg_outcome (rustc_command_of fs config) answers t name) (sym none) (ap Err is)));
    }

pub returns-in_err-find_cfg_set : goal.returns-in_err-find_cfg_set
returns-in_err-find_cfg_set g c =
    let config = c.args.config.now in
    let text = c.args.text.now in
    let name = c.args.name.now in
    let target = target_at c.in_ok-target.target in
    let found = c.in_err-find_cfg_set.ensures in
    let e = c.in_err-find_cfg_set.field-0.0 in
    let one : target_of text ≡ Some target = known_one (target_of text) _ _ c.in_ok-target.ensures.target in record {
      left = record { agrees = found.agrees; tables = found.tables; loaded = found.loaded };
      same = found.same;
      told = λ fs answers files programs ready.
          let rustc = rustc_command_of fs config in
          comes_exit (IsOutcomeOf fs answers config (cfg text name)) c.from_residual-in_err-find_cfg_set.result e
          c.from_residual-in_err-find_cfg_set.ensures.1
          (subst (λ (t : Option Target). IsWantOfMemory e ⊎ (Err (refusal_of e) ≡ cfg_outcome rustc answers t name)) (sym one)
          (refused_lines (cfg_lines name) (set_said rustc answers target) e (found.refused fs answers files programs ready.agrees)));
    }

pub returns : goal.returns
returns g c =
    let was = c.args.config.now in
    let text = c.args.text.now in
    let name = c.args.name.now in
    let config = c.find_cfg_set.new.self in
    let target = target_at c.in_ok-target.target in
    let found = c.in_ok-find_cfg_set.ensures in
    let set = c.in-Some.set.now in
    let lines = c.in_ok-cfg_lines-in-Some.field-0.items in
    let one : target_of text ≡ Some target = known_one (target_of text) _ _ c.in_ok-target.ensures.target in record {
      left = record { agrees = found.agrees; tables = found.tables; loaded = found.loaded };
      same = found.same;
      told = λ fs answers files programs ready.
          let agrees = found.agrees fs answers files programs ready.agrees in
          let said : set_said (rustc_command_of fs was) answers target ≡ Ok (atoms_of set) =
          ap (λ (m : Command). set_said m answers target) (sym (same_command fs answers was config found.tables found.loaded))
          ∙ said_kept (rustc_command_of fs config) answers config.kept.cfg_sets (cow_str_bytes c.in_ok-target.target.text) set agrees.sets
          (sym c.in-Some.ensures) in
          subst (λ (t : Option Target). Ok lines ≡ cfg_outcome (rustc_command_of fs was) answers t name) (sym one)
          (given_lines (cfg_lines name) (set_said (rustc_command_of fs was) answers target) (atoms_of set) lines said
          c.in_ok-cfg_lines-in-Some.ensures);
    }
