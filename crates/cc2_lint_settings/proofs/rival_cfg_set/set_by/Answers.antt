use Rattle.std.proofs.Common.{◌≡◌, Some, Ok, ap, sym, ◌∙◌}
use Rattle.std.specs.BTreeMap.{get_by_text}
use Rattle.std.specs.Cow.{cow_str_bytes}
use Rattle.cc2_rustc.specs.Printed.{atoms_of}
use Rattle.cc2_resolved.specs.ShownTargets.{target_at}
use Rattle.cc2_resolved.specs.Targets.{command_text}
use Rattle.cc2_rustc.specs.CfgSets.{set_said}
use Rattle.cc2_rustc.proofs.Sets.{said_kept}
use Rattle.cc2_target.proofs.Exits.{gives_exit}
use Rattle.cargo_config2.specs.RustcKept.{rustc_command_of}
use Rattle.cargo_config2.proofs.Keeping.{same_command}
use Rattle.cc2_lint_settings.proofs.rival_cfg_set.set_by.Goals as goal

pub returns-in_err-find_cfg_set-clause-answer : goal.returns-in_err-find_cfg_set-clause-answer
returns-in_err-find_cfg_set-clause-answer g c fs answers files programs h =
    gives_exit atoms_of c.from_residual.result _ c.in_err-find_cfg_set.field-0.0
    c.from_residual.ensures.1
    (c.in_err-find_cfg_set.ensures.refused fs answers files programs h)

pub returns-clause-answer : goal.returns-clause-answer
returns-clause-answer g c fs answers files programs h =
    let was = c.args.config.now in
    let new = c.find_cfg_set.new.self in
    let found = c.in_ok-find_cfg_set.ensures in
    let target = target_at c.args.target.now in
    let set = c.in-Some.set.now in
    let after = found.agrees fs answers files programs h in
    let here : get_by_text new.kept.cfg_sets (command_text target) ≡ Some set = sym c.in-Some.ensures in
    ap (λ command. set_said command answers target) (sym (same_command fs answers was new found.tables found.loaded))
    ∙ said_kept (rustc_command_of fs new) answers new.kept.cfg_sets (cow_str_bytes c.args.target.now.text) set after.sets here
    ∙ ap Ok (sym c.in_ok-try_clone-in-Some.ensures)
