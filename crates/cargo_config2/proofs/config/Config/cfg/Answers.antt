use Rattle.std.proofs.Common.{◌≡◌, List, Result, Ok, Some, option_map, ap, sym, subst, ◌∙◌}
use Rattle.std.proofs.lemmas.Result.{IfOk-weaker}
use Rattle.std.specs.BTreeMap.{get_by_text}
use Rattle.std.specs.Cow.{cow_str_bytes}
use Rattle.cc2_error.specs.Causes.{Refusal}
use Rattle.cc2_error.specs.Outcomes.{Gives}
use Rattle.cc2_cfg.specs.Meaning.{Atom}
use Rattle.cc2_rustc.specs.Printed.{atoms_of}
use Rattle.cc2_resolved.specs.ShownTargets.{target_at}
use Rattle.cc2_resolved.specs.Targets.{target_in, command_text}
use Rattle.cc2_rustc.specs.CfgSets.{kept_set, set_said, values_said}
use Rattle.cargo_config2.specs.RustcKept.{rustc_command_of}
use Rattle.cargo_config2.proofs.Keeping.{given_answer, same_command}
use Rattle.cc2_rustc.proofs.Sets.{text_back}
use Rattle.cargo_config2.proofs.config.Config.cfg.Goals as goal

pub returns-clause-answer : goal.returns-clause-answer
returns-clause-answer g c fs answers files programs h m told =
    let was = c.args.self.now in
    let new = c.find_cfg_set.new.self in
    let found = c.in_ok-find_cfg_set.ensures in
    let target = target_at c.args.target.now in
    let name = command_text target in
    let after = found.agrees fs answers files programs h in
    let here : get_by_text new.kept.cfg_sets name ≡ Some c.in-Some.set.now =
    ap (get_by_text new.kept.cfg_sets) (sym c.as_command_text.ensures) ∙ sym c.in-Some.ensures.value in
    let stated : set_said (rustc_command_of fs was) answers target ≡ Ok (atoms_of c.in-Some.set.now) =
    ap (λ command. set_said command answers target) (sym (same_command fs answers was new found.tables found.loaded))
    ∙ ap (λ text. set_said (rustc_command_of fs new) answers (target_in text))
    (sym (text_back (cow_str_bytes c.args.target.now.text)))
    ∙ after.sets name _ (ap (option_map atoms_of) here) in
    subst (λ (said : Result (List Atom) Refusal). Gives g.C.Cfg.shown c.cfg_answer.result
    (values_said g.C.Cfg.named g.C.Cfg.MAX m said))
    (sym stated) (c.cfg_answer.ensures m told)

pub returns-clause-kept_as : goal.returns-clause-kept_as
returns-clause-kept_as g c m told =
    let sets = c.find_cfg_set.new.self.kept.cfg_sets in
    let name = command_text (target_at c.args.target.now) in
    let read : List Atom → Result g.C.Cfg.Shown Refusal = λ atoms. values_said g.C.Cfg.named g.C.Cfg.MAX m (Ok atoms) in
    let here : get_by_text sets name ≡ Some c.in-Some.set.now =
    ap (get_by_text sets) (sym c.as_command_text.ensures) ∙ sym c.in-Some.ensures.value in
    IfOk-weaker c.cfg_answer.result (λ answer. read (atoms_of c.in-Some.set.now) ≡ Ok (g.C.Cfg.shown answer))
    (λ answer. option_map read (kept_set sets name) ≡ Some (Ok (g.C.Cfg.shown answer)))
    (λ answer is. ap (λ o. option_map read (option_map atoms_of o)) here ∙ ap Some is)
    (given_answer g.C.Cfg.shown c.cfg_answer.result (read (atoms_of c.in-Some.set.now)) (c.cfg_answer.ensures m told))
