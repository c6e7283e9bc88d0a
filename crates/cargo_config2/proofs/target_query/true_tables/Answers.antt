use Rattle.std.proofs.Common.{◌≡◌, map, Some, Ok, true≢false, ap, sym, subst, ◌∙◌}
use Rattle.std.specs.BTreeMap.{get_by_text}
use Rattle.std.specs.Cow.{cow_str_bytes}
use Rattle.cc2_rustc.specs.Asking.{SomeKeyAsks}
use Rattle.cc2_rustc.specs.Printed.{atoms_of}
use Rattle.cc2_resolved.specs.ShownTargets.{target_at}
use Rattle.cc2_resolved.specs.Targets.{command_text}
use Rattle.cc2_target.specs.Asked.{AreTrue}
use Rattle.cc2_target.proofs.Answering.{none_true, true_by}
use Rattle.cc2_rustc.specs.CfgSets.{set_said}
use Rattle.cc2_rustc.specs.Rustc.{is_there, rustc_command}
use Rattle.cc2_rustc.specs.RustcParts.{settings_of}
use Rattle.cc2_rustc.proofs.Sets.{said_kept}
use Rattle.cargo_config2.proofs.target_query.true_tables.Goals as goal

pub returns-then-not-asks-clause-told : goal.returns-then-not-asks-clause-told
returns-then-not-asks-clause-told g c fs answers files programs h entries asking =
    let said = set_said (rustc_command (is_there fs) (settings_of c.args.parts.now)) answers
    (target_at c.args.target.now) in
    let none : ¬ (SomeKeyAsks entries) = λ k. true≢false (sym ((c.asks.ensures entries asking).1 k) ∙
    c.if-not-asks.true) in (
      subst (λ ts. AreTrue entries said (map (λ t. t.now) ts)) (sym c.new.ensures.items) (none_true entries said none),
      λ refusal k. none k.0,
    )

pub returns-clause-told : goal.returns-clause-told
returns-clause-told g c fs answers files programs h entries asking =
    let rustc = rustc_command (is_there fs) (settings_of c.args.parts.now) in
    let target = target_at c.args.target.now in
    let sets = c.find_set.new.kept.cfg_sets in
    let after = c.in_ok-find_set.ensures.agrees fs answers files programs h in
    let here : get_by_text sets (command_text target) ≡ Some c.in-Some.set.now =
    ap (get_by_text sets) (sym c.as_command_text.ensures) ∙ sym c.in-Some.ensures.value in
    let said : set_said rustc answers target ≡ Ok (atoms_of c.in-Some.set.now) =
    said_kept rustc answers sets (cow_str_bytes c.args.target.now.text) c.in-Some.set.now after.sets here in (
      true_by entries (set_said rustc answers target) (atoms_of c.in-Some.set.now) _ said
          (c.in_ok-true_values-in-Some.ensures.keys entries asking),
      λ refusal k. cc (sym said ∙ k.1),
    )
