use Rattle.std.proofs.Common.{Ok, codes, string_bytes, refl, ◌∙◌, ap, subst, None, sym}
use Rattle.std.specs.Prelude.{if◌then◌else◌}
use Rattle.cc2_error.specs.Outcomes.{Gives}
use Rattle.cc2_cargo.specs.Raw.{raw_members_at}
use Rattle.cc2_cargo_settings.specs.Found.{lookup_at}
use Rattle.cc2_cargo_settings.specs.Shown.{list_view}
use Rattle.cc2_cargo_settings.specs.Commands.{command_at, words_of_command, with_program}
use Rattle.cc2_cargo_settings.specs.Values.{on_ok}
use Rattle.cc2_cargo_target.specs.AtKey.{key_path, variable_at_key}
use Rattle.cc2_cargo_target.proofs.Naming.{same_read}
use Rattle.cc2_cargo_target.proofs.at_key.runner_at.Goals as goal

pub returns : goal.returns
returns c =
    let look = raw_members_at c.args.sources.settings.now in
    let machine = c.args.sources.machine.now in
    let key = c.args.key.now in
    let path = key_path key (codes "runner") in
    let wanted = variable_at_key key (codes "runner") in
    let name = string_bytes c.in_ok-name.name in
    let there = sym c.is_any_at.ensures ∙ c.if-not-is_any_at.false in
    subst (Gives list_view c.command.result)
    (ap (command_at look machine path) c.as_str.ensures.value
    ∙ same_read (λ n g found. on_ok (with_program path) (words_of_command path n g found)) (λ m n found. refl) machine wanted name c.in_ok-name.ensures (Ok (lookup_at look path))
    ∙ sym (ap (λ b. if b then command_at look machine path wanted else Ok None) there))
    c.command.ensures
