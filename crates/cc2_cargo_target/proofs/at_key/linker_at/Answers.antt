use Rattle.std.proofs.Common.{codes, option_map, string_bytes, refl, ◌∙◌, ap, subst, Ok, None, sym}
use Rattle.std.specs.Prelude.{if◌then◌else◌}
use Rattle.cc2_error.specs.Outcomes.{Gives}
use Rattle.cc2_value.specs.Values.{word_of}
use Rattle.cc2_cargo.specs.Raw.{raw_members_at}
use Rattle.cc2_cargo_settings.specs.Cells.{read_as, text_of_cell}
use Rattle.cc2_cargo_settings.specs.Found.{lookup_at}
use Rattle.cc2_cargo_settings.specs.Values.{text_at, replaced_text}
use Rattle.cc2_cargo_target.specs.AtKey.{key_path, variable_at_key}
use Rattle.cc2_cargo_target.proofs.Naming.{same_read}
use Rattle.cc2_cargo_target.proofs.at_key.linker_at.Goals as goal

pub returns : goal.returns
returns c =
    let look = raw_members_at c.args.sources.settings.now in
    let machine = c.args.sources.machine.now in
    let key = c.args.key.now in
    let path = key_path key (codes "linker") in
    let wanted = variable_at_key key (codes "linker") in
    let name = string_bytes c.in_ok-name.name in
    let there = sym c.is_any_at.ensures ∙ c.if-not-is_any_at.false in
    subst (Gives (option_map word_of) c.text.result)
    (ap (text_at look machine path) c.as_str.ensures.value
    ∙ same_read (λ n g set. replaced_text n g set) (λ m n set. refl) machine wanted name c.in_ok-name.ensures (read_as text_of_cell path (lookup_at look path))
    ∙ sym (ap (λ b. if b then text_at look machine path wanted else Ok None) there))
    c.text.ensures
