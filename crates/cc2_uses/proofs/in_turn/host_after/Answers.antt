use Rattle.std.proofs.Common.{◌≡◌, [], Ok, ap, sym, subst, ◌∙◌}
use Rattle.std.specs.Prelude.{unwrap_or}
use Rattle.cargo_config2.specs.Kept.{asked_by}
use Rattle.cargo_config2.specs.Outcomes.{IsRefusal}
use Rattle.cargo_config2.specs.VersionsAsked.{Asked, host_said}
use Rattle.cargo_config2.proofs.Keeping.{same_asked}
use Rattle.cc2_uses.proofs.in_turn.host_after.Goals as goal

pub returns-in-Err : goal.returns-in-Err
returns-in-Err g c fs answers files programs h =
    let left = c.ask_in_turn.ensures.left in
    subst (λ (s : Asked). IsRefusal (host_said s answers) c.in-Err.error)
    (same_asked fs answers c.args.config.now c.ask_in_turn.new.config left.tables left.loaded)
    (c.in-Err.ensures.answer fs answers files ((c.ask_in_turn.ensures.same answers).0 programs) (left.agrees fs answers files programs h))

pub returns-in_ok-from_str-in-Ok : goal.returns-in_ok-from_str-in-Ok
returns-in_ok-from_str-in-Ok g c fs answers files programs h =
    let left = c.ask_in_turn.ensures.left in
    ap (λ (s : Asked). host_said s answers)
    (sym (same_asked fs answers c.args.config.now c.ask_in_turn.new.config left.tables left.loaded))
    ∙ c.in-Ok.ensures.answer fs answers files ((c.ask_in_turn.ensures.same answers).0 programs) (left.agrees fs answers files programs h)
    ∙ ap (λ o. Ok (unwrap_or o [])) c.as_str.ensures ∙ ap Ok (sym c.in_ok-from_str-in-Ok.ensures.ok)
