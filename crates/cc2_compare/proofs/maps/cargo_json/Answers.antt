use Rattle.std.proofs.Common.{inl, inr, ◌⊎◌}
use Rattle.cc2_cargo.specs.Raw.{raw_members_at}
use Rattle.cc2_error.specs.Causes.{refusal_of}
use Rattle.cc2_error.specs.Outcomes.{IsWantOfMemory}
use Rattle.cc2_error.proofs.Refused.{err_exit}
use Rattle.cc2_compare.specs.Maps.{IsCargoRefusal}
use Rattle.cc2_compare.proofs.maps.cargo_json.Goals as goal

pub returns-in_err-settings-clause-refused : goal.returns-in_err-settings-clause-refused
returns-in_err-settings-clause-refused g c fs files real_paths reals =
    let machine = c.args.machine.now in
    err_exit c.from_residual.result (λ e. IsWantOfMemory e ⊎ IsCargoRefusal fs real_paths machine c.args.dir.now (refusal_of e))
    c.in_err-settings.field-0.0 c.from_residual.ensures.1
    (elim (c.in_err-settings.ensures fs files real_paths reals) [
      | inl is ↦ inr is
      | inr out ↦ inl (cc out)
    ])

pub returns-clause-ok : goal.returns-clause-ok
returns-clause-ok g c fs files real_paths reals =
    elim (c.in_ok-settings.ensures fs files real_paths reals) [
      | inl is ↦ (raw_members_at c.in_ok-settings.settings, is, c.in_ok-raw_to_json.ensures.json)
      | inr apart ↦ cc apart
    ]
