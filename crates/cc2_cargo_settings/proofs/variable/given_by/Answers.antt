use Rattle.std.proofs.Common.{sym, ap, ◌∙◌}
use Rattle.std.specs.Prelude.{if◌then◌else◌}
use Rattle.std.proofs.lemmas.Str.{is_utf8-from_IsUtf8}
use Rattle.cc2_cargo_settings.specs.Variables.{given_of, not_utf8, set_to}
use Rattle.cc2_cargo_settings.proofs.Utf8.{not_utf8 as no_utf8}
use Rattle.cc2_cargo_settings.proofs.variable.given_by.Goals as goal

pub returns-in-Ok : goal.returns-in-Ok
returns-in-Ok c =
    let bytes = c.in-Some.bytes.now in
    let is = ap (λ b. if b then set_to bytes else not_utf8 bytes) (is_utf8-from_IsUtf8 bytes c.in-Ok.ensures.cases.1) in
    ap set_to c.in-Ok.ensures.cases.0 ∙ sym is ∙ ap given_of c.in-Some.ensures

pub returns-in-Err : goal.returns-in-Err
returns-in-Err c =
    let bytes = c.in-Some.bytes.now in
    let is = ap (λ b. if b then set_to bytes else not_utf8 bytes) (no_utf8 bytes c.in-Err.ensures.cases.0) in
    sym is ∙ ap given_of c.in-Some.ensures
