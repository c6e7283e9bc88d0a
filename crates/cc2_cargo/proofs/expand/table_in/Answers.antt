use Rattle.std.proofs.Common.{◌≡◌, None, refl, inr, rules}
use Rattle.toml.specs.Parse.{parse_document}
use Rattle.cc2_cargo.proofs.expand.table_in.Goals as goal

pub returns-in_ok-message-in-Err-clause-refused : goal.returns-in_ok-message-in-Err-clause-refused
returns-in_ok-message-in-Err-clause-refused c =
    let none : parse_document c.args.text.now ≡ None = search rules in
    inr (none, (c.in_ok-path-in-Err.path, c.in_ok-message-in-Err.field-0, refl, c.in_ok-path-in-Err.ensures.ok))
