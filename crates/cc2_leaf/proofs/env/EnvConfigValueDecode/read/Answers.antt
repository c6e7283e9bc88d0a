use Rattle.std.proofs.Common.{◌≡◌, [], ◌∷◌, None, option_copied, sym, ap, ◌∙◌}
use Rattle.toml.specs.Data.{as_str, as_table}
use Rattle.toml.specs.View.{view}
use Rattle.cc2_value.specs.Copies.{origin_given}
use Rattle.cc2_leaf.proofs.Envs.{table_refused, value_found, value_missed}
use Rattle.cc2_leaf.proofs.env.EnvConfigValueDecode.read.Goals as goal

pub returns-in-Err-clause-refused : goal.returns-in-Err-clause-refused
returns-in-Err-clause-refused c =
    let d = view c.args.value in
    let none : as_str (view c.args.value) ≡ None = sym c.as_str.ensures ∙ ap option_copied c.in_default.is in
    table_refused (c.args.key.now ∷ []) (as_str d) (as_table d) c.in-Err.error none c.in-Err.ensures.refused

pub returns-in-None-clause-refused : goal.returns-in-None-clause-refused
returns-in-None-clause-refused c =
    let d = view c.args.value in
    let none : as_str (view c.args.value) ≡ None = sym c.as_str.ensures ∙ ap option_copied c.in_default.is in
    value_missed (c.args.key.now ∷ []) (origin_given c.args.definition) (as_str d) (as_table d)
    c.in-Ok.table c.no_value.result none c.in-None.is c.in-Ok.ensures.ok c.no_value.ensures

pub returns-in-Some-value-clause-ok : goal.returns-in-Some-value-clause-ok
returns-in-Some-value-clause-ok c =
    let d = view c.args.value in
    let none : as_str (view c.args.value) ≡ None = sym c.as_str.ensures ∙ ap option_copied c.in_default.is in
    value_found (origin_given c.args.definition) (as_str d) (as_table d) c.in-Ok.table
    c.in-Some-value.value none c.in-Some-value.is c.in-Ok.ensures.ok
