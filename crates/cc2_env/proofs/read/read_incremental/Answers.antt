use Rattle.std.proofs.Common.{List, [], ◌∷◌, codes, Some, sym, ap}
use Rattle.cc2_value.specs.Cells.{variable}
use Rattle.cc2_value.specs.Singles.{truth_value}
use Rattle.cc2_leaf.specs.TextWays.{truth_text_way}
use Rattle.cc2_env.specs.Options.{variables_of}
use Rattle.cc2_env.specs.Ranked.{Named, set_or, first_set}
use Rattle.cc2_env.specs.Ranks.{variable_by, one_text_way}
use Rattle.cc2_env.proofs.Reading.{on_ok, if_err, by_set, by_exit, by_past, cause_past, one_shown}
use Rattle.cc2_env.proofs.read.read_incremental.Goals as goal

abbrev one : Named
one = variable_by (codes "CARGO_INCREMENTAL") one_text_way

abbrev later : List Named
later = variable_by (codes "CARGO_BUILD_INCREMENTAL") truth_text_way ∷ []

pub returns-in_err-text-in-Some-clause-refused : goal.returns-in_err-text-in-Some-clause-refused
returns-in_err-text-in-Some-clause-refused c =
    let vars = variables_of c.args.context.now in
    by_exit truth_value vars _ (one ∷ later) (one, c.in-Some.value.now) c.args.incremental.now
    _ c.from_residual.ensures.1
    (sym (ap (λ o. set_or one o (first_set vars later)) c.in-Some.ensures)) c.in_err-text-in-Some.ensures.refused

pub returns-in-None-clause-ok : goal.returns-in-None-clause-ok
returns-in-None-clause-ok c =
    let vars = variables_of c.args.context.now in
    on_ok c.read_one.result (by_past truth_value vars one later c.args.incremental.now c.read_one.new.setting
    (sym c.in-None.ensures)) c.read_one.ensures.ok

pub returns-in-None-clause-refused : goal.returns-in-None-clause-refused
returns-in-None-clause-refused c =
    let vars = variables_of c.args.context.now in
    if_err c.read_one.result (λ e. cause_past truth_value vars one later c.args.incremental.now e
    (sym c.in-None.ensures)) c.read_one.ensures.refused

pub returns-in_ok-text-in-Some-clause-ok : goal.returns-in_ok-text-in-Some-clause-ok
returns-in_ok-text-in-Some-clause-ok c =
    let vars = variables_of c.args.context.now in
    rw c.put_in.ensures
    (by_set truth_value vars (one ∷ later) (one, c.in-Some.value.now) c.args.incremental.now (Some c.is_one.result)
    (sym (ap (λ o. set_or one o (first_set vars later)) c.in-Some.ensures))
    c.in_ok-text-in-Some.ensures.ok.0
    (one_shown c.in_ok-text-in-Some.text c.is_one.result (Some (variable (codes "CARGO_INCREMENTAL")))
    c.in-Some.value.now c.in_ok-text-in-Some.ensures.ok.1 c.is_one.ensures.0 c.is_one.ensures.1))
