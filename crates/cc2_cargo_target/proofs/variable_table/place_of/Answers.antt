use Rattle.std.proofs.Common.{◌≡◌, true, false, get_or, map, sym, ap, ◌∙◌}
use Rattle.std.proofs.lemmas.List.{get_or_default}
use Rattle.cc2_cargo_settings.specs.EnvVariables.{variable_view, variables_view}
use Rattle.cc2_cargo_target.specs.VariableTables.{same_variables}
use Rattle.cc2_cargo_target.proofs.Listing.{answers_found, passed_over}
use Rattle.cc2_cargo_target.proofs.variable_table.place_of.Goals as goal

pub loop-i-preserved : goal.loop-i-preserved
loop-i-preserved c =
    let es = c.args.entries.now in
    let i = c.loop-i.i in
    let e = c.index-entries-i.result in
    let vs = map variable_view c.args.variables.now in
    let is : same_variables (variables_view (get_or es i e).variables) vs ≡ false =
    ap (λ x. same_variables (variables_view x.variables) vs) (sym c.index-entries-i.is)
    ∙ ap (λ ps. same_variables (map variable_view ps) vs) (sym c.as_slice.ensures.value) ∙ sym c.is_same.ensures ∙ c.if-is_same.false in
    sym (passed_over es i e vs c.loop-i-test.true is) ∙ c.loop-i.invariant

pub returns-then-is_same : goal.returns-then-is_same
returns-then-is_same c =
    let es = c.args.entries.now in
    let i = c.loop-i.i in
    let e = c.index-entries-i.result in
    let vs = map variable_view c.args.variables.now in
    let is : same_variables (variables_view e.variables) vs ≡ true =
    ap (λ ps. same_variables (map variable_view ps) vs) (sym c.as_slice.ensures.value) ∙ sym c.is_same.ensures ∙ c.if-is_same.true in (
      c.loop-i-test.true,
      λ d. sym c.loop-i.invariant
          ∙ answers_found es i d vs c.loop-i-test.true
          (ap (λ x. same_variables (variables_view x.variables) vs) (sym (c.index-entries-i.is ∙ get_or_default es i e d c.loop-i-test.true)) ∙ is),
    )
