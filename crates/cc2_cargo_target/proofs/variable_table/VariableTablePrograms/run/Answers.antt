use Rattle.std.proofs.Common.{◌≡◌, ◌<◌, Some, get_or, length, map, refl, sym, ap, ◌∙◌, subst}
use Rattle.std.proofs.lemmas.List.{get_or_default}
use Rattle.cc2_base.specs.ToldPrograms.{answers_of}
use Rattle.cc2_cargo_settings.specs.EnvVariables.{variable_view, variables_view}
use Rattle.cc2_cargo_target.specs.VariableTables.{answers_in, or_others}
use Rattle.cc2_cargo_target.specs.declared.variable_table.Entry.{Entry}
use Rattle.cc2_cargo_target.proofs.Listing.{answers_kept}
use Rattle.cc2_cargo_target.proofs.variable_table.VariableTablePrograms.run.Goals as goal

pub returns-in-Some-clause-answer : goal.returns-in-Some-clause-answer
returns-in-Some-clause-answer c m is =
    let r = c.index_mut.result.now in
    let listed = c.in-Some.ensures.1 r in
    let here = ap (λ es. answers_in es (variables_view c.args.self.now.variables)) (sym c.as_slice.ensures.value)
    ∙ ap (λ ps. answers_in c.as_slice.result.now (map variable_view ps)) (sym c.as_slice-2.ensures.value) ∙ listed
    ∙ ap (λ es. Some (answers_of (get_or es c.in-Some.place r).programs)) c.as_slice.ensures.value
    ∙ ap (λ (x : Entry). Some (answers_of x.programs)) (sym c.index_mut.ensures.value) in
    c.run.ensures.answer m (is ∙ ap (or_others (answers_of c.args.self.now.otherwise)) here)

pub returns-in-Some-clause-same : goal.returns-in-Some-clause-same
returns-in-Some-clause-same c m =
    let es = c.args.self.now.entries.items in
    let i = c.in-Some.place in
    let r = c.index_mut.result.now in
    let e : Entry = record { variables = r.variables; programs = c.run.new.self } in
    let vs = variables_view c.args.self.now.variables in
    let inside : i < length es = subst (λ xs. i < length xs) c.as_slice.ensures.value c.in-Some.ensures.0 in
    let before : r ≡ get_or es i e = c.index_mut.ensures.value ∙ get_or_default es i r e inside in
    let ran : answers_of c.run.new.self ≡ answers_of (get_or es i e).programs =
    sym ((c.run.ensures.same (answers_of r.programs)).0 refl) ∙ ap (λ x. answers_of x.programs) before in
    let kept = ap (or_others (answers_of c.args.self.now.otherwise)) (answers_kept es i e vs (ap (λ x. variables_view x.variables) before) ran) in
    (λ is. is ∙ sym kept, λ is. is ∙ kept)

pub returns-in-None-clause-same : goal.returns-in-None-clause-same
returns-in-None-clause-same c m =
    let ran = (c.run-in-None.ensures.same (answers_of c.args.self.now.otherwise)).0 refl in
    let kept = ap (λ others. or_others others (answers_in c.args.self.now.entries.items (variables_view c.args.self.now.variables))) ran in
    (λ is. is ∙ kept, λ is. is ∙ sym kept)
