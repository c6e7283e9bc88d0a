use Rattle.std.proofs.Common.{◌≡◌, ℕ, List, length, map, arith, ap, subst, ◌∙◌}
use Rattle.std.proofs.lemmas.Grind.{common_steps}
use Rattle.cc2_error.proofs.Refused.{err_exit}
use Rattle.cc2_rustc.specs.Asking.{TrueValues}
use Rattle.cc2_rustc.specs.Printed.{atoms_of}
use Rattle.cc2_resolved.specs.ShownTargets.{target_at}
use Rattle.cc2_value.specs.Rows.{texts_of}
use Rattle.cc2_lint_settings.specs.Asked.{paired}
use Rattle.cc2_lint_settings.specs.Givers.{open_givers}
use Rattle.cc2_lint_settings.specs.Views.{rival_views, table_of}
use Rattle.cc2_lint_settings.specs.declared.rival_setting.Setting.TheVariants.{Linker, Runner}
use Rattle.cc2_lint_settings.proofs.Told.{held_by, none_held, none_open, none_there}
use Rattle.cc2_lint_settings.proofs.rivals_each.rivals_in_each.Goals as goal

pub returns-then-is_empty-2-clause-ok : goal.returns-then-is_empty-2-clause-ok
returns-then-is_empty-2-clause-ok g c fs answers files programs =
    let machine = c.args.machine.now in
    let t = target_at c.args.target.now in
    let tables = map table_of c.args.linted.now in
    let linkers = c.in_ok-linkers.linkers.items in
    let runners = c.in_ok-runners.runners.items in
    let no_linker : length linkers ≡ 0 = grind (arith, common_steps) in
    let no_runner : length runners ≡ 0 = grind (arith, common_steps) in
    none_open fs answers machine c.args.dir.now t tables (rival_views c.in_ok-in_each.field-0)
    (none_there linkers (open_givers Linker t.triple machine tables) no_linker
    (subst (λ (triple : List ℕ). texts_of linkers ≡ open_givers Linker triple machine tables) c.triple.ensures c.in_ok-linkers.ensures))
    (none_there runners (open_givers Runner t.triple machine tables) no_runner
    (subst (λ (triple : List ℕ). texts_of runners ≡ open_givers Runner triple machine tables) c.triple-2.ensures c.in_ok-runners.ensures))
    c.in_ok-in_each.ensures

pub returns-in_err-set-clause-refused : goal.returns-in_err-set-clause-refused
returns-in_err-set-clause-refused g c fs answers files programs =
    err_exit c.from_residual-in_err-set.result _ c.in_err-set.field-0.0 c.from_residual-in_err-set.ensures.1
    (c.in_err-set.ensures.refused fs answers files programs)

pub returns-in_ok-in_each-in-Some-clause-ok : goal.returns-in_ok-in_each-in-Some-clause-ok
returns-in_ok-in_each-in-Some-clause-ok g c fs answers files programs =
    let machine = c.args.machine.now in
    let dir = c.args.dir.now in
    let t = target_at c.args.target.now in
    let tables = map table_of c.args.linted.now in
    let atoms = atoms_of c.in-Some.set in
    let linkers = texts_of c.in_ok-linkers-in-Some.linkers.items in
    let runners = texts_of c.in_ok-runners-in-Some.runners.items in
    held_by fs answers machine dir t tables (rival_views c.in_ok-in_each-in-Some.field-0) atoms linkers runners
    (rw c.in-Some.is at c.in_ok-set.ensures.ok fs answers files programs)
    (subst (λ (keys : List (List ℕ)). TrueValues atoms (paired keys) linkers)
    (c.in_ok-linkers.ensures ∙ ap (λ (triple : List ℕ). open_givers Linker triple machine tables) c.triple.ensures)
    c.in_ok-linkers-in-Some.ensures)
    (subst (λ (keys : List (List ℕ)). TrueValues atoms (paired keys) runners)
    (c.in_ok-runners.ensures ∙ ap (λ (triple : List ℕ). open_givers Runner triple machine tables) c.triple-2.ensures)
    c.in_ok-runners-in-Some.ensures)
    (rw c.as_slice-in-Some.ensures.value at (rw c.as_slice.ensures.value at c.in_ok-in_each-in-Some.ensures))

pub returns-in_ok-in_each-in-None-clause-ok : goal.returns-in_ok-in_each-in-None-clause-ok
returns-in_ok-in_each-in-None-clause-ok g c fs answers files programs =
    none_held fs answers c.args.machine.now c.args.dir.now (target_at c.args.target.now) (map table_of c.args.linted.now)
    (rival_views c.in_ok-in_each-in-None.field-0) (rw c.in-None.is at c.in_ok-set.ensures.ok fs answers files programs) c.in_ok-in_each-in-None.ensures
