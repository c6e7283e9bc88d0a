use Rattle.std.proofs.Common.{◌≡◌}
use Rattle.std.proofs.lemmas.Result.{IfOk-weaker}
use Rattle.std.specs.Bool.{Decides}
use Rattle.cc2_cfg.specs.Shown.{tree_of}
use Rattle.cc2_rustc.specs.Keys.{IsTrueKey, value_by}
use Rattle.cc2_rustc.specs.Printed.{atoms_of}
use Rattle.cc2_rustc.proofs.Judging.{decided-by, decided-none}
use Rattle.cc2_lint_settings.proofs.Holding.{refused_holds}
use Rattle.cc2_lint_settings.proofs.held.holds.Goals as goal

pub returns-in-Ok-Some : goal.returns-in-Ok-Some
returns-in-Ok-Some c =
    let atoms = atoms_of c.args.set.now in
    let key = c.args.key.now in
    let tree = tree_of c.in-Ok-Some.expression in
    let read = rw c.in-Ok-Some.field-0-is at c.in-Ok-Some.ensures in
    IfOk-weaker c.value.result (λ value. value ≡ value_by atoms tree) (λ is. Decides is (IsTrueKey atoms key))
    (λ value is. decided-by atoms key tree value is read.0) c.value.ensures

pub returns-in-Ok-None : goal.returns-in-Ok-None
returns-in-Ok-None c =
    let read = rw c.in-Ok-None.field-0-is at c.in-Ok-None.ensures in
    decided-none (atoms_of c.args.set.now) c.args.key.now read.0

pub returns-in_ok-no_memory_wanted-in-Err : goal.returns-in_ok-no_memory_wanted-in-Err
returns-in_ok-no_memory_wanted-in-Err c =
    refused_holds (atoms_of c.args.set.now) c.args.key.now c.in-Err.error c.in-Err.ensures c.in_ok-no_memory_wanted-in-Err.ensures.ok
