use Rattle.std.proofs.Common.{option_map}
use Rattle.std.specs.Prelude.{map}
use Rattle.std.proofs.lemmas.Result.{err_from_is_err_and}
use Rattle.cc2_cfg.specs.Shown.{tree_of}
use Rattle.cc2_rustc.specs.Asking.{entries_by_text, shown_asking}
use Rattle.cc2_rustc.proofs.Gathering.{gathered-more, gathered-end, gathered-err}
use Rattle.cc2_rustc.proofs.asking.asking_keys.Goals as goal

pub returns-in_err-found : goal.returns-in_err-found
returns-in_err-found g c =
    let p = err_from_is_err_and c.from_residual.result c.from_residual.ensures.1 in
    let before = rw c.in-Some.ensures.steps at c.loop-key.invariant in
    let bad = rw c.as_str.ensures.value at c.in_err-found.ensures in
    rw (p.1, p.2) (gathered-err _ _ _ _ _ bad before)

pub loop-key-preserved : goal.loop-key-preserved
loop-key-preserved g c =
    let before = rw c.in-Some.ensures.steps at c.loop-key.invariant in
    let found = rw c.as_str.ensures.value at c.in_ok-found.ensures in
    let tree = option_map tree_of c.in_ok-found.found in
    rw c.in_ok-keep.ensures (gathered-more _ _ _ _ tree found.0 found.1 before)

pub returns : goal.returns
returns g c =
    let whole = rw c.in-None.ensures.steps.0 at c.loop-key.invariant in
    gathered-end (entries_by_text c.args.table.now) (map shown_asking c.loop-key.asking.items) whole
