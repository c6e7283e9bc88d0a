use Rattle.std.proofs.Common.{◌≡◌, ◌+◌, [], drop, arith}
use Rattle.std.proofs.lemmas.Grind.{common_steps}
use Rattle.cc2_lint.specs.Files.{checked_in}
use Rattle.cc2_lint.proofs.InTurn.{files_end, files_next}
use Rattle.cc2_lint.proofs.paths.linted_reports.Goals as goal

pub loop-number-preserved : goal.loop-number-preserved
loop-number-preserved g c fs is_open files permissions =
    let check = c.args.check.now in
    let linted = check.linted.now in
    let n = c.loop-number.number in
    files_next (checked_in fs is_open check) linted n (drop n linted) (drop (n + 1) linted) c.file-item.result c.loop-number.all.items
    c.in_ok-found.found.items c.append.new.self.items (c.in_ok-found.ensures fs is_open files permissions)
    (grind (arith, common_steps)) c.in_ok-append.ensures.items (c.loop-number.invariant fs is_open files permissions)

pub returns : goal.returns
returns g c fs is_open files permissions =
    let check = c.args.check.now in
    let linted = check.linted.now in
    let left : drop c.loop-number.number linted ≡ [] = grind (arith, common_steps) in
    files_end (checked_in fs is_open check) linted c.loop-number.number (drop c.loop-number.number linted) c.loop-number.all.items left
    (c.loop-number.invariant fs is_open files permissions)
