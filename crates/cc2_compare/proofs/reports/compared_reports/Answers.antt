use Rattle.std.proofs.Common.{◌≡◌, ◌+◌, [], ◌∷◌, map, drop, string_bytes, sym, ◌∙◌, arith}
use Rattle.std.proofs.lemmas.Grind.{common_steps}
use Rattle.cc2_reports.proofs.InTurn.{each_end, each_next}
use Rattle.cc2_reports.proofs.Outcomes.{if_ok}
use Rattle.cc2_value.specs.Rows.{texts_of}
use Rattle.cc2_compare.specs.Reports.{AreOfPath}
use Rattle.cc2_compare.proofs.Reported.{compared_each, compared_none}
use Rattle.cc2_compare.proofs.reports.compared_reports.Goals as goal

pub returns-then-is_empty : goal.returns-then-is_empty
returns-then-is_empty g c fs files real_paths reals =
    let runs = g.S.Launcher.told_with c.args.launcher.now in
    let targets = texts_of c.args.targets.now in
    if_ok c.dir_reports.result _ _
    (λ reports h. compared_none fs real_paths runs c.args.machine.now targets c.args.dir.now c.args.paths.now reports.items (sym c.is_empty.ensures ∙ c.if-is_empty.true) h)
    (c.dir_reports.ensures fs files real_paths reals)

pub loop-path-preserved : goal.loop-path-preserved
loop-path-preserved g c fs files real_paths reals =
    let at = c.loop-path.path-index in
    let paths = c.args.paths.now in
    let behind = map string_bytes (drop (at + 1) paths) in
    let next : map string_bytes (drop at paths) ≡ c.as_str.result.now ∷ behind = grind (arith, common_steps) in
    each_next (AreOfPath fs real_paths (g.S.Launcher.told_with c.args.launcher.now) c.args.machine.now (texts_of c.args.targets.now)) (map string_bytes paths) (map string_bytes (drop at paths)) behind
    c.as_str.result.now c.loop-path.all.items c.in_ok-found.found.items c.append.new.self.items
    (c.in_ok-found.ensures fs files real_paths reals) next c.in_ok-append.ensures.items
    (c.loop-path.invariant fs files real_paths reals)

pub returns : goal.returns
returns g c fs files real_paths reals =
    let runs = g.S.Launcher.told_with c.args.launcher.now in
    let targets = texts_of c.args.targets.now in
    let left : map string_bytes (drop c.loop-path.path-index c.args.paths.now) ≡ [] = grind (arith, common_steps) in
    compared_each fs real_paths runs c.args.machine.now targets c.args.dir.now c.args.paths.now c.loop-path.all.items (sym c.is_empty.ensures ∙ c.if-is_empty.false)
    (each_end (AreOfPath fs real_paths runs c.args.machine.now targets) (map string_bytes c.args.paths.now)
    (map string_bytes (drop c.loop-path.path-index c.args.paths.now)) c.loop-path.all.items left
    (c.loop-path.invariant fs files real_paths reals))
