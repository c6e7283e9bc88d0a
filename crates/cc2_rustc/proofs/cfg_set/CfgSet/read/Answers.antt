use Rattle.std.proofs.Common.{◌∙◌, ap, sym}
use Rattle.std.specs.Prelude.{filter, filter_map, map}
use Rattle.std.specs.Str.{trim}
use Rattle.std.proofs.lemmas.Iterator.Splits.{YieldsList-from_lines}
use Rattle.std.proofs.lemmas.Iterator.Consumers.{YieldsList-end}
use Rattle.cc2_rustc.specs.Printed.{atom_in, has_bytes}
use Rattle.cc2_rustc.proofs.Listed.{said-kept}
use Rattle.cc2_rustc.proofs.cfg_set.CfgSet.read.Goals as goal

pub loop-line-preserved : goal.loop-line-preserved
loop-line-preserved c =
    said-kept _ _ _ c.loop-line.yielded c.in-Some.line c.trim-line.result.now c.loop-line.invariant
    c.in_ok-keep.ensures c.in_ok-found.ensures c.trim-line.ensures.trim (sym c.if-is_empty.ensures)

pub returns : goal.returns
returns c =
    let lists = YieldsList-from_lines c.args.text.now cc in
    let all = YieldsList-end lists c.loop-line.yielded _ c.loop-line.yielded_by _ _ c.in-None.is c.next.ensures.steps in
    c.loop-line.invariant ∙ ap (λ z. filter_map atom_in (filter has_bytes (map trim z))) all.0
