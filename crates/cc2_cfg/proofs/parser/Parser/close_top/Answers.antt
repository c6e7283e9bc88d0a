use Rattle.std.proofs.Common.{◌∙◌, ap, sym, refl, ◌<◌, length, arith, set, ℕ, map, List}
use Rattle.std.specs.Vec.{with_item}
use Rattle.cc2_cfg.specs.Machine.{close}
use Rattle.cc2_cfg.specs.Reading.{places, front_rows, frame_place}
use Rattle.cc2_cfg.specs.declared.expression.Node.{Node}
use Rattle.cc2_cfg.specs.declared.parser.Frame.{Frame}
use Rattle.cc2_cfg.specs.declared.parser.Parser.{Parser}
use Rattle.cc2_cfg.specs.declared.parser.Last.TheVariants as last
use Rattle.cc2_cfg.proofs.Building.{last-place, some-frame, close-fits, top-row}
use Rattle.cc2_cfg.proofs.parser.Parser.close_top.Goals as goal

pub returns-clause-some : goal.returns-clause-some
returns-clause-some c = λ frames f trees e st.
    let same = last-place c.pop.new.self.items c.in-Some.frame (places frames)
    (length (front_rows frames)) (ap (λ (z : List Frame). map frame_place z) (sym c.in-Some.ensures.items) ∙ st) in
    let size = c.len-end.ensures ∙ c.args.self.now.nodes.ok.0 in
    let lt : c.in-Some.frame.place < length c.args.self.now.nodes.items = omega (arith, c.if-frame-end.false, size) in
    let x : Node = record { kind = c.index_mut.result.now.kind; end = c.len-end.result } in
    let q : Parser = record {
      nodes = with_item c.args.self.now.nodes c.in-Some.frame.place x;
      stack =
          c.pop.new.self;
      last = last.End;
      unfit = c.args.self.now.unfit;
    } in
    close-fits (close f trees) c.args.self.now.nodes.items frames f trees x q refl
    (sym (c.may_end.ensures frames f trees e same.1) ∙ c.if-not-may_end.false) e
    (top-row c.args.self.now.nodes.items frames f trees c.in-Some.frame.place c.index_mut.result.now e
    same.1 lt c.index_mut.ensures.value)
    size (ap (λ (k : ℕ). set c.args.self.now.nodes.items k x) same.1) same.0 refl

pub returns-clause-none : goal.returns-clause-none
returns-clause-none c =
    λ e. absurd (some-frame c.pop.new.self.items c.in-Some.frame
    (ap (λ (z : List Frame). map frame_place z) (sym c.in-Some.ensures.items) ∙ e))
