use Rattle.std.proofs.Common.{◌≤◌, length, rules, arith}
use Rattle.cc2_value.proofs.GatheredMaps.{map_reversed, reversed_pairs}
use Rattle.cc2_value.proofs.map.reverse_map.Goals as goal

pub returns : goal.returns
returns g c =
    let all : length c.args.map.now.entries ≤ length c.retain.new.self.entries = omega arith in
    map_reversed g.V.MergeFrom.cell_at c.args.map.now c.retain.new.self
    (reversed_pairs g.V.MergeFrom.cell_at _ (λ f k v b w h t is. search rules) c.args.map.now.entries c.retain.new.self.entries _ c.retain.ensures.filtered all)
