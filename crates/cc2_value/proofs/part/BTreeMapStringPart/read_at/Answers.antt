use Rattle.toml.specs.View.{view}
use Rattle.cc2_value.specs.Maps.{map_way}
use Rattle.cc2_value.proofs.Decoded.{member_fault}
use Rattle.cc2_value.proofs.part.BTreeMapStringPart.read_at.Goals as goal

pub returns-in-Err-clause-refused : goal.returns-in-Err-clause-refused
returns-in-Err-clause-refused g c =
    member_fault c.args.key.now (map_way g.V.Decode.way) _ (view c.in-Some.value) c.in-Err.error c.in-Some.ensures.found
    c.in-Err.ensures.refused
