use Rattle.toml.specs.View.{view}
use Rattle.cc2_value.proofs.Decoded.{member_fault}
use Rattle.cc2_value.proofs.decode.read_field.Goals as goal

pub returns-in-Err-clause-refused : goal.returns-in-Err-clause-refused
returns-in-Err-clause-refused g c =
    member_fault c.args.key.now g.T.Decode.way _ (view c.in-Some.value) c.in-Err.error c.in-Some.ensures.found
    c.in-Err.ensures.refused
