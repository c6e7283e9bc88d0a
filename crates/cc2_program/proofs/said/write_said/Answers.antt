use Rattle.std.proofs.Common.{inr, refl, subst, sym, ◌∙◌}
use Rattle.std.specs.Io.KnownBytes.{Appends}
use Rattle.cc2_program.specs.Streams.{out_of_memory}
use Rattle.cc2_program.proofs.Terminal.{memory_is_plain, nothing_appended}
use Rattle.cc2_program.proofs.said.write_said.Goals as goal

pub returns-in_ok-write-in-Err : goal.returns-in_ok-write-in-Err
returns-in_ok-write-in-Err g c = (
  out_of_memory,
  refl,
  nothing_appended (g.W.Write.contents c.args.out.now),
  subst (Appends (g.E.Write.contents c.args.err.now) _) (c.as_bytes.ensures.value ∙ sym memory_is_plain) c.in_ok-write-in-Err.ensures,
  inr refl,
)
