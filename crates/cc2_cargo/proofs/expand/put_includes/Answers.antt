use Rattle.std.proofs.Common.{refl, inl, inr}
use Rattle.cc2_cargo.proofs.expand.put_includes.Goals as goal

pub returns-in_ok-path-in-Err-clause-refused : goal.returns-in_ok-path-in-Err-clause-refused
returns-in_ok-path-in-Err-clause-refused c =
    elim c.in-Err.ensures.refused [
      | inl memory ↦ absurd (c.if-is_memory.ensures refl memory)
      | inr is ↦ inr (c.in-Err.cause, c.in_ok-path-in-Err.path, refl, c.in_ok-path-in-Err.ensures.ok, is)
    ]
