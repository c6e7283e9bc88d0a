use Rattle.std.proofs.Common.{Some, Result, String, Global, ap, subst}
use Rattle.cc2_error.specs.declared.error.Error.{Error}
use Rattle.cc2_error.specs.Outcomes.{IsWantOfMemory}
use Rattle.cc2_base.specs.Walked.{left, files_of, GivesNext}
use Rattle.cc2_base.proofs.Telling.{tells}
use Rattle.cc2_error.proofs.Refused.{err_exit}
use Rattle.cc2_base.proofs.walk.walked_paths.Goals as goal

pub returns-in_err-path-clause-refused : goal.returns-in_err-path-clause-refused
returns-in_err-path-clause-refused g c fs told =
    let asked : g.F.Files.told (files_of c.loop-path.path-iterator) fs =
    (c.loop-path.invariant.told fs).0
    (tells (ap (λ walk. g.F.Files.told (files_of walk)) c.into_iter-path-iterator.ensures.into_iter_gives) fs told) in
    let given : GivesNext (left c.loop-path.path-iterator fs) (Some c.in-Some.path)
    (left c.next.new.self fs) = c.in-Some.ensures.steps.1 fs asked in
    let memory = subst (λ (r : Result (String Global) Error). GivesNext
    (left c.loop-path.path-iterator fs) (Some r) (left c.next.new.self fs)) c.in_err-path.was given in
    err_exit c.from_residual.result IsWantOfMemory _ c.from_residual.ensures.1 memory.0
