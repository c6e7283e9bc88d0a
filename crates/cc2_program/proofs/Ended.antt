-- How a run ends.
use Rattle.std.proofs.Common.{◌≡◌, ◌⊎◌, inl, inr, IfOk, ℕ, List, Option, Result, Ok, Err, Vec, Global, subst, sym}
use Rattle.cc2_error.specs.Causes.{memory, plain, Refusal}
use Rattle.cc2_error.specs.declared.error.NoMemory.{NoMemory}
use Rattle.cc2_cli.specs.Answers.{IsAnswerOf, Refuses}
use Rattle.cc2_cli.specs.declared.answer.Answer.{Answer}
use Rattle.cc2_cli.specs.declared.printed.WriteFault.{WriteFault}
use Rattle.cc2_program.specs.Streams.{Ends, IsFoundOrError, out_of_memory}
use Rattle.cc2_show_answers.specs.ToldRuns.{Written}

-- an answer with the status 0, if there was memory for it
pub found_or_error : (text : Result (Vec ℕ Global) NoMemory) (answer : Answer) → IsAnswerOf text 0 answer → IsFoundOrError answer
found_or_error (Ok text) answer is = inl is.1
found_or_error (Err fault) answer is = inr (plain memory, is.0, is.1)

-- the lines of an error
pub refused_or_error : (refusal : Refusal) (answer : Answer) → Refuses refusal answer → IsFoundOrError answer
refused_or_error refusal answer is = inr (is.0, is.2, is.3)

-- what was written is so, since this is, or that memory ran out
either : (Gives : Written → Type 0) (said w : Written) → Gives said → Gives out_of_memory → (w ≡ said) ⊎ (w ≡ out_of_memory) → Gives w
either Gives said w is lacks (inl same) = subst Gives (sym same) is
either Gives said w is lacks (inr same) = subst Gives (sym same) lacks

pub ended : (r : Result ℕ WriteFault) (out new_out err new_err : Option (List ℕ)) (Gives : Written → Type 0) (said : Written) → Gives said
    → Gives out_of_memory
    → IfOk r (λ status. Ends out new_out err new_err status (λ w. (w ≡ said) ⊎ (w ≡ out_of_memory)))
    → IfOk r (λ status. Ends out new_out err new_err status Gives)
ended (Ok status) out new_out err new_err Gives said is lacks e = (e.0, e.1, e.2, e.3, either Gives said e.0 is lacks e.4)
ended (Err fault) out new_out err new_err Gives said is lacks e = tt
