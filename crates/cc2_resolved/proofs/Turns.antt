-- Answers in turn, some of them made.
use Rattle.std.proofs.Common.{List, ◌++◌, Result, Ok, Err}
use Rattle.cc2_error.specs.Causes.{Refusal}

-- these, and after them the others
abbrev pub behind : {A : Type 0} → List A → Result (List A) Refusal → Result (List A) Refusal
behind done (Err refusal) = Err refusal
behind done (Ok others) = Ok (done ++ others)
