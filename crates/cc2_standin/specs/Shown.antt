-- What is said in the code, as an answer of the table.
use Rattle.std.specs.Prelude.{ℕ, List, Option, Some, None, Bool, false}
use Rattle.std.specs.Borrow.{Bor}
use Rattle.cc2_standin.specs.Table.{Answer}
use Rattle.cc2_standin.specs.declared.written.Said.{Said}

abbrev pub said_view : Said → Answer
said_view said = record { stdout = said.stdout.now; stderr = said.stderr.now; status = said.status }

-- there is a target, and it passes the test
abbrev pub target_passes : (List ℕ → Bool) → Option (Bor (List ℕ)) → Bool
target_passes test None = false
target_passes test (Some target) = test target.now
