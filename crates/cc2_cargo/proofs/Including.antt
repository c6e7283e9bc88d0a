-- The items of `include`, one by one.
use Rattle.std.proofs.Common.{List, ◌++◌, Result, Ok, Err}
use Rattle.cc2_cargo.specs.declared.include.IncludeFault.{IncludeFault}
use Rattle.cc2_cargo.specs.Includes.{Include}

-- items, and others after them
abbrev pub after : List Include → Result (List Include) IncludeFault → Result (List Include) IncludeFault
after done (Err fault) = Err fault
after done (Ok left) = Ok (done ++ left)
