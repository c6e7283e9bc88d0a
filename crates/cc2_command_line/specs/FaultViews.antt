-- A fault of the code, as one of the definitions.
use Rattle.std.specs.Prelude.{◌≡◌, ◌⊎◌, map, Result, Err}
use Rattle.cc2_command_line.specs.Faults.{Fault, unknown_option, no_value, unknown_command, no_command, unfit_flag, unfit_setting, twice, bad_value, conflict, unexpected, no_memory}
use Rattle.cc2_command_line.specs.declared.fault.Fault.{Fault as CodeFault}
use Rattle.cc2_command_line.specs.declared.fault.Fault.TheVariants as code

abbrev pub fault_view : CodeFault → Fault
fault_view (code.UnknownOption word) = unknown_option word.now
fault_view (code.NoValue s) = no_value s
fault_view (code.UnknownCommand word) = unknown_command word.now
fault_view code.NoCommand = no_command
fault_view (code.UnfitFlag f) = unfit_flag f
fault_view (code.UnfitSetting s) = unfit_setting s
fault_view (code.Twice s) = twice s
fault_view (code.BadValue s value names) = bad_value s value.now (map (λ name. name.now) names.now)
fault_view (code.Conflict one other) = conflict one.now other.now
fault_view (code.Unexpected word) = unexpected word.now
fault_view code.Memory = no_memory

-- the fault is the one of the definitions, or memory ran out
abbrev pub IsFaultOf : {A : Type 0} → CodeFault → Result A Fault → Type 0
IsFaultOf fault said = (fault ≡ code.Memory) ⊎ (said ≡ Err (fault_view fault))
