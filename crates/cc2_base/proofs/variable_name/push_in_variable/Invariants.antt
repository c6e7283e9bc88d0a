use Rattle.std.proofs.Common.{◌≡◌, ◌++◌, map, string_bytes}
use Rattle.std.specs.Str.Iter.{chars_rest}
use Rattle.cc2_base.specs.VariableNames.{in_variable}
use Rattle.cc2_base.proofs.variable_name.push_in_variable.Given as goal

abbrev pub invariant-loop-c : goal.invariant-loop-c
invariant-loop-c l =
    string_bytes l.name ++ map in_variable (chars_rest l.c-iterator) ≡ string_bytes l.fn.name ++ map in_variable l.fn.key
