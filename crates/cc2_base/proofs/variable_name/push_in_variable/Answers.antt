use Rattle.std.proofs.Common.{string_bytes}
use Rattle.std.specs.Str.Iter.{chars_rest}
use Rattle.cc2_base.proofs.VariableNames.{in_variable_step}
use Rattle.cc2_base.proofs.variable_name.push_in_variable.Goals as goal

pub loop-c-preserved : goal.loop-c-preserved
loop-c-preserved c =
    in_variable_step (string_bytes c.args.name.now) (string_bytes c.loop-c.name) (string_bytes c.push.new.self)
    (chars_rest c.loop-c.c-iterator) c.args.key.now (chars_rest c.next.new.self) c.in-Some.c c.upper.result
    c.in-Some.ensures.steps.0 c.upper.ensures c.in_ok-push.ensures.bytes c.loop-c.invariant
