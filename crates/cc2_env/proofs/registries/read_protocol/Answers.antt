use Rattle.std.proofs.Common.{Some, refl}
use Rattle.cc2_value.specs.Spelled.{protocol_value}
use Rattle.cc2_env.specs.Options.{variables_of}
use Rattle.cc2_env.specs.Ranks.{protocol_variable, protocol_variables}
use Rattle.cc2_env.proofs.Reading.{by_set, by_exit, text_refused, bare_refused, no_refusal, is_text, protocol_first}
use Rattle.cc2_env.proofs.registries.read_protocol.Goals as goal

pub returns-in_err-text-in-Some-clause-refused : goal.returns-in_err-text-in-Some-clause-refused
returns-in_err-text-in-Some-clause-refused c =
    let vars = variables_of c.args.context.now in
    let set = protocol_first vars c.args.registry.now c.in-Some.value.now c.if-ne.ensures c.in-Some.ensures in
    by_exit protocol_value vars _ (protocol_variables c.args.registry.now) (protocol_variable, c.in-Some.value.now)
    c.args.protocol.now _ c.from_residual.ensures.1
    set (text_refused protocol_variable c.in-Some.value.now _ c.in_err-text-in-Some.ensures)

pub returns-in_err-read-in-Some-clause-refused : goal.returns-in_err-read-in-Some-clause-refused
returns-in_err-read-in-Some-clause-refused c =
    let vars = variables_of c.args.context.now in
    let set = protocol_first vars c.args.registry.now c.in-Some.value.now c.if-ne.ensures c.in-Some.ensures in
    by_exit protocol_value vars _ (protocol_variables c.args.registry.now) (protocol_variable, c.in-Some.value.now)
    c.args.protocol.now _ c.from_residual-in_err-read-in-Some.ensures.1
    set (bare_refused protocol_variable c.in-Some.value.now c.in_ok-text-in-Some.text.now _ refl
    c.in_ok-text-in-Some.ensures c.in_err-read-in-Some.ensures.refused)

pub returns-in_ok-read-in-Some-clause-ok : goal.returns-in_ok-read-in-Some-clause-ok
returns-in_ok-read-in-Some-clause-ok c =
    let vars = variables_of c.args.context.now in
    let set = protocol_first vars c.args.registry.now c.in-Some.value.now c.if-ne.ensures c.in-Some.ensures in
    let is = is_text protocol_variable.name c.in-Some.value.now c.in_ok-text-in-Some.text.now
    c.in_ok-text-in-Some.ensures in
    rw c.put_in.ensures
    (by_set protocol_value vars (protocol_variables c.args.registry.now) (protocol_variable, c.in-Some.value.now)
    c.args.protocol.now (Some c.in_ok-read-in-Some.read)
    set (no_refusal protocol_variable c.in-Some.value.now c.in_ok-text-in-Some.text.now c.in_ok-text-in-Some.ensures
    c.in_ok-read-in-Some.ensures.ok.0)
    (λ p. rw is.1 (c.in_ok-read-in-Some.ensures.ok.1 p)))
