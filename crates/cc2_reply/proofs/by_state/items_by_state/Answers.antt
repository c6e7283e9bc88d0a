use Rattle.std.proofs.Common.{map, string_bytes, subst, sym}
use Rattle.cc2_error.specs.Causes.{refusal_of}
use Rattle.cc2_answers.specs.Items.{items_of}
use Rattle.cc2_cli.specs.Answers.{answer_text}
use Rattle.cc2_env.specs.declared.context.ResolveContext.{ResolveContext}
use Rattle.cc2_reply.specs.States.{IsConfigBy, IsContextIn}
use Rattle.cc2_reply.proofs.ByState.{items_by, no_context, state_ready}
use Rattle.cc2_reply.proofs.Contexts.{context_alone}
use Rattle.cc2_reply.proofs.by_state.items_by_state.Goals as goal

pub returns-in-Ok : goal.returns-in-Ok
returns-in-Ok g c fs answers files programs s is =
    let machine = c.args.machine.now in
    let dir = c.args.dir.now in
    let config = c.config_of-config.result in
    let answer = c.items_answer-answer.result in
    let by : IsConfigBy machine dir s config = record {
      state = c.config_of-config.ensures.state s is;
      context =
          subst (λ (context : ResolveContext). IsContextIn machine dir context) (sym c.config_of-config.ensures.context)
          (context_alone machine dir c.in-Ok.context c.in-Ok.ensures.ok c.in-Ok.ensures.context);
      nothing_kept = c.config_of-config.ensures.nothing_kept;
      no_targets = c.config_of-config.ensures.no_targets;
    } in
    items_by fs answers machine dir s config (items_of (map string_bytes c.args.words.now)) (answer_text answer) answer.status by
    (c.items_answer-answer.ensures fs answers files programs (state_ready fs answers machine dir s config by))

pub returns-in-Err : goal.returns-in-Err
returns-in-Err g c fs answers files programs s is =
    no_context fs answers c.args.machine.now c.args.dir.now s (items_of (map string_bytes c.args.words.now)) (refusal_of c.in-Err.error)
    c.refusal_answer.result c.in-Err.ensures.refused c.refusal_answer.ensures
