use Rattle.std.proofs.Common.{◌∙◌}
use Rattle.cc2_reply.proofs.OfLoads.{queried_state}
use Rattle.cc2_reply.proofs.by_state.config_of.Goals as goal

pub returns-clause-state : goal.returns-clause-state
returns-clause-state c s is =
    queried_state c.of_queried.result _ s c.of_queried.ensures.queried is.tables is.ordered is.flags is.doc_flags is.rustc is.wrapper
    is.workspace_wrapper (c.flags_in.ensures ∙ is.rustflags) (c.flags_in-2.ensures ∙ is.rustdocflags)
