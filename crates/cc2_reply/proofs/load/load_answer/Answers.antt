use Rattle.std.proofs.Common.{map, string_bytes, sym, ◌∙◌}
use Rattle.cc2_reply.proofs.Loading.{load_given}
use Rattle.cc2_reply.proofs.load.load_answer.Goals as goal

pub returns-in-Ok : goal.returns-in-Ok
returns-in-Ok g c fs told =
    let under = c.in-Ok.ensures fs told in
    load_given fs c.args.machine.now c.args.dir.now (map string_bytes c.args.words.now) c.in-Ok.config
    (sym c.are_pairs.ensures ∙ c.if-not-are_pairs.false) under.0 under.1 c.loaded-loaded.result c.loaded_or_memory.result
    c.loaded-loaded.ensures.cells c.loaded-loaded.ensures.state c.loaded_or_memory.ensures
