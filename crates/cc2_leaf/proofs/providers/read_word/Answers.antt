use Rattle.std.proofs.Common.{◌≡◌, [], ◌∷◌, Some, arith}
use Rattle.std.proofs.lemmas.Grind.{common_steps}
use Rattle.cc2_value.specs.Values.{origin_of, words_of}
use Rattle.cc2_leaf.specs.Lists.{words_at}
use Rattle.cc2_leaf.specs.Providers.{provider_made}
use Rattle.cc2_leaf.proofs.Named.{provider_agrees}
use Rattle.cc2_leaf.proofs.TextFaults.{made_unread}
use Rattle.cc2_leaf.proofs.providers.read_word.Goals as goal

pub returns-in-Err-clause-refused : goal.returns-in-Err-clause-refused
returns-in-Err-clause-refused c =
    let origin = Some (origin_of c.args.definition.now) in
    let words = words_of c.push.new.self.items in
    let is : words_of c.push.new.self.items ≡ words_at (Some (origin_of c.args.definition.now))
    (c.args.word.now ∷ []) = grind (arith, common_steps) in
    made_unread provider_made provider_agrees origin (c.args.word.now ∷ []) words c.in-Err.error is
    c.in-Err.ensures.refused
