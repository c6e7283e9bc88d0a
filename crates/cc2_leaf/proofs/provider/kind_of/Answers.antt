use Rattle.std.proofs.Common.{◌<◌, length, arith}
use Rattle.std.proofs.lemmas.Grind.{common_steps}
use Rattle.cc2_value.specs.Ways.{extra_words}
use Rattle.cc2_value.specs.Values.{word_of}
use Rattle.cc2_leaf.specs.Lists.{is_array}
use Rattle.cc2_leaf.specs.Providers.{is_builtin, provider_of}
use Rattle.cc2_leaf.proofs.Named.{too_many}
use Rattle.cc2_leaf.proofs.provider.kind_of.Goals as goal

pub returns-clause-refused : goal.returns-clause-refused
returns-clause-refused c =
    let some : 0 < length c.args.args.items = grind (arith, common_steps) in
    let name = c.in-Some.name.now in
    let is = rw c.as_str.ensures.value at c.in-Some.ensures in (
      extra_words name,
      too_many (is_builtin (word_of c.args.name).text) (is_array c.args.repr)
          (word_of c.args.name) c.args.args.items (provider_of c.in-Some.kind) name is some,
      λ path. c.new.ensures,
    )
