use Rattle.std.proofs.Common.{codes}
use Rattle.cc2_value.specs.Singles.{text_value}
use Rattle.cc2_leaf.specs.Commands.{command_value}
use Rattle.cc2_leaf.specs.Lists.{flags_value}
use Rattle.cc2_json.proofs.Trees.{on_ok}
use Rattle.cc2_json.proofs.Nested.{four_put}
use Rattle.cc2_json.proofs.target.put_own.Goals as goal

pub returns : goal.returns
returns c =
    let t = c.args.table.now in
    on_ok c.put_leaf-4.result
    (four_put c.args.form (codes "linker") (codes "runner") (codes "rustflags") (codes "rustdocflags") (text_value t.linker) (command_value t.runner)
    (flags_value t.rustflags) (flags_value t.rustdocflags) c.args.members.now.entries c.put_leaf.new.members.entries c.put_leaf-2.new.members.entries
    c.put_leaf-3.new.members.entries c.put_leaf-4.new.members.entries c.in_ok-put_leaf.ensures c.in_ok-put_leaf-2.ensures c.in_ok-put_leaf-3.ensures)
    c.put_leaf-4.ensures
