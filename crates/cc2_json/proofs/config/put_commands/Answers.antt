use Rattle.std.proofs.Common.{codes}
use Rattle.cc2_value.specs.Shown.{fields_at, map_at}
use Rattle.cc2_leaf.specs.Commands.{command_at}
use Rattle.cc2_leaf.specs.Lists.{string_list_at}
use Rattle.cc2_tables.specs.Build.{build_fields}
use Rattle.cc2_json.proofs.Trees.{on_ok}
use Rattle.cc2_json.proofs.Groups.{three}
use Rattle.cc2_json.proofs.config.put_commands.Goals as goal

pub returns : goal.returns
returns c =
    on_ok c.put_table-3.result
    (three c.args.form (codes "alias") (codes "build") (codes "credential-alias")
    (map_at string_list_at c.args.alias) (fields_at build_fields c.args.build) (map_at command_at c.args.credential_alias)
    c.args.members.now.entries c.put_table.new.members.entries c.put_table-2.new.members.entries c.put_table-3.new.members.entries
    c.in_ok-put_table.ensures c.in_ok-put_table-2.ensures)
    c.put_table-3.ensures
