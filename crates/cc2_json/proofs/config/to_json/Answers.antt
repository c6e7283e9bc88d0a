use Rattle.serde_json.proofs.Views.{view-Object}
use Rattle.cc2_json.proofs.Read.{read}
use Rattle.cc2_de.specs.Config.{config_at}
use Rattle.cc2_json.proofs.Groups.{config_is}
use Rattle.cc2_json.proofs.ConfigTokens.{config_values}
use Rattle.cc2_json.proofs.config.to_json.Goals as goal

pub returns-clause-object : goal.returns-clause-object
returns-clause-object c =
    config_is c.args.form c.args.config c.new-members.result.entries c.put_places.new.members.entries c.put_network.new.members.entries
    c.put_habits.new.members.entries c.put_commands.new.members.entries _ c.new-members.ensures.empty c.in_ok-put_places.ensures c.in_ok-put_network.ensures
    c.in_ok-put_habits.ensures c.in_ok-put_commands.ensures (view-Object c.put_commands.new.members)

pub returns-clause-json : goal.returns-clause-json
returns-clause-json c =
    read c.args.form (config_at c.args.config) (config_values c.args.config) _
    (config_is c.args.form c.args.config c.new-members.result.entries c.put_places.new.members.entries c.put_network.new.members.entries
    c.put_habits.new.members.entries c.put_commands.new.members.entries _ c.new-members.ensures.empty c.in_ok-put_places.ensures c.in_ok-put_network.ensures
    c.in_ok-put_habits.ensures c.in_ok-put_commands.ensures (view-Object c.put_commands.new.members))
