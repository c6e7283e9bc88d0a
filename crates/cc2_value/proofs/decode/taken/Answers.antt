use Rattle.cc2_value.proofs.TableRest.{rest_after, found_at}
use Rattle.cc2_value.proofs.decode.taken.Goals as goal

pub returns-clause-found : goal.returns-clause-found
returns-clause-found c = found_at c.args.key.now c.args.table.now c.remove.result c.remove.ensures.value

pub returns-clause-rest : goal.returns-clause-rest
returns-clause-rest c = rest_after c.args.key.now c.args.table.now c.remove.new.self c.remove.ensures.updates
