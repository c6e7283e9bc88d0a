use Rattle.std.proofs.Common.{Some, subst}
use Rattle.cc2_value.specs.Cells.{IsPointwise}
use Rattle.cc2_value.specs.Places.{IsUnjoined}
use Rattle.cc2_value.specs.Shown.{option_at}
use Rattle.cc2_de.specs.Config.{config_at}
use Rattle.cc2_de.proofs.ConfigLists.{all_there, all_unjoined, if_ok, if_err, every_grouping, no_grouping}
use Rattle.cc2_de.proofs.config.Config.merge_all.Goals as goal

pub returns-clause-ok : goal.returns-clause-ok
returns-clause-ok c =
    if_ok c.merge_list.result
    (λ merged h. all_there c.args.configs.items merged
    (subst (λ xs. IsPointwise (option_at config_at) xs (Some merged)) c.in_ok-present.ensures h))
    c.merge_list.ensures.ok

pub returns-clause-every_grouping : goal.returns-clause-every_grouping
returns-clause-every_grouping c =
    if_ok c.merge_list.result (every_grouping c.args.configs.items) (returns-clause-ok c)

pub returns-clause-refused : goal.returns-clause-refused
returns-clause-refused c =
    if_err c.merge_list.result
    (λ fault h. all_unjoined c.args.configs.items fault
    (subst (λ xs. IsUnjoined (option_at config_at) xs fault) c.in_ok-present.ensures h))
    c.merge_list.ensures.refused

pub returns-clause-no_grouping : goal.returns-clause-no_grouping
returns-clause-no_grouping c =
    if_err c.merge_list.result (no_grouping c.args.configs.items) (returns-clause-refused c)
