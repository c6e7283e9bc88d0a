use Rattle.std.specs.Cow.{cow_str_bytes}
use Rattle.cc2_error.specs.Commands.{command_of}
use Rattle.cc2_rustc.proofs.Sets.{agrees_more}
use Rattle.cc2_rustc.proofs.cfg_sets.find_cfg_set.Goals as goal

pub returns-in_err-keep-clause-agrees : goal.returns-in_err-keep-clause-agrees
returns-in_err-keep-clause-agrees g c m told =
    agrees_more (command_of c.args.rustc.now) m c.args.sets.now c.keep.new.kept
    (cow_str_bytes c.args.target.now.text) c.in_ok-set.set c.keep.ensures.adds (c.in_ok-set.ensures.told m told)

pub returns-clause-agrees : goal.returns-clause-agrees
returns-clause-agrees g c m told =
    agrees_more (command_of c.args.rustc.now) m c.args.sets.now c.keep.new.kept
    (cow_str_bytes c.args.target.now.text) c.in_ok-set.set c.keep.ensures.adds (c.in_ok-set.ensures.told m told)
