use Rattle.std.proofs.Common.{◌∙◌, ap}
use Rattle.std.specs.Path.{path_join}
use Rattle.cc2_base.proofs.Joining.{path_join_is}
use Rattle.cc2_base.proofs.path.join.Goals as goal

pub returns : goal.returns
returns c =
    c.into_string.ensures ∙ c.in_ok-whole.ensures ∙ ap (λ base. path_join base c.args.path.now)
    c.new.ensures ∙ path_join_is c.args.base.now c.args.path.now
