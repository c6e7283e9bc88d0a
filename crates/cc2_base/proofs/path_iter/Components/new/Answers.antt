use Rattle.std.proofs.Common.{◌∙◌, ap}
use Rattle.std.specs.Path.{path_components}
use Rattle.cc2_base.proofs.Components.{path_components_are}
use Rattle.cc2_base.proofs.path_iter.Components.new.Goals as goal

pub returns : goal.returns
returns c = c.iter.ensures ∙ ap path_components c.new.ensures ∙ path_components_are c.args.path.now
