use Rattle.std.proofs.Common.{◌∙◌, ◌++◌, ap, codes}
use Rattle.cc2_base.proofs.Joined.{joined_map}
use Rattle.cc2_command_line.proofs.message.values_line.Goals as goal

pub returns : goal.returns
returns c =
    c.in_ok-format.ensures.ok
    ∙ ap (λ names. codes "\n  possible values: " ++ (names ++ codes "\n"))
    (c.as_str-names.ensures.value ∙ (c.in_ok-names.ensures.ok ∙ joined_map (λ name. name.now) (codes ", ") c.args.names.now))
