use Rattle.std.proofs.Common.{◌++◌, codes, ap, ◌∙◌}
use Rattle.cc2_base.proofs.Joined.{joined_map}
use Rattle.cc2_cargo_settings.proofs.commands.key_line.Goals as goal

pub returns : goal.returns
returns c =
    c.in_ok-format.ensures.ok
    ∙ ap (λ key. codes "could not load config key `" ++ (key ++ codes "`")) (c.in_ok-key.ensures.ok ∙ joined_map (λ k. k.now) (codes ".") c.args.path.now)
