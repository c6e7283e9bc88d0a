use Rattle.std.proofs.Common.{◌∙◌, ap, map}
use Rattle.cc2_command_line.specs.Messages.{tip}
use Rattle.cc2_command_line.specs.Nearest.{nearest}
use Rattle.cc2_program.specs.Lints.{unknown_with}
use Rattle.cc2_program.proofs.lint.unknown_message.Goals as goal

pub returns : goal.returns
returns c =
    let word = c.args.word.now in
    c.in_ok-format.ensures.ok
    ∙ ap (unknown_with word)
    (c.as_str-tip.ensures.value
    ∙ (c.in_ok-tip.ensures
    ∙ ap (λ names. tip (nearest word names))
    (ap (map (λ name. name.now)) c.as_slice.ensures.value ∙ c.in_ok-names.ensures)))
