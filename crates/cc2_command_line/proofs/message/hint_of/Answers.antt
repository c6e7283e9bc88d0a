use Rattle.std.proofs.Common.{◌≡◌, IfOk, ℕ, List, Result, String, Global, map, string_bytes, subst, sym}
use Rattle.std.specs.declared.alloc.AllocError.{AllocError}
use Rattle.cc2_command_line.specs.FaultViews.{fault_view}
use Rattle.cc2_command_line.specs.Messages.{before_equals, hint, tip}
use Rattle.cc2_command_line.specs.Nearest.{nearest}
use Rattle.cc2_command_line.proofs.message.hint_of.Goals as goal

-- the text is this one
abbrev IsText : Result (String Global) AllocError → List ℕ → Type 0
IsText result text = IfOk result (λ t. string_bytes t ≡ text)

pub returns-in-UnknownOption : goal.returns-in-UnknownOption
returns-in-UnknownOption c =
    let result = c.tip_of.result in
    subst (λ fault. IsText result (hint (fault_view fault))) (sym c.in-UnknownOption.is)
    (subst (λ known. IsText result (tip (nearest (before_equals c.in-UnknownOption.word.now) known))) c.options.ensures
    (subst (λ name. IsText result (tip (nearest name (map (λ k. k.now) c.options.result.now)))) c.before_equals.ensures
    c.tip_of.ensures))

pub returns-in-UnknownCommand : goal.returns-in-UnknownCommand
returns-in-UnknownCommand c =
    let result = c.tip_of-in-UnknownCommand.result in
    subst (λ fault. IsText result (hint (fault_view fault))) (sym c.in-UnknownCommand.is)
    (subst (λ known. IsText result (tip (nearest c.in-UnknownCommand.word.now known))) c.commands.ensures
    c.tip_of-in-UnknownCommand.ensures)
