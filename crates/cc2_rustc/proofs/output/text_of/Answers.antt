use Rattle.std.proofs.Common.{Err, ap, sym, ◌∙◌, inr, true≢false}
use Rattle.std.proofs.lemmas.Str.{IsUtf8-string_bytes}
use Rattle.cc2_error.specs.Causes.{plain, output_not_text}
use Rattle.cc2_error.specs.Commands.{command_of}
use Rattle.cc2_rustc.proofs.VersionTexts.{is_text, is_no_text}
use Rattle.cc2_rustc.proofs.output.text_of.Goals as goal

pub returns-in-Ok : goal.returns-in-Ok
returns-in-Ok c =
    is_text (command_of c.args.command.now) c.args.stdout.items _
    (ap (λ v. v.items) c.in-Ok.ensures.ok ∙ c.drop_line_ends.ensures) (IsUtf8-string_bytes c.in-Ok.text)

pub returns : goal.returns
returns c =
    inr (is_no_text (command_of c.args.command.now) c.args.stdout.items c.drop_line_ends.new.bytes.items
    c.drop_line_ends.ensures
    (λ text. true≢false (sym (c.in-Err.ensures.succeeds text)))
    ∙ ap (λ r. Err r) (sym (c.new.ensures ∙ ap (λ d. plain (output_not_text d)) c.in_ok-try_clone-in-Err.ensures)))
