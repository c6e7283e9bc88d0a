use Rattle.std.proofs.Common.{◌≡◌, ◌∙◌, ◌⊎◌, inl, inr, ℕ, List, Option, Some, Bool, Bor, ap, map, string_bytes, subst, sym}
use Rattle.cc2_command_line.specs.CommandViews.{lint_view}
use Rattle.cc2_command_line.specs.Commands.{Lint}
use Rattle.cc2_program.specs.Lints.{LintGives, SaysFound, first_unknown, format_of, has_summary, known, printing_for, unknown, unknown_lint}
use Rattle.cc2_program.specs.SaidViews.{written}
use Rattle.cc2_program.specs.Streams.{failed, out_of_memory}
use Rattle.cc2_reports.specs.declared.answer.Printing.{Printing}
use Rattle.cc2_reports.specs.declared.format.Format.{Format}
use Rattle.cc2_reports.specs.declared.level.Level.{Level}
use Rattle.cc2_show_answers.specs.ToldRuns.{Written}
use Rattle.cc2_program.proofs.Finds.{says_all}
use Rattle.cc2_program.proofs.lint.lint_said.Goals as goal

-- the error of an unknown lint
of_unknown : (is_coloured : Bool) (l : Lint) (quiet : Bool) (w : Written) (word : List ℕ) → first_unknown l.allowed ≡ Some word
    → (w ≡ failed (unknown_lint word) 2) ⊎ (w ≡ out_of_memory) → LintGives is_coloured l quiet w ⊎ (w ≡ out_of_memory)
of_unknown is_coloured l quiet w word is (inl said) = inl (unknown word is said)
of_unknown is_coloured l quiet w word is (inr said) = inr said

-- the first unknown one of words that are the same
same_words : {words allowed : List (Bor (List ℕ))} {found : Option (List ℕ)} → words ≡ allowed
    → found ≡ first_unknown (map (λ w. w.now) words) → first_unknown (map (λ w. w.now) allowed) ≡ found
same_words same is = sym (is ∙ ap (λ ws. first_unknown (map (λ w. w.now) ws)) same)

abbrev printed_as : Bool → Level → Format → Printing
printed_as is_coloured level format = record { format = format; is_coloured = is_coloured; deny = level }

abbrev denied_from : Bool → Format → Level → Printing
denied_from is_coloured format level = record { format = format; is_coloured = is_coloured; deny = level }

pub returns-in-Some-clause-always : goal.returns-in-Some-clause-always
returns-in-Some-clause-always g c =
    of_unknown c.args.place.now.is_coloured (lint_view c.args.lint.now) c.args.quiet (written c.unknown_said.result) c.in-Some.word.now
    (same_words c.as_slice.ensures.value c.in-Some.ensures) c.unknown_said.ensures

pub returns-clause-always : goal.returns-clause-always
returns-clause-always g c =
    let w = written c.said_of.result in
    let is_coloured = c.args.place.now.is_coloured in
    let level = c.level_of.result in
    let asked = c.args.lint.now.allowed.items in
    inl (known (same_words c.as_slice.ensures.value c.in_default.ensures)
    (subst (λ (deny : Level). SaysFound record { format = format_of c.args.lint.now.format; is_coloured = is_coloured; deny = deny }
    (map (λ word. word.now) asked) (has_summary c.args.lint.now.format c.args.quiet) w) c.level_of.ensures
    (subst (λ (format : Format). SaysFound record { format = format; is_coloured = is_coloured; deny = level }
    (map (λ word. word.now) asked) (has_summary c.args.lint.now.format c.args.quiet) w) c.format_of.ensures
    (subst (λ (words : List (Bor (List ℕ))). SaysFound record { format = c.format_of.result; is_coloured = is_coloured; deny = level }
    (map (λ word. word.now) words) (has_summary c.args.lint.now.format c.args.quiet) w) c.as_slice-2.ensures.value
    (subst (λ (is_summed : Bool). SaysFound record { format = c.format_of.result; is_coloured = is_coloured; deny = level }
    (map (λ word. word.now) c.as_slice-2.result.now) is_summed w) c.has_summary.ensures
    (c.said_of.ensures.found record { format = c.format_of.result; is_coloured = is_coloured; deny = level }
    (map (λ word. word.now) c.as_slice-2.result.now) c.linted_answer-linted.ensures.always))))))

pub returns-in-Some-clause-finds : goal.returns-in-Some-clause-finds
returns-in-Some-clause-finds g c fs answers is_open files programs permissions =
    elim c.unknown_said.ensures [
      | inl said ↦ inl (inl (c.in-Some.word.now, same_words c.as_slice.ensures.value c.in-Some.ensures, said))
      | inr said ↦ inr said
    ]

pub returns-clause-finds : goal.returns-clause-finds
returns-clause-finds g c fs answers is_open files programs permissions =
    let place = c.args.place.now in
    let machine = place.machine.now in
    let l = lint_view c.args.lint.now in
    let is_coloured = place.is_coloured in
    let level = c.level_of.result in
    let printing : Printing = record { format = c.format_of.result; is_coloured = is_coloured; deny = level } in
    let allowed = map (λ word. word.now) c.as_slice-2.result.now in
    let as_chosen : printing ≡ printing_for is_coloured l =
    ap (printed_as is_coloured level) c.format_of.ensures
    ∙ ap (denied_from is_coloured (format_of c.args.lint.now.format)) c.level_of.ensures in
    inl (inr (
      same_words c.as_slice.ensures.value c.in_default.ensures,
      says_all fs (g.L.RealPaths.told c.args.reals.now) (g.S.Launcher.told_with c.args.launcher.now) answers is_open machine
          (map string_bytes place.paths.now) l (map (λ text. text.now) c.as_slice-3.result.now) c.as_str.result.now (string_bytes machine.current_dir) printing (printing_for is_coloured l) allowed
          c.has_summary.result (has_summary c.args.lint.now.format c.args.quiet) c.linted_answer-linted.result (written c.said_of.result)
          (ap (map (λ text. text.now)) c.as_slice-3.ensures.value) c.as_str.ensures.value as_chosen
          (ap (map (λ word. word.now)) c.as_slice-2.ensures.value) c.has_summary.ensures
          (c.said_of.ensures.these printing allowed) c.said_of.ensures.error
          (c.linted_answer-linted.ensures.found fs answers is_open files programs permissions),
    ))
