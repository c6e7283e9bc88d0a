-- What was found, or why nothing was looked for.
use Rattle.std.proofs.Common.{◌≡◌, ◌∙◌, inl, inr, ℕ, ◌+◌, ◌≤◌, List, [], ◌∷◌, Bool, true, false, ap, refl, sym, subst, arith}
use Rattle.std.specs.Prelude.{◌==◌, ◌&&◌}
use Rattle.cc2_error.specs.Causes.{Refusal, memory, plain}
use Rattle.cc2_cli.specs.Answers.{answer_text}
use Rattle.cc2_cli.specs.Endings.{refusal_lines}
use Rattle.cc2_cli.specs.declared.answer.Answer.{Answer}
use Rattle.cc2_lint.specs.Answers.{IsAnswerBy}
use Rattle.cc2_program.specs.Lints.{SaysError, SaysFound, SaysThese, found, problems_said, refused, summary_for}
use Rattle.cc2_program.specs.Streams.{failed}
use Rattle.cc2_reports.specs.Answers.{IsAnswered, IsRefusedBy, IsReported, is_refused}
use Rattle.cc2_reports.specs.Grades.{counts_of, one_if}
use Rattle.cc2_reports.specs.Levels.{is_level}
use Rattle.cc2_reports.specs.Lints.{level_of}
use Rattle.cc2_reports.specs.Printed.{printed}
use Rattle.cc2_reports.specs.Problems.{Problem}
use Rattle.cc2_reports.specs.Selected.{reported_among}
use Rattle.cc2_reports.specs.declared.answer.Linted.{Linted}
use Rattle.cc2_reports.specs.declared.answer.Printing.{Printing}
use Rattle.cc2_reports.specs.declared.grade.Counts.{Counts}
use Rattle.cc2_reports.specs.declared.level.Level.{Level}
use Rattle.cc2_reports.specs.declared.level.Level.TheVariants as level
use Rattle.cc2_show_answers.specs.ToldRuns.{Written}

-- a problem of any level is counted
counted_at : (l : Level) (errors warnings notes : ℕ)
    → 1 ≤ (one_if (is_level level.Error l) + errors)
    + ((one_if (is_level level.Warning l) + warnings) + (one_if (is_level level.Note l) + notes))
counted_at level.Error errors warnings notes = omega arith
counted_at level.Warning errors warnings notes = omega arith
counted_at level.Note errors warnings notes = omega arith

counted : (p : Problem) (ps : List Problem)
    → 1 ≤ (counts_of (p ∷ ps)).errors + ((counts_of (p ∷ ps)).warnings + (counts_of (p ∷ ps)).notes)
counted p ps = counted_at (level_of p.lint) (counts_of ps).errors (counts_of ps).warnings (counts_of ps).notes

-- where no level is counted there is none
none_counted : (one : Bool) (errors warnings notes : ℕ)
    → (((one && (errors == 0)) && (warnings == 0)) && (notes == 0)) ≡ true → errors + (warnings + notes) ≡ 0
none_counted one errors warnings notes h = grind (arith, h)

-- problems never look like an error in their place: if they make the status 1, one is counted
reported_is_not_refused : (text : List ℕ) (deny : Level) (ps : List Problem) (r : Linted) → IsReported text deny ps r
    → is_refused r ≡ true → ⊥
reported_is_not_refused text deny [] r g is = grind (arith, g.status, is)
reported_is_not_refused text deny (p ∷ ps) r g is =
    let none = none_counted (r.answer.status == 1) r.counts.errors r.counts.warnings r.counts.notes is in
    let some : 1 ≤ r.counts.errors + (r.counts.warnings + r.counts.notes) =
    subst (λ (c : Counts). 1 ≤ c.errors + (c.warnings + c.notes)) (sym g.counts) (counted p ps) in
    omega (arith, none, some)

-- an error is one
refused_is_refused : (refusal : Refusal) (r : Linted) → IsRefusedBy refusal r → is_refused r ≡ false → ⊥
refused_is_refused refusal r by is =
    grind (arith, by.answer.3, ap (λ c. c.errors) by.counts, ap (λ c. c.warnings) by.counts, ap (λ c. c.notes) by.counts, is)

-- the lines of an error, where they are those of a refusal
said_as : (refusal : Refusal) (answer : Answer) → answer_text answer ≡ refusal_lines refusal → answer.status ≡ 1
    → failed (answer_text answer) answer.status ≡ failed (refusal_lines refusal) 1
said_as refusal answer text status =
    ap (λ t. failed t answer.status) text ∙ ap (failed (refusal_lines refusal)) status

abbrev the_written : Linted → List ℕ → Written
the_written r err = record { out = answer_text r.answer; err = err; status = r.answer.status }

module _ (p : Printing) (allowed : List (List ℕ)) (is_summed : Bool) (r : Linted) where
  as_error : (refusal : Refusal) → IsRefusedBy refusal r
      → SaysFound p allowed is_summed (failed (answer_text r.answer) r.answer.status)
  as_error refusal by = refused by.answer.0 (said_as by.answer.0 r.answer by.answer.2 by.answer.3)

  error_said : (problems : List Problem) → is_refused r ≡ true → IsAnswered p (reported_among allowed problems) r
      → SaysFound p allowed is_summed (failed (answer_text r.answer) r.answer.status)
  error_said problems is (inl g) =
      absurd (reported_is_not_refused (printed p.format p.is_coloured (reported_among allowed problems)) p.deny
      (reported_among allowed problems) r g is)
  error_said problems is (inr by) = as_error (plain memory) by

  said_so : (text err : List ℕ) (ps : List Problem) → IsReported text p.deny ps r → text ≡ printed p.format p.is_coloured ps
      → err ≡ summary_for is_summed r.counts
      → the_written r err ≡ problems_said p is_summed ps
  said_so text err ps g is summed =
      ap (λ out. record { out = out; err = err; status = r.answer.status }) (g.text_is ∙ is)
      ∙ (ap (λ err. record { out = printed p.format p.is_coloured ps; err = err; status = r.answer.status })
      (summed ∙ ap (summary_for is_summed) g.counts)
      ∙ ap (λ status. record { out = printed p.format p.is_coloured ps; err = summary_for is_summed (counts_of ps); status = status })
      g.status)

  problems_are_said : (problems : List Problem) (err : List ℕ) → is_refused r ≡ false → err ≡ summary_for is_summed r.counts
      → IsAnswered p (reported_among allowed problems) r
      → SaysFound p allowed is_summed (the_written r err)
  problems_are_said problems err is summed (inl g) =
      found problems (said_so (printed p.format p.is_coloured (reported_among allowed problems)) err (reported_among allowed problems)
      g refl summed)
  problems_are_said problems err is summed (inr by) = absurd (refused_is_refused (plain memory) r by is)

pub says_refused : (p : Printing) (allowed : List (List ℕ)) (is_summed : Bool) (r : Linted) → is_refused r ≡ true
    → IsAnswerBy p allowed r → SaysFound p allowed is_summed (failed (answer_text r.answer) r.answer.status)
says_refused p allowed is_summed r is (inl by) = as_error p allowed is_summed r by.0 by.1
says_refused p allowed is_summed r is (inr by) = error_said p allowed is_summed r by.0 is by.1

pub says_found : (p : Printing) (allowed : List (List ℕ)) (is_summed : Bool) (r : Linted) (text : List ℕ) → is_refused r ≡ false
    → text ≡ summary_for is_summed r.counts → IsAnswerBy p allowed r
    → SaysFound p allowed is_summed (record { out = answer_text r.answer; err = text; status = r.answer.status })
says_found p allowed is_summed r text is summed (inl by) = absurd (refused_is_refused by.0 r by.1 is)
says_found p allowed is_summed r text is summed (inr by) = problems_are_said p allowed is_summed r by.0 text is summed by.1

module _ (r : Linted) where
  -- the error of a refusal, as it is written
  pub error_as : (refusal : Refusal) → IsRefusedBy refusal r → SaysError refusal (failed (answer_text r.answer) r.answer.status)
  error_as refusal by = (by.answer.0, by.answer.1, said_as by.answer.0 r.answer by.answer.2 by.answer.3)

  pub error_never : (refusal : Refusal) (w : Written) → is_refused r ≡ false → IsRefusedBy refusal r → SaysError refusal w
  error_never refusal w is by = absurd (refused_is_refused refusal r by is)

  module _ (p : Printing) (allowed : List (List ℕ)) (is_summed : Bool) (problems : List Problem) where
    -- these problems, as they are written, or that memory ran out
    pub these_refused : is_refused r ≡ true → IsAnswered p (reported_among allowed problems) r
        → SaysThese p allowed is_summed problems (failed (answer_text r.answer) r.answer.status)
    these_refused is (inl g) =
        absurd (reported_is_not_refused (printed p.format p.is_coloured (reported_among allowed problems)) p.deny
        (reported_among allowed problems) r g is)
    these_refused is (inr by) = inr (error_as (plain memory) by)

    pub these_found : (text : List ℕ) → is_refused r ≡ false → text ≡ summary_for is_summed r.counts
        → IsAnswered p (reported_among allowed problems) r
        → SaysThese p allowed is_summed problems (record { out = answer_text r.answer; err = text; status = r.answer.status })
    these_found text is summed (inl g) =
        inl (said_so p allowed is_summed r (printed p.format p.is_coloured (reported_among allowed problems)) text
        (reported_among allowed problems) g refl summed)
    these_found text is summed (inr by) = absurd (refused_is_refused (plain memory) r by is)

-- the same of what is the same
pub these_as : (p q : Printing) (xs ys : List (List ℕ)) (s t : Bool) (ps qs : List Problem) (w : Written) → p ≡ q → xs ≡ ys → s ≡ t → ps ≡ qs
    → SaysThese p xs s ps w → SaysThese q ys t qs w
these_as p q xs ys s t ps qs w printing allowed summed problems h =
    subst (λ (x : Printing). SaysThese x ys t qs w) printing
    (subst (λ (x : List (List ℕ)). SaysThese p x t qs w) allowed
    (subst (λ (x : Bool). SaysThese p xs x qs w) summed
    (subst (λ (x : List Problem). SaysThese p xs s x w) problems h)))
