use Rattle.std.proofs.Common.{◌⊎◌, inl, inr, List, map, option_map, string_bytes, subst, sym, Vec, Global}
use Rattle.cc2_error.specs.Causes.{refusal_of}
use Rattle.cc2_error.specs.Outcomes.{IsWantOfMemory}
use Rattle.cc2_error.proofs.Refused.{err_exit}
use Rattle.cc2_base.specs.Homes.{cargo_home_of}
use Rattle.cc2_base.specs.Walked.{walked}
use Rattle.cc2_findings.specs.Dirs.{AreOfWalk}
use Rattle.cc2_findings.specs.declared.dir.LintedFile.{LintedFile}
use Rattle.cc2_lint_settings.specs.HiddenViews.{hidden_view}
use Rattle.cc2_lint_settings.specs.Keys.{AreHidden}
use Rattle.cc2_lint_settings.specs.declared.hidden_keys.HiddenKey.{HiddenKey}
use Rattle.cc2_lint_settings.specs.Views.{table_of}
use Rattle.cc2_lint.specs.Files.{rivals_view}
use Rattle.cc2_reports.specs.Each.{AreOfEach}
use Rattle.cc2_lint.specs.Listed.{IsDirectoryCause, IsOfTarget}
use Rattle.cc2_lint.specs.declared.rivals.Rivals.{Rivals}
use Rattle.cc2_reports.proofs.Outcomes.{same_value}
use Rattle.cc2_lint.proofs.paths.dir_reports.Goals as goal

pub returns-in_err-rivals-clause-refused : goal.returns-in_err-rivals-clause-refused
returns-in_err-rivals-clause-refused g c fs answers files programs =
    err_exit c.from_residual-in_err-rivals.result
    (λ e. IsWantOfMemory e ⊎ IsDirectoryCause fs answers c.args.machine.now c.args.dir.now (map (λ t. t.now) c.args.targets.now) (refusal_of e))
    c.in_err-rivals.field-0.0 c.from_residual-in_err-rivals.ensures.1
    (elim (c.in_err-rivals.ensures.refused fs answers files programs) [
      | inl memory ↦ inl memory
      | inr cause ↦ inr (inr cause)
    ])

pub returns-clause-ok : goal.returns-clause-ok
returns-clause-ok g c fs answers is_open files programs permissions =
    let machine = c.args.machine.now in
    let dir = c.args.dir.now in
    let targets = map (λ t. t.now) c.args.targets.now in
    let home = option_map string_bytes c.in_ok-home.home in
    let linted = c.as_slice-of_files.result.now in
    let (known, is_known, walk) = c.in_ok-linted.ensures.ok fs files in
    let same = same_value (cargo_home_of dir machine) known home is_known c.in_ok-home.ensures in (
      home,
      linted,
      map (λ keys. map hidden_view keys.items) c.as_slice.result.now,
      map rivals_view c.as_slice-2.result.now,
      c.in_ok-home.ensures,
      subst (λ (fs' : List LintedFile). AreOfWalk fs (walked fs dir home) fs') (sym c.as_slice-of_files.ensures.value)
          (subst (λ h. AreOfWalk fs (walked fs dir h) c.in_ok-linted.linted.items) same walk),
      subst (λ (hs : List (Vec HiddenKey Global)). AreHidden machine (map table_of linted) (map (λ keys. map hidden_view keys.items) hs))
          (sym c.as_slice.ensures.value) c.in_ok-hidden.ensures,
      subst (λ (rs : List Rivals). AreOfEach (IsOfTarget fs answers machine dir (map table_of linted)) targets (map rivals_view rs))
          (sym c.as_slice-2.ensures.value) (c.in_ok-rivals.ensures.ok fs answers files programs),
      c.in_ok-linted_reports.ensures fs is_open files permissions,
    )
