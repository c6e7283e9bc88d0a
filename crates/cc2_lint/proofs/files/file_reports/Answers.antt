use Rattle.std.proofs.Common.{◌≡◌, ℕ, List, map, ap, subst, ◌∙◌, sym}
use Rattle.cc2_findings.specs.ClashViews.{clash_view, file_view}
use Rattle.cc2_findings.specs.Clashes.{clashes_of}
use Rattle.cc2_lint_settings.specs.HiddenViews.{hidden_view}
use Rattle.cc2_lint_settings.specs.Views.{table_of}
use Rattle.cc2_lint_settings.specs.Unresolved.{AreUnresolved}
use Rattle.cc2_lint.specs.Files.{checked_in, clashes_in, nth_list, subjects_in}
use Rattle.cc2_lint.proofs.ListAt.{viewed_at}
use Rattle.cc2_lint.proofs.files.file_reports.Goals as goal

pub returns : goal.returns
returns g c fs is_open files permissions =
    let check = c.args.check.now in
    let n = c.args.number in
    let file = c.args.file.now in
    let checked = checked_in fs is_open check in
    let unresolved = c.in_ok-unresolved_values.field-0.items in
    let met : map clash_view c.in_ok-clashes.field-0.items ≡ clashes_in checked n file =
    c.in_ok-clashes.ensures ∙ ap (λ fs'. clashes_of (map file_view fs') (table_of file)) c.first_of-nearer.ensures in
    let hidden : map hidden_view c.nth_list.result.now ≡ nth_list checked.hidden n =
    ap (map hidden_view) c.nth_list.ensures ∙ sym (viewed_at hidden_view check.hidden.now n) in (
      unresolved,
      c.in_ok-reports.reports.items,
      c.text_of-text.result.now,
      subst (λ (p : List ℕ). AreUnresolved check.dir.now p (table_of file) unresolved) c.as_str.ensures.value c.in_ok-unresolved_values.ensures,
      c.in_ok-reports.ensures.same ∙ c.in_ok-found.ensures fs is_open files permissions
          ∙ ap (λ met. subjects_in checked n file unresolved met (map hidden_view c.nth_list.result.now)) met
          ∙ ap (λ keys. subjects_in checked n file unresolved (clashes_in checked n file) keys) hidden,
      c.text_of-text.ensures,
      c.in_ok-reports.ensures.placed,
      c.in_ok-sort.ensures,
    )
