use Rattle.std.proofs.Common.{◌≡◌, ◌++◌, [], ◌∷◌, ℕ, List, map, option_map, ap, string_bytes, subst, sym, ◌∙◌, Option, Vec, Global}
use Rattle.cc2_findings.specs.Files.{IsContent, IsLinted}
use Rattle.cc2_findings.specs.declared.dir.LintedFile.{LintedFile}
use Rattle.cc2_lint_settings.specs.HiddenViews.{hidden_view}
use Rattle.cc2_lint_settings.specs.Keys.{AreHidden}
use Rattle.cc2_lint_settings.specs.declared.hidden_keys.HiddenKey.{HiddenKey}
use Rattle.cc2_lint_settings.specs.Views.{table_of}
use Rattle.cc2_lint.specs.Files.{AreReportsOfAll}
use Rattle.cc2_lint.specs.Listed.{IsOfFileAlone}
use Rattle.cc2_reports.proofs.Outcomes.{if_ok}
use Rattle.cc2_lint.proofs.paths.alone_reports.Goals as goal

pub returns : goal.returns
returns g c fs is_open files permissions =
    let machine = c.args.machine.now in
    let dir = c.args.dir.now in
    let path = c.args.path.now in
    let file : LintedFile = record { path = c.in_ok-from_str.field-0; found = c.in_ok-found.found; content = c.in_ok-found.content } in
    let named : string_bytes c.in_ok-from_str.field-0 ≡ path = c.in_ok-from_str.ensures.ok in
    let pushed : c.push.new.self.items ≡ file ∷ [] = c.in_ok-push.ensures.items ∙ ap (λ xs. xs ++ file ∷ []) c.new-linted.ensures.items in
    let hidden = map (λ keys. map hidden_view keys.items) c.as_slice-3.result.now in
    let hides : AreHidden machine (table_of file ∷ []) hidden =
    subst (λ (hs : List (Vec HiddenKey Global)). AreHidden machine (table_of file ∷ []) (map (λ keys. map hidden_view keys.items) hs))
    (sym c.as_slice-3.ensures.value)
    (subst (λ (xs : List LintedFile). AreHidden machine (map table_of xs) (map (λ keys. map hidden_view keys.items) c.in_ok-hidden.hidden.items))
    (c.as_slice.ensures.value ∙ pushed) c.in_ok-hidden.ensures) in
    if_ok c.linted_reports.result _ (λ reports. IsOfFileAlone fs is_open machine dir path reports.items)
    (λ reports is. (
      file,
      hidden,
      named,
      (
        subst (λ (p : List ℕ). IsLinted fs p c.in_ok-found.found) (sym named) (c.in_ok-found.ensures.linted fs files),
        subst (λ (p : List ℕ). IsContent fs p c.in_ok-found.content.items) (sym named) (c.in_ok-found.ensures.content fs files),
      ),
      hides,
      subst (λ (home : Option (List ℕ)). AreReportsOfAll
          record { tree = fs; dir = dir; files = file ∷ []; hidden = hidden; rivals = []; home = home; is_open = is_open } 0 (file ∷ []) reports.items)
          c.in_ok-home.ensures
          (subst (λ (xs : List LintedFile). AreReportsOfAll
          record { tree = fs; dir = dir; files = xs; hidden = hidden; rivals = []; home = option_map string_bytes c.in_ok-home.home; is_open = is_open } 0 xs reports.items)
          (c.as_slice-2.ensures.value ∙ pushed) is),
    ))
    (c.linted_reports.ensures fs is_open files permissions)
