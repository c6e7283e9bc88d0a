-- The nearest file clashes with none.
use Rattle.std.proofs.Common.{◌≡◌, List, [], ◌∷◌, length, map, flat_map, refl, ap, sym, ◌∙◌, arith}
use Rattle.std.proofs.lemmas.Bool.{eqb-true}
use Rattle.toml.specs.View.{table_view}
use Rattle.cc2_findings.specs.ClashViews.{clash_view, file_view}
use Rattle.cc2_findings.specs.Clashes.{clash_at}
use Rattle.cc2_findings.specs.Findings.{Found, findings_in}
use Rattle.cc2_findings.specs.Forms.{form_at}
use Rattle.cc2_findings.specs.declared.dir.LintedFile.{LintedFile}
use Rattle.cc2_findings.specs.declared.form.Form.{Form}
use Rattle.cc2_findings.specs.declared.place.Place.TheVariants as at
use Rattle.cc2_findings.proofs.clash.clashes.Goals as goal

-- after no nearer file no setting clashes
alone : (nearer : List LintedFile) (settings : List (Found Form)) → length nearer ≡ 0
    → flat_map (clash_at (map file_view nearer)) settings ≡ []
alone [] [] e = refl
alone [] (s ∷ settings) e = alone [] settings e
alone (f ∷ nearer) settings e = absurd (omega (arith, e))

pub returns-then-is_empty : goal.returns-then-is_empty
returns-then-is_empty c =
    let settings = findings_in form_at at.Config (table_view c.args.file.now.found.table) in
    let none = eqb-true (length c.args.nearer.now) 0 (sym c.is_empty.ensures ∙ c.if-is_empty.true) in
    ap (map clash_view) c.new.ensures.items ∙ sym (alone c.args.nearer.now settings none)
