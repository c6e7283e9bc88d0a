-- Where variables set nothing they hide nothing.
use Rattle.std.proofs.Common.{◌≡◌, ◌++◌, ℕ, Bool, true, false, cond, List, [], ◌∷◌, flat_map, Option, None, refl, sym, ap, ◌∙◌}
use Rattle.serde_json.specs.Data.{Data, null, boolean, number, string, array, object, no_members, member}
use Rattle.toml.specs.Data as toml
use Rattle.cc2_findings.specs.declared.form.Form.{Form}
use Rattle.cc2_findings.specs.declared.place.Place.TheVariants as at
use Rattle.cc2_findings.specs.Findings.{Found, findings_in}
use Rattle.cc2_findings.specs.Forms.{form_at}
use Rattle.cc2_findings.specs.Founds.{where_found}
use Rattle.cc2_json.specs.Json.{is_bare}
use Rattle.cc2_lint_settings.specs.Keys.{hidden_at, hidden_of}
use Rattle.cc2_lint_settings.specs.Setters.{is_browser, setter_at}

either_none : (b : Bool) (o : Option (List ℕ)) → o ≡ None → cond b None o ≡ None
either_none true o none = refl
either_none false o none = none

unset : (path : List (List ℕ)) → setter_at path (object no_members) ≡ None
unset [] = refl
unset (key ∷ path) = either_none (is_browser (key ∷ path)) None refl

none_hidden : (settings : List (Found Form)) → flat_map (hidden_at (object no_members)) settings ≡ []
none_hidden [] = refl
none_hidden (s ∷ settings) =
    ap (λ o. where_found s.0 o ++ flat_map (hidden_at (object no_members)) settings) (unset s.0) ∙ none_hidden settings

pub bare_hides : (d : Data) (ms : toml.Members) → is_bare d ≡ true → [] ≡ hidden_of d ms
bare_hides (object no_members) ms is = sym (none_hidden (findings_in form_at at.Config ms))
bare_hides (object (member k d more)) ms is = cc is
bare_hides null ms is = cc is
bare_hides (boolean b) ms is = cc is
bare_hides (number n) ms is = cc is
bare_hides (string s) ms is = cc is
bare_hides (array ds) ms is = cc is
