-- The keys of a table, judged one after another.
use Rattle.std.proofs.Common.{◌≡◌, ℕ, List, [], ◌∷◌, ◌++◌, map, string_bytes, Option, refl, sym, ap, subst, ◌∙◌}
use Rattle.toml.specs.View.{members_view}
use Rattle.toml.proofs.Views.{Entry}
use Rattle.cc2_findings.specs.Founds.{where_found}
use Rattle.cc2_findings.specs.KeyFaults.{IsJudged}
use Rattle.cc2_findings.specs.KeyFindings.{AreJudged, names_of, shown_fault}
use Rattle.cc2_findings.specs.declared.cfg_keys.CfgFinding.{CfgFinding}
use Rattle.std.proofs.lemmas.List.{map-append}
use Rattle.cc2_findings.specs.declared.cfg_key.KeyFault.{KeyFault}
use Rattle.cc2_findings.proofs.Founds.{one_more}

abbrev pub Found : Type 0
Found = List (List ℕ × KeyFault)

-- the names of entries
abbrev pub entry_names : List Entry → List (List ℕ)
entry_names es = map (λ e. string_bytes e.0) es

pub names_seen : (es : List Entry) → entry_names es ≡ names_of (members_view es)
names_seen [] = refl
names_seen (e ∷ es) = ap (λ ns. string_bytes e.0 ∷ ns) (names_seen es)

-- one entry more
pub entry_more : (done : List Entry) (e : Entry) (found new : List CfgFinding) (fault : Option KeyFault)
    → AreJudged (entry_names done) (map shown_fault found) → IsJudged (string_bytes e.0) fault
    → map shown_fault new ≡ map shown_fault found ++ where_found (string_bytes e.0) fault
    → AreJudged (entry_names (done ++ e ∷ [])) (map shown_fault new)
entry_more done e found new fault are is more =
    subst (λ (ns : List (List ℕ)). AreJudged ns (map shown_fault new)) (sym (map-append (λ (x : Entry). string_bytes x.0) done (e ∷ [])))
    (subst (λ (f : Found). AreJudged (entry_names done ++ string_bytes e.0 ∷ []) f) (sym more)
    (one_more IsJudged (entry_names done) (map shown_fault found) (string_bytes e.0) fault are is))

-- all of them
pub all_judged : (es done : List Entry) (found : Found) → es ≡ done → AreJudged (entry_names done) found → AreJudged (names_of (members_view es)) found
all_judged es done found same are =
    subst (λ (ns : List (List ℕ)). AreJudged ns found) (ap entry_names (sym same) ∙ names_seen es) are
