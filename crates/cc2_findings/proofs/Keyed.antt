-- Keys of a table, one after another: whether each alone is refused.
use Rattle.std.proofs.Common.{◌≡◌, ℕ, List, [], ◌∷◌, ◌++◌, map, string_bytes, Option, sym, subst, ◌∙◌, ap}
use Rattle.std.proofs.lemmas.List.{map-append}
use Rattle.toml.specs.Data.{Members}
use Rattle.cc2_error.specs.declared.error.Error.{Error}
use Rattle.cc2_findings.specs.Alone.{AreJudged, alone, value_fault}
use Rattle.cc2_findings.specs.FindingViews.{finding_view}
use Rattle.cc2_findings.specs.Founds.{AreFound, where_found}
use Rattle.cc2_findings.specs.declared.alone.ValueFault.{ValueFault}
use Rattle.cc2_findings.specs.declared.finding.Finding.{Finding}
use Rattle.cc2_findings.proofs.Founds.{one_more}

abbrev Path : Type 0
Path = List (List ℕ)

-- the keys that are found
abbrev pub paths_of : {A : Type 0} → List (Finding A) → List Path
paths_of keys = map (λ f. f.0) (map finding_view keys)

paths_more : {A : Type 0} (done : List (Finding A)) (k : Finding A) → paths_of (done ++ k ∷ []) ≡ paths_of done ++ map string_bytes k.path.items ∷ []
paths_more done k =
    ap (map (λ f. f.0)) (map-append finding_view done (k ∷ [])) ∙ map-append (λ f. f.0) (map finding_view done) (finding_view k ∷ [])

-- one key more
pub key_more : {A : Type 0} (Judges : Path → Members → Option Error → Type 0) (ms : Members) (done : List (Finding A)) (k : Finding A)
    (found new : List ValueFault) (e : Option Error)
    → AreJudged Judges ms (paths_of done) found → Judges (map string_bytes k.path.items) (alone (map string_bytes k.path.items) ms) e
    → map value_fault new ≡ map value_fault found ++ where_found (map string_bytes k.path.items) e
    → AreJudged Judges ms (paths_of (done ++ k ∷ [])) new
key_more Judges ms done k found new e are is more =
    let Is = λ (path : Path) (o : Option Error). Judges path (alone path ms) o in
    subst (λ (ps : List Path). AreJudged Judges ms ps new) (sym (paths_more done k))
    (subst (λ (f : List (Path × Error)). AreFound Is (paths_of done ++ map string_bytes k.path.items ∷ []) f) (sym more)
    (one_more Is (paths_of done) (map value_fault found) (map string_bytes k.path.items) e are is))
