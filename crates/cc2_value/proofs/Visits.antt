-- What visits make of whole tables.
use Rattle.std.proofs.Common.{◌≡◌, ℕ, Bool, cond, List, [], ◌∷◌, Option, Some, None, refl, sym, ap, subst, inl, inr}
use Rattle.std.proofs.lemmas.Bool.{cases_Bool}
use Rattle.std.proofs.lemmas.Slice.Eq.{bytes_eq-Decides}
use Rattle.std.specs.Str.{bytes_eq}
use Rattle.toml.specs.Data.{Members, get_member, Data}
use Rattle.cc2_error.specs.declared.error.Error.{Error}
use Rattle.cc2_value.specs.Cells.{field, Origin}
use Rattle.cc2_value.specs.Copies.{IsCopied}
use Rattle.cc2_value.specs.Reading.{fields_faults}
use Rattle.cc2_value.specs.Shown.{Field}
use Rattle.cc2_value.specs.Visits.{Look, AllMade, AllGiven, way_for, FieldsDecoded, FieldsCopied}
use Rattle.cc2_value.specs.Ways.{Way, Flaw, cells_in, faults_in, below, IsDecoded, IsFaultBehind}
use Rattle.cc2_value.proofs.Decoded.{faults_for, field_fault}

-- a field is read of a table's members
abbrev pub Read : Option Origin → Members → List ℕ → Way → Look → Look → Look → Type 0
Read origin ms k way own other new = IsDecoded (λ look. look) (cells_in way origin (get_member k ms)) (faults_in way (get_member k ms)) new

pub fields_read : {A : Type 0} (fs : List (Field A)) (origin : Option Origin) (ms : Members) (a b t : A) → AllMade fs (Read origin ms) a b t → FieldsDecoded fs origin ms t
fields_read [] origin ms a b t h = tt
fields_read (f ∷ fs) origin ms a b t h = (h.0.made, fields_read fs origin ms a b t h.1)

no_way : (A : Type 0) (k : List ℕ) (o : Option Data) → faults_in (way_for {A = A} [] k) o ≡ []
no_way A k None = refl
no_way A k (Some d) = refl

same_faults : {A : Type 0} (fs : List (Field A)) (k : List ℕ) (ms : Members) → faults_in (way_for fs k) (get_member k ms) ≡ faults_for fs k ms
same_faults {A} [] k ms = no_way A k (get_member k ms)
same_faults (f ∷ fs) k ms =
    elim (cases_Bool (bytes_eq f.key k)) [
      | inl same ↦
          subst (λ (b : Bool). faults_in (cond b f.way (way_for fs k)) (get_member k ms) ≡ cond b (faults_in f.way (get_member f.key ms)) (faults_for fs k ms)) (sym same)
          (ap (λ q. faults_in f.way (get_member q ms)) (sym ((bytes_eq-Decides f.key k).0 same)))
      | inr apart ↦
          subst (λ (b : Bool). faults_in (cond b f.way (way_for fs k)) (get_member k ms) ≡ cond b (faults_in f.way (get_member f.key ms)) (faults_for fs k ms)) (sym apart)
          (same_faults fs k ms)
    ]

-- a field that isn't read refuses the table
pub field_unread : {A : Type 0} (fs : List (Field A)) (ms : Members) (k : List ℕ) (e : Error)
    → IsFaultBehind [] (below (field k) (faults_in (way_for fs k) (get_member k ms))) e → IsFaultBehind [] (fields_faults fs ms) e
field_unread fs ms k e h = field_fault fs ms k e (subst (λ (flaws : List Flaw). IsFaultBehind [] (below (field k) flaws) e) (same_faults fs k ms) h)

-- a field is copied
abbrev pub Copied : Option Origin → Look → Look → Type 0
Copied origin own new = IsCopied (λ look. look) origin own new

pub fields_given : {A : Type 0} (fs : List (Field A)) (origin : Option Origin) (a c : A) → AllGiven fs (Copied origin) a c → FieldsCopied fs origin a c
fields_given [] origin a c h = tt
fields_given (f ∷ fs) origin a c h = (h.0.given, fields_given fs origin a c h.1)
