-- Tables, read field by field.
use Rattle.std.proofs.Common.{◌<◌, zero, suc, length, slice_index_or, arith, ◌≡◌, ℕ, Bool, true, false, cond, List, [], ◌∷◌, ◌++◌, map, Contains, Option, Some, refl, sym, ap, subst, ◌∙◌, inl, inr}
use Rattle.std.proofs.lemmas.Bool.{cases_Bool}
use Rattle.std.proofs.lemmas.List.Elements.{Contains-append_left, Contains-append_right}
use Rattle.std.proofs.lemmas.Slice.Eq.{bytes_eq-Decides}
use Rattle.std.specs.Str.{bytes_eq}
use Rattle.toml.specs.Data.{Data, Members, get_member}
use Rattle.cc2_error.specs.Causes.{refusal_of, plain}
use Rattle.cc2_error.specs.Below.{cause_below, IsBelow}
use Rattle.cc2_error.specs.declared.error.Error.{Error}
use Rattle.cc2_value.specs.Cells.{Key, field, name, key_text, KeyPath, Origin}
use Rattle.cc2_value.specs.Shown.{Field, field_at, table_at}
use Rattle.cc2_value.specs.Ways.{Fault, ill_typed, no_word, extra_words, no_command, fault_cause, Flaw, Way, faults_in, below, IsDecoded, IsFaultBehind}
use Rattle.cc2_value.specs.Reading.{member_cells, members_cells, fields_faults, table_cells, table_faults}
use Rattle.cc2_value.specs.Visits.{FieldsDecoded}

either_same : {X : Type 0} (b : Bool) (u v u' v' : X) → u ≡ u' → v ≡ v' → cond b u v ≡ cond b u' v'
either_same true u v u' v' h k = h
either_same false u v u' v' h k = k

fields_same : {A : Type 0} (fs : List (Field A)) (origin : Option Origin) (ms : Members) (t : A)
    → FieldsDecoded fs origin ms t → (k : List ℕ) (p : KeyPath) → field_at fs t k p ≡ member_cells fs origin ms k p
fields_same [] origin ms t h k p = refl
fields_same (f ∷ fs) origin ms t h k p = either_same (bytes_eq f.key k) _ _ _ _ (h.0.1 p) (fields_same fs origin ms t h.1 k p)

fields_sound : {A : Type 0} (fs : List (Field A)) (origin : Option Origin) (ms : Members) (t : A) → FieldsDecoded fs origin ms t → fields_faults fs ms ≡ []
fields_sound [] origin ms t h = refl
fields_sound (f ∷ fs) origin ms t h = ap (λ ps. below (field f.key) ps ++ fields_faults fs ms) h.0.0 ∙ fields_sound fs origin ms t h.1

-- a table whose fields are read is read
pub table_decoded : {A : Type 0} (member : Bool) (fs : List (Field A)) (origin : Option Origin) (ms : Members) (t : A) → FieldsDecoded fs origin ms t
    → IsDecoded (table_at member fs) (members_cells member fs origin ms) (fields_faults fs ms) t
table_decoded member fs origin ms t h = (fields_sound fs origin ms t h, shown)
  where
    shown : (p : KeyPath) → table_at member fs t p ≡ members_cells member fs origin ms p
    shown [] = refl
    shown (field k ∷ p) = fields_same fs origin ms t h k p
    shown (name k ∷ p) = refl

-- the same of a value that is a table with these members
pub table_in : {A : Type 0} (member : Bool) (fs : List (Field A)) (origin : Option Origin) (o : Option Members) (ms : Members) (t : A) → o ≡ Some ms
    → IsDecoded (table_at member fs) (members_cells member fs origin ms) (fields_faults fs ms) t
    → IsDecoded (table_at member fs) (table_cells member fs origin o) (table_faults fs o) t
table_in member fs origin o ms t is h =
    subst (λ (m : Option Members). IsDecoded (table_at member fs) (table_cells member fs origin m) (table_faults fs m) t) (sym is) h

-- the faults of the field at a key
abbrev pub faults_for : {A : Type 0} → List (Field A) → List ℕ → Members → List Flaw
faults_for [] k ms = []
faults_for (f ∷ fs) k ms = cond (bytes_eq f.key k) (faults_in f.way (get_member f.key ms)) (faults_for fs k ms)

fault_of : {A : Type 0} (fs : List (Field A)) (k : List ℕ) (ms : Members) (p : Flaw) → Contains (below (field k) (faults_for fs k ms)) p → Contains (fields_faults fs ms) p
fault_of [] k ms p h = h
fault_of (f ∷ fs) k ms p h =
    elim (cases_Bool (bytes_eq f.key k)) [
      | inl same ↦
          Contains-append_left (below (field f.key) (faults_in f.way (get_member f.key ms))) (fields_faults fs ms) p
          (subst (λ q. Contains (below (field q) (faults_in f.way (get_member f.key ms))) p) (sym ((bytes_eq-Decides f.key k).0 same))
          (subst (λ (b : Bool). Contains (below (field k) (cond b (faults_in f.way (get_member f.key ms)) (faults_for fs k ms))) p) same h))
      | inr apart ↦
          Contains-append_right (below (field f.key) (faults_in f.way (get_member f.key ms))) (fields_faults fs ms) p
          (fault_of fs k ms p (subst (λ (b : Bool). Contains (below (field k) (cond b (faults_in f.way (get_member f.key ms)) (faults_for fs k ms))) p) apart h))
    ]

contains_map : (f : Flaw → Flaw) (xs : List Flaw) (x : Flaw) (i : ℕ) → i < length xs → slice_index_or xs i x ≡ x → Contains (map f xs) (f x)
contains_map f [] x i lt e = absurd (omega (arith, lt))
contains_map f (y ∷ ys) x zero lt e = (0, omega arith, ap f e)
contains_map f (y ∷ ys) x (suc i) lt e =
    let less : i < length ys = omega (arith, lt) in
    let r = contains_map f ys x i less e in
    (suc r.0, omega (arith, r.1), r.2)

-- a fault of a value at a key, seen from the table
contains_below : (key : Key) (flaws : List Flaw) (f : Flaw) → Contains flaws f → Contains (below key flaws) (key ∷ f.0, f.1)
contains_below key flaws f h = contains_map (λ g. (key ∷ g.0, g.1)) flaws f h.0 h.1 h.2

pub fault_below : (key : Key) (flaws : List Flaw) (e : Error) → IsFaultBehind (key_text key ∷ []) flaws e → IsFaultBehind [] (below key flaws) e
fault_below key flaws e (inl m) = inl m
fault_below key flaws e (inr h) = inr ((key ∷ h.0.0, h.0.1), contains_below key flaws h.0 h.1, h.2)

-- the same of the member that a table has at the key
pub member_fault : (key : List ℕ) (way : Way) (member : Option Data) (value : Data) (e : Error) → Some value ≡ member → IsFaultBehind (key ∷ []) (way.faults value) e → IsFaultBehind [] (below (field key) (faults_in way member)) e
member_fault key way member value e is fault =
    subst (λ (o : Option Data). IsFaultBehind [] (below (field key) (faults_in way o)) e) is (fault_below (field key) (way.faults value) e fault)

-- the fault of a field is one of its table's
pub field_fault : {A : Type 0} (fs : List (Field A)) (ms : Members) (k : List ℕ) (e : Error) → IsFaultBehind [] (below (field k) (faults_for fs k ms)) e → IsFaultBehind [] (fields_faults fs ms) e
field_fault fs ms k e (inl m) = inl m
field_fault fs ms k e (inr i) = inr (i.0, fault_of fs k ms i.0 i.1, i.2)

cause_of_fault : (key : List ℕ) (path : List (List ℕ)) (f : Fault) → cause_below key (fault_cause path f) ≡ fault_cause (key ∷ path) f
cause_of_fault key path ill_typed = refl
cause_of_fault key path no_word = refl
cause_of_fault key path (extra_words kind) = refl
cause_of_fault key path no_command = refl

-- what is a fault of a table's members is one after the table's key
pub fault_behind : (key : List ℕ) (flaws : List Flaw) (inner outer : Error) → IsBelow key (refusal_of inner) (refusal_of outer) → IsFaultBehind [] flaws inner → IsFaultBehind (key ∷ []) flaws outer
fault_behind key flaws inner outer (inl m) h = inl m
fault_behind key flaws inner outer (inr is) (inl m) = inl (is ∙ ap (λ r. record { cause = cause_below key r.cause; context = r.context }) m)
fault_behind key flaws inner outer (inr is) (inr h) =
    inr (h.0, h.1, is ∙ ap (λ r. record { cause = cause_below key r.cause; context = r.context }) h.2 ∙ ap plain (cause_of_fault key (map key_text h.0.0) h.0.1))

-- the one fault of a value is at the value
pub fault_here : (key : List ℕ) (fault : Fault) (e : Error) → refusal_of e ≡ plain (fault_cause (key ∷ []) fault) → IsFaultBehind (key ∷ []) (([], fault) ∷ []) e
fault_here key fault e is = inr (([], fault), (0, omega arith, refl), is)
