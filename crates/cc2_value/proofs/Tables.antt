-- Tables, merged field by field.
use Rattle.std.proofs.Common.{◌≡◌, ℕ, Bool, true, false, List, [], ◌∷◌, Option, None, Ok, Err, refl, if◌then◌else◌, ◌∙◌, ap, inl, inr}
use Rattle.std.specs.Prelude.{filter_map}
use Rattle.std.specs.Str.{bytes_eq}
use Rattle.cc2_error.specs.declared.error.Error.{Error}
use Rattle.cc2_error.specs.declared.error.Shape.{Shape}
use Rattle.cc2_error.specs.Causes.{mixed, refusal_of, plain}
use Rattle.cc2_error.specs.Below.{cause_below, IsBelow}
use Rattle.cc2_value.specs.Cells.{Cell, Setting, field, name, KeyPath, joined, cells_at, IsPointwise}
use Rattle.cc2_value.specs.Refusals.{IsRefused, IsRefusedBelow}
use Rattle.cc2_value.specs.Shown.{Field, field_at, fields_at, table_at, single_at}
use Rattle.cc2_value.specs.Visits.{FieldsAbsent, FieldsJoined, IsFieldRefused}

either_joined : {A : Type 0} (b : Bool) (u v : A → Option Cell) (xs : List A) (c : A) → joined (filter_map u xs) ≡ Ok (u c) → joined (filter_map v xs) ≡ Ok (v c)
    → joined (filter_map (λ x. if b then u x else v x) xs) ≡ Ok (if b then u c else v c)
either_joined true u v xs c h k = h
either_joined false u v xs c h k = k

nothing_joined : {A : Type 0} (xs : List A) → filter_map {Y = Cell} (λ x. None) xs ≡ []
nothing_joined [] = refl
nothing_joined (x ∷ xs) = nothing_joined xs

pub field_joined : {A : Type 0} (fs : List (Field A)) (xs : List A) (c : A) → FieldsJoined fs xs c
    → (k : List ℕ) (p : KeyPath) → joined (filter_map (λ x. field_at fs x k p) xs) ≡ Ok (field_at fs c k p)
field_joined [] xs c h k p = (λ i. joined (nothing_joined xs i))
field_joined (f ∷ fs) xs c h k p = either_joined (bytes_eq f.key k) (λ x. f.cells x p) (λ x. field_at fs x k p) xs c (h.0 p) (field_joined fs xs c h.1 k p)

-- a table whose fields are merged is merged
pub table_joined : {A : Type 0} (member : Bool) (fs : List (Field A)) (x y c : A) → FieldsJoined fs (x ∷ y ∷ []) c → IsPointwise (table_at member fs) (x ∷ y ∷ []) c
table_joined true fs x y c h [] = refl
table_joined false fs x y c h [] = refl
table_joined member fs x y c h (field k ∷ p) = field_joined fs (x ∷ y ∷ []) c h k p
table_joined member fs x y c h (name k ∷ p) = refl

-- a table none of whose fields shows a cell shows none
either_none : (b : Bool) (u v : Option Cell) → u ≡ None → v ≡ None → (if b then u else v) ≡ None
either_none true u v h k = h
either_none false u v h k = k

field_absent : {A : Type 0} (fs : List (Field A)) (a : A) → FieldsAbsent fs a → (k : List ℕ) (p : KeyPath) → field_at fs a k p ≡ None
field_absent [] a h k p = refl
field_absent (f ∷ fs) a h k p = either_none (bytes_eq f.key k) (f.cells a p) (field_at fs a k p) (h.0 p) (field_absent fs a h.1 k p)

pub fields_absent : {A : Type 0} (fs : List (Field A)) (a : A) → FieldsAbsent fs a → (p : KeyPath) → fields_at fs a p ≡ None
fields_absent fs a h [] = refl
fields_absent fs a h (field k ∷ p) = field_absent fs a h k p
fields_absent fs a h (name k ∷ p) = refl

-- the refusal of a field is one of its table
pub refused_field : {A : Type 0} (look : A → KeyPath → Option Cell) (xs : List A) (key : List ℕ) (e : Error) → IsRefusedBelow key (λ a p. look a (field key ∷ p)) xs e → IsRefused look xs e
refused_field look xs key e (inl m) = inl m
refused_field look xs key e (inr h) = inr (field key ∷ h.0, h.1, h.2, h.3)

-- the same of a table's
pub refused_fields : {A : Type 0} (member : Bool) (fs : List (Field A)) (xs : List A) (e : Error) → IsFieldRefused fs xs e → IsRefused (table_at member fs) xs e
refused_fields member fs xs e h = refused_field (table_at member fs) xs h.0 e h.1

-- what is refused below a key is refused at the key
pub refused_below : {A : Type 0} (look : A → KeyPath → Option Cell) (xs : List A) (key : List ℕ) (inner outer : Error)
    → IsBelow key (refusal_of inner) (refusal_of outer) → IsRefused look xs inner → IsRefusedBelow key look xs outer
refused_below look xs key inner outer (inl m) h = inl m
refused_below look xs key inner outer (inr is) (inl m) = inl (is ∙ ap (λ r. record { cause = cause_below key r.cause; context = r.context }) m)
refused_below look xs key inner outer (inr is) (inr h) = inr (h.0, h.1, h.2, is ∙ ap (λ r. record { cause = cause_below key r.cause; context = r.context }) h.3)

-- two shapes meet at the values themselves
pub refused_here : {A : Type 0} (look : A → KeyPath → Option Cell) (xs : List A) (expected found : Shape) (e : Error)
    → joined (cells_at look [] xs) ≡ Err (expected, found) → refusal_of e ≡ plain (mixed [] expected found)
    → IsRefused look xs e
refused_here look xs expected found e h is = inr ([], (expected, found), h, is)

-- a value that both have keeps the stronger
pub kept : {A : Type 0} (setting : A → Setting) (x y : A) → IsPointwise (single_at setting) (x ∷ y ∷ []) x
kept setting x y [] = refl
kept setting x y (k ∷ p) = refl
