-- Tables whose fields are gathered.
use Rattle.std.proofs.Common.{if◌then◌else◌, ◌≡◌, ℕ, Bool, true, false, List, [], ◌∷◌, Option, None, Ok, refl, ap, ◌∙◌, inl, inr, option_map}
use Rattle.std.specs.Str.{bytes_eq}
use Rattle.cc2_error.specs.Below.{IsBelow}
use Rattle.cc2_error.specs.Causes.{refusal_of}
use Rattle.cc2_error.specs.declared.error.Error.{Error}
use Rattle.cc2_value.specs.Cells.{Cell, KeyPath, field, name, joined, present}
use Rattle.cc2_value.specs.Refusals.{IsRefused}
use Rattle.cc2_value.specs.Shown.{Field, field_at, table_at}
use Rattle.cc2_value.specs.Visits.{Look, AllMade, AllGiven, IsRefusedAt}
use Rattle.cc2_value.specs.Ways.{Way}
use Rattle.cc2_value.proofs.TwoCells.{both_none}
use Rattle.cc2_value.proofs.Tables.{refused_below}
use Rattle.cc2_value.specs.Gathered.{reversed, reversed_look, IsGatheredIn, IsUngathered, IsUngatheredBelow, IsReversed, IsReversedIn, FieldsGathered, FieldsReversed, IsFieldUngathered, IsGathered}

-- a weaker field that shows nothing
pub blank_gathered : (own other : Look) → ((p : KeyPath) → other p ≡ None) → IsGatheredIn own other own
blank_gathered own other h p = ap (λ o. joined (present (reversed_look own p ∷ o ∷ []))) (h p) ∙ both_none (reversed_look own p)

-- a field that doesn't merge, seen from the table
pub ungathered_below : (own other : Look) (key : List ℕ) (inner outer : Error)
    → IsBelow key (refusal_of inner) (refusal_of outer) → IsRefused (λ l. l) (reversed_look own ∷ other ∷ []) inner → IsUngatheredBelow key own other outer
ungathered_below own other key inner outer is h = refused_below (λ l. l) (reversed_look own ∷ other ∷ []) key inner outer is h

-- what the visits make of whole tables
abbrev pub Gathers : List ℕ → Way → Look → Look → Look → Type 0
Gathers k way own other new = IsGatheredIn own other new

pub fields_gathered : {A : Type 0} (fs : List (Field A)) (a b c : A) → AllMade fs Gathers a b c → FieldsGathered fs a b c
fields_gathered [] a b c h = tt
fields_gathered (f ∷ fs) a b c h = (h.0.made, fields_gathered fs a b c h.1)

pub field_ungathered : {A : Type 0} (fs : List (Field A)) (a b : A) (k : List ℕ) (e : Error)
    → IsRefusedAt fs (λ k way own other e. IsUngatheredBelow k own other e) a b k e → IsFieldUngathered fs a b e
field_ungathered fs a b k e h = (k, h)

pub fields_reversed : {A : Type 0} (fs : List (Field A)) (a c : A) → AllGiven fs IsReversedIn a c → FieldsReversed fs a c
fields_reversed [] a c h = tt
fields_reversed (f ∷ fs) a c h = (h.0.given, fields_reversed fs a c h.1)

-- of two fields the one at the key
either_gathered : (b : Bool) (u v w x y z : Option Cell) → joined (present (option_map reversed u ∷ v ∷ [])) ≡ Ok (option_map reversed w) → joined (present (option_map reversed x ∷ y ∷ [])) ≡ Ok (option_map reversed z)
    → joined (present (option_map reversed (if b then u else x) ∷ (if b then v else y) ∷ [])) ≡ Ok (option_map reversed (if b then w else z))
either_gathered true u v w x y z h k = h
either_gathered false u v w x y z h k = k

pub field_gathered : {A : Type 0} (fs : List (Field A)) (a b c : A) → FieldsGathered fs a b c
    → (k : List ℕ) (p : KeyPath) → joined (present (option_map reversed (field_at fs a k p) ∷ field_at fs b k p ∷ [])) ≡ Ok (option_map reversed (field_at fs c k p))
field_gathered [] a b c h k p = refl
field_gathered (f ∷ fs) a b c h k p =
    either_gathered (bytes_eq f.key k) (f.cells a p) (f.cells b p) (f.cells c p) (field_at fs a k p) (field_at fs b k p) (field_at fs c k p) (h.0 p) (field_gathered fs a b c h.1 k p)

either_reversed : (b : Bool) (u v x y : Option Cell) → v ≡ option_map reversed u → y ≡ option_map reversed x → (if b then v else y) ≡ option_map reversed (if b then u else x)
either_reversed true u v x y h k = h
either_reversed false u v x y h k = k

pub field_reversed : {A : Type 0} (fs : List (Field A)) (a c : A) → FieldsReversed fs a c → (k : List ℕ) (p : KeyPath) → field_at fs c k p ≡ option_map reversed (field_at fs a k p)
field_reversed [] a c h k p = refl
field_reversed (f ∷ fs) a c h k p = either_reversed (bytes_eq f.key k) (f.cells a p) (f.cells c p) (field_at fs a k p) (field_at fs c k p) (h.0 p) (field_reversed fs a c h.1 k p)

-- a table whose fields are gathered is gathered
pub table_gathered : {A : Type 0} (member : Bool) (fs : List (Field A)) (a b c : A) → FieldsGathered fs a b c → IsGathered (table_at member fs) a b c
table_gathered true fs a b c h [] = refl
table_gathered false fs a b c h [] = refl
table_gathered member fs a b c h (field k ∷ p) = field_gathered fs a b c h k p
table_gathered member fs a b c h (name k ∷ p) = refl

pub table_reversed : {A : Type 0} (member : Bool) (fs : List (Field A)) (a c : A) → FieldsReversed fs a c → IsReversed (table_at member fs) a c
table_reversed true fs a c h [] = refl
table_reversed false fs a c h [] = refl
table_reversed member fs a c h (field k ∷ p) = field_reversed fs a c h k p
table_reversed member fs a c h (name k ∷ p) = refl

pub table_ungathered : {A : Type 0} (member : Bool) (fs : List (Field A)) (a b : A) (e : Error) → IsFieldUngathered fs a b e → IsUngathered (table_at member fs) a b e
table_ungathered member fs a b e (k, inl m) = inl m
table_ungathered member fs a b e (k, inr h) = inr (field k ∷ h.0, h.1, h.2, h.3)
