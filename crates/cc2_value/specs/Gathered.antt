-- What is gathered of a list of values, the strongest first. While a list of texts grows it is kept from the last item
-- to the first: what a weaker value adds is appended. At the end each list is reversed once.
use Rattle.std.specs.Prelude.{◌≡◌, ℕ, Bool, true, false, List, [], ◌∷◌, reverse, Option, option_map, Ok}
use Rattle.cc2_error.specs.declared.error.Error.{Error}
use Rattle.cc2_value.specs.Cells.{KeyPath, Cell, Single, Text, Items, Joined, Entry, Undecoded, Marks, IsPointwise, joined, present, cells_at}
use Rattle.cc2_value.specs.Places.{IsMixedAfter}
use Rattle.cc2_value.specs.Refusals.{IsRefused, IsRefusedBelow}
use Rattle.cc2_value.specs.Shown.{Field, field_at}
use Rattle.cc2_value.specs.Visits.{Look}
use Rattle.cc2_value.specs.declared.merge_fault.MergeAllFault.{MergeAllFault}

-- a cell with its list reversed
abbrev pub reversed : Cell → Cell
reversed (Single s) = Single s
reversed (Text ws) = Text ws
reversed (Items ws) = Items (reverse ws)
reversed (Joined ss) = Joined (reverse ss)
reversed Entry = Entry
reversed Undecoded = Undecoded
reversed (Marks b d) = Marks b d

-- what is shown, with each list reversed
abbrev pub reversed_look : Look → Look
reversed_look l p = option_map reversed (l p)

abbrev pub reversed_at : {A : Type 0} → (A → KeyPath → Option Cell) → A → KeyPath → Option Cell
reversed_at look a p = reversed_look (look a) p

-- what was gathered, and a weaker value with it, are gathered
abbrev pub IsGatheredIn : Look → Look → Look → Type 0
IsGatheredIn old low new = IsPointwise (λ look. look) (reversed_look old ∷ low ∷ []) (reversed_look new)

abbrev pub IsGathered : {A : Type 0} → (A → KeyPath → Option Cell) → A → A → A → Type 0
IsGathered look old low new = IsGatheredIn (look old) (look low) (look new)

-- what was gathered and a weaker value don't merge
abbrev pub IsUngathered : {A : Type 0} → (A → KeyPath → Option Cell) → A → A → Error → Type 0
IsUngathered look old low e = IsRefused (λ l. l) (reversed_at look old ∷ look low ∷ []) e

-- the same below a key
abbrev pub IsUngatheredBelow : List ℕ → Look → Look → Error → Type 0
IsUngatheredBelow key old low e = IsRefusedBelow key (λ look. look) (reversed_look old ∷ low ∷ []) e

-- each list is reversed
abbrev pub IsReversed : {A : Type 0} → (A → KeyPath → Option Cell) → A → A → Type 0
IsReversed look old new = (p : KeyPath) → look new p ≡ reversed_at look old p

abbrev pub IsReversedIn : Look → Look → Type 0
IsReversedIn old new = (p : KeyPath) → new p ≡ reversed_look old p

-- each field is gathered, or reversed
abbrev pub FieldsGathered : {A : Type 0} → List (Field A) → A → A → A → Type 0
FieldsGathered [] a b c = Unit {0}
FieldsGathered (f ∷ fs) a b c = IsGatheredIn (f.cells a) (f.cells b) (f.cells c) × FieldsGathered fs a b c

abbrev pub FieldsReversed : {A : Type 0} → List (Field A) → A → A → Type 0
FieldsReversed [] a c = Unit {0}
FieldsReversed (f ∷ fs) a c = IsReversedIn (f.cells a) (f.cells c) × FieldsReversed fs a c

-- a field doesn't merge, below its key
abbrev pub IsFieldUngathered : {A : Type 0} → List (Field A) → A → A → Error → Type 0
IsFieldUngathered fs a b e = (k : List ℕ) × IsUngatheredBelow k (field_at fs a k) (field_at fs b k) e

-- no list is shown
abbrev pub HasNoList : {A : Type 0} → (A → KeyPath → Option Cell) → Type 0
HasNoList {A} look = (a : A) (p : KeyPath) → reversed_at look a p ≡ look a p

-- a cell with its list reversed, where lists are
abbrev pub as_kept : Bool → Option Cell → Option Cell
as_kept true o = option_map reversed o
as_kept false o = o

-- what is kept of a list, and the next value with it, are kept; lists are reversed as the first flag says, and then
-- as the second one
abbrev pub IsGatheredNext : {A : Type 0} → (A → KeyPath → Option Cell) → Bool → A → A → Bool → A → Type 0
IsGatheredNext look was old low now new = (p : KeyPath) → joined (present (as_kept was (look old p) ∷ look low p ∷ [])) ≡ Ok (as_kept now (look new p))

-- the next value doesn't merge with what is kept
abbrev pub IsMixedNext : {A : Type 0} → (A → KeyPath → Option Cell) → Bool → A → A → ℕ → MergeAllFault → Type 0
IsMixedNext look was old low place f = IsMixedAfter (λ l. l) ((λ p. as_kept was (look old p)) ∷ look low ∷ []) place f

-- each list is reversed where the flag says so
abbrev pub IsReversedIf : {A : Type 0} → (A → KeyPath → Option Cell) → Bool → A → A → Type 0
IsReversedIf look was old new = (p : KeyPath) → look new p ≡ as_kept was (look old p)

-- the values xs are kept
abbrev pub AreKept : {A : Type 0} → (A → KeyPath → Option Cell) → Bool → List A → A → Type 0
AreKept look is xs c = (p : KeyPath) → joined (cells_at look p xs) ≡ Ok (as_kept is (look c p))
