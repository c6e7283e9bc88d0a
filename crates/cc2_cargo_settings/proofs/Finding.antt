-- What is at a path, table by table.
use Rattle.std.proofs.Common.{◌≡◌, ℕ, List, [], ◌∷◌, String, Global, BTreeMap, Option, Some, None, length, map, arith, true, false, true≢false, refl, ap, ◌∙◌}
use Rattle.std.specs.Prelude.{◌==◌}
use Rattle.std.proofs.lemmas.Bool.{eqb-true}
use Rattle.std.specs.BTreeMap.{get_by_text}
use Rattle.cc2_cargo.specs.Raw.{Path, RawCell, in_member, below_raw, own_cell, raw_at, raw_members_at}
use Rattle.cc2_cargo.specs.declared.raw.Raw.{Raw, out-Raw}
use Rattle.cc2_cargo.specs.declared.raw.Raw.TheViews.{Table}
use Rattle.cc2_cargo.proofs.Raws.{raw_table, table_here}
use Rattle.cc2_cargo_settings.specs.Found.{Lookup, at, blocked, lookup_at, nowhere, reached, through}

abbrev Settings : Type 0
Settings = BTreeMap (String Global) Raw

-- paths of at least one key lead to the same
found_same : (f g : Path → Option RawCell) → ((k : List ℕ) (p : Path) → f (k ∷ p) ≡ g (k ∷ p)) → (path : Path) → lookup_at f path ≡ lookup_at g path
found_same f g same [] = refl
found_same f g same (k ∷ []) = ap reached (same k [])
found_same f g same (k ∷ (l ∷ path)) =
    (λ i. through (same k [] i) (found_same (λ p. f (k ∷ p)) (λ p. g (k ∷ p)) (λ j p. same k (j ∷ p)) (l ∷ path) i))

pub none_there : (m : Settings) (k : List ℕ) (path : Path) → get_by_text m k ≡ None → lookup_at (raw_members_at m) (k ∷ path) ≡ nowhere
none_there m k [] none = ap (λ o. reached (in_member (below_raw []) o)) none
none_there m k (l ∷ path) none = ap (λ o. through (in_member (below_raw []) o) (lookup_at (λ p. raw_members_at m (k ∷ p)) (l ∷ path))) none

pub last_there : (m : Settings) (k : List ℕ) (r : Raw) → get_by_text m k ≡ Some r → lookup_at (raw_members_at m) (k ∷ []) ≡ at (own_cell (out-Raw r))
last_there m k r is = ap (λ o. reached (in_member (below_raw []) o)) is

pub table_there : (m below : Settings) (k : List ℕ) (r : Raw) (l : List ℕ) (path : Path) → get_by_text m k ≡ Some r → r ≡ Table below
    → lookup_at (raw_members_at m) (k ∷ (l ∷ path)) ≡ lookup_at (raw_members_at below) (l ∷ path)
table_there m below k r l path is table =
    ap (λ o. through o (lookup_at (λ p. raw_members_at m (k ∷ p)) (l ∷ path))) (ap (in_member (below_raw [])) is ∙ table_here r below table)
    ∙ found_same (λ p. raw_members_at m (k ∷ p)) (raw_members_at below)
    (λ j p. ap (in_member (below_raw (j ∷ p))) is ∙ ap (λ (x : Raw). raw_at x (j ∷ p)) table ∙ raw_table below (j ∷ p)) (l ∷ path)

pub value_there : (m : Settings) (k : List ℕ) (r : Raw) (c : RawCell) (l : List ℕ) (path : Path) → get_by_text m k ≡ Some r → raw_at r [] ≡ Some c
    → through (Some c) nowhere ≡ blocked → ((f : Lookup) → through (Some c) f ≡ through (Some c) nowhere)
    → lookup_at (raw_members_at m) (k ∷ (l ∷ path)) ≡ blocked
value_there m k r c l path is at_it ends same =
    ap (λ o. through o (lookup_at (λ p. raw_members_at m (k ∷ p)) (l ∷ path))) (ap (in_member (below_raw [])) is ∙ at_it)
    ∙ same (lookup_at (λ p. raw_members_at m (k ∷ p)) (l ∷ path)) ∙ ends

-- more keys follow
abbrev pub AreMore : Path → Type 0
AreMore [] = ⊥
AreMore (k ∷ path) = Unit {0}

pub go_below : (m below : Settings) (k : List ℕ) (r : Raw) (path : Path) → AreMore path → get_by_text m k ≡ Some r → r ≡ Table below
    → lookup_at (raw_members_at m) (k ∷ path) ≡ lookup_at (raw_members_at below) path
go_below m below k r [] more is table = absurd more
go_below m below k r (l ∷ path) more is table = table_there m below k r l path is table

pub go_blocked : (m : Settings) (k : List ℕ) (r : Raw) (c : RawCell) (path : Path) → AreMore path → get_by_text m k ≡ Some r → raw_at r [] ≡ Some c
    → through (Some c) nowhere ≡ blocked → ((f : Lookup) → through (Some c) f ≡ through (Some c) nowhere)
    → lookup_at (raw_members_at m) (k ∷ path) ≡ blocked
go_blocked m k r c [] more is at_it ends same = absurd more
go_blocked m k r c (l ∷ path) more is at_it ends same = value_there m k r c l path is at_it ends same

pub are_more : {A : Type 0} (f : A → List ℕ) (xs : List A) → (length xs == 0) ≡ false → AreMore (map f xs)
are_more f [] h = absurd (true≢false h)
are_more f (x ∷ xs) h = tt

pub none_more : {A : Type 0} (f : A → List ℕ) (xs : List A) → (length xs == 0) ≡ true → map f xs ≡ []
none_more f [] h = refl
none_more f (x ∷ xs) h = absurd (omega (arith, eqb-true (length (x ∷ xs)) 0 h))
