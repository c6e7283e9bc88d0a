-- What is found in the tables of a file.
use Rattle.std.specs.Prelude.{ℕ, List, [], ◌∷◌, ◌++◌, map, Option, Some, None}
use Rattle.toml.specs.Data.{Data, table, Members, no_members, member}
use Rattle.cc2_findings.specs.declared.place.Place.{Place}
use Rattle.cc2_findings.specs.Kinds.{is_table}
use Rattle.cc2_findings.specs.Places.{opened}

-- the keys that lead to what is found, and what it is
abbrev pub Found : Type 0 → Type 0
Found A = List (List ℕ) × A

abbrev pub below_key : {A : Type 0} → List ℕ → List (Found A) → List (Found A)
below_key key found = map (λ f. (key ∷ f.0, f.1)) found

abbrev pub own : {A : Type 0} → List ℕ → Option A → List (Found A)
own key None = []
own key (Some kind) = (key ∷ [], kind) ∷ []

-- what is found at a place that may be none
abbrev pub found_at : {A : Type 0} → (Place → List (Found A)) → Option Place → List (Found A)
found_at found None = []
found_at found (Some place) = found place

module _ {A : Type 0} (look : Place → List ℕ → Data → Option A) where
  abbrev mutual
    -- what is found in a table: at each key in turn, at it and below it
    pub findings_in : Place → Members → List (Found A)
    findings_in place no_members = []
    findings_in place (member k d ms) =
        (own k (look place k d) ++ below_key k (found_at (λ q. findings_below q d) (opened place k (is_table d)))) ++ findings_in place ms

    -- of a value
    pub findings_below : Place → Data → List (Found A)
    findings_below place (table ms) = findings_in place ms
    findings_below place _ = []

  -- below a key whose value is at this place
  abbrev pub findings_under : Option Place → List ℕ → Data → List (Found A)
  findings_under place k d = below_key k (found_at (λ q. findings_below q d) place)

  -- at a key of a table, and below it
  abbrev pub findings_at : Place → List ℕ → Data → List (Found A)
  findings_at place k d = own k (look place k d) ++ findings_under (opened place k (is_table d)) k d
