-- What a ranking makes of a setting depends on the variables' values and on what was there, and on nothing else.
use Rattle.std.proofs.Common.{◌≡◌, ℕ, Bool, true, false, cond, List, [], ◌∷◌, Option, Some, None, refl, ap, ◌∙◌}
use Rattle.std.specs.Str.{bytes_eq}
use Rattle.cc2_value.specs.Cells.{field, name, KeyPath, Cell}
use Rattle.cc2_env.specs.Kept.{Variables}
use Rattle.cc2_env.specs.Ranked.{Named, set_or, first_set, read_cell, read_refusals, Ranking, unset, by, Row, row_at, by_field}
use Rattle.cc2_env.specs.Ranked.{MemberRow, rows_of, named_in, entry_or, by_member, by_name, ranking_or, where_absent}
use Rattle.cc2_env.specs.Overrides.{is_either_set, is_overridden}
use Rattle.cc2_env.specs.Ranks.{config_ranks}

-- where the variables have the same values and the same was there, the same comes of it
pub record Agrees (r : Ranking) : Type 0 where
  pub cells : (vars ws : Variables) (f g : KeyPath → Option Cell) → ((n : List ℕ) → vars n ≡ ws n)
      → ((p : KeyPath) → f p ≡ g p) → (p : KeyPath) → r.cells vars f p ≡ r.cells ws g p
  pub refusals : (vars ws : Variables) (f g : KeyPath → Option Cell) → ((n : List ℕ) → vars n ≡ ws n)
      → ((p : KeyPath) → f p ≡ g p) → (p : KeyPath) → r.refusals vars f p ≡ r.refusals ws g p

abbrev pub AllAgree : List Row → Type 0
AllAgree [] = Unit {0}
AllAgree (row ∷ rows) = Agrees row.1 × AllAgree rows

first_same : (vars ws : Variables) → ((n : List ℕ) → vars n ≡ ws n) → (ns : List Named)
    → first_set vars ns ≡ first_set ws ns
first_same vars ws same [] = refl
first_same vars ws same (n ∷ ns) =
    ap (λ v. set_or n v (first_set vars ns)) (same n.name) ∙ ap (set_or n (ws n.name)) (first_same vars ws same ns)

pub unset_agrees : Agrees unset
unset_agrees = record { cells = λ vars ws f g same stood p. stood p; refusals = λ vars ws f g same stood p. refl }

pub by_agrees : (ns : List Named) → Agrees (by ns)
by_agrees ns = record {
  cells = λ vars ws f g same stood p. ap (λ x. read_cell x (f p) p) (first_same vars ws same ns)
      ∙ ap (λ was. read_cell (first_set ws ns) was p) (stood p);
  refusals = λ vars ws f g same stood p. ap read_refusals (first_same vars ws same ns);
}

either_agrees : (b : Bool) (r s : Ranking) → Agrees r → Agrees s → Agrees (cond b r s)
either_agrees true r s h k = h
either_agrees false r s h k = k

row_agrees : (rows : List Row) → AllAgree rows → (k : List ℕ) → Agrees (row_at rows k)
row_agrees [] h k = unset_agrees
row_agrees (row ∷ rows) h k = either_agrees (bytes_eq row.0 k) row.1 (row_at rows k) h.0 (row_agrees rows h.1 k)

module _ (rows : List Row) (h : AllAgree rows) (vars ws : Variables) (f g : KeyPath → Option Cell)
    (same : (n : List ℕ) → vars n ≡ ws n) (stood : (p : KeyPath) → f p ≡ g p) where
  field_cells_agree : (p : KeyPath) → (by_field rows).cells vars f p ≡ (by_field rows).cells ws g p
  field_cells_agree [] = stood []
  field_cells_agree (field k ∷ p) =
      (row_agrees rows h k).cells vars ws (λ q. f (field k ∷ q)) (λ q. g (field k ∷ q)) same
      (λ q. stood (field k ∷ q)) p
  field_cells_agree (name k ∷ p) = stood (name k ∷ p)

  field_refusals_agree : (p : KeyPath) → (by_field rows).refusals vars f p ≡ (by_field rows).refusals ws g p
  field_refusals_agree [] = refl
  field_refusals_agree (field k ∷ p) =
      (row_agrees rows h k).refusals vars ws (λ q. f (field k ∷ q)) (λ q. g (field k ∷ q)) same
      (λ q. stood (field k ∷ q)) p
  field_refusals_agree (name k ∷ p) = refl

pub fields_agree : (rows : List Row) → AllAgree rows → Agrees (by_field rows)
fields_agree rows h = record { cells = field_cells_agree rows h; refusals = field_refusals_agree rows h }

module _ (at : List ℕ → Ranking) (h : (k : List ℕ) → Agrees (at k)) (vars ws : Variables) (f g : KeyPath → Option Cell)
    (same : (n : List ℕ) → vars n ≡ ws n) (stood : (p : KeyPath) → f p ≡ g p) where
  name_cells_agree : (p : KeyPath) → (by_name at).cells vars f p ≡ (by_name at).cells ws g p
  name_cells_agree [] = stood []
  name_cells_agree (field k ∷ p) = stood (field k ∷ p)
  name_cells_agree (name k ∷ p) =
      (h k).cells vars ws (λ q. f (name k ∷ q)) (λ q. g (name k ∷ q)) same (λ q. stood (name k ∷ q)) p

  name_refusals_agree : (p : KeyPath) → (by_name at).refusals vars f p ≡ (by_name at).refusals ws g p
  name_refusals_agree [] = refl
  name_refusals_agree (field k ∷ p) = refl
  name_refusals_agree (name k ∷ p) =
      (h k).refusals vars ws (λ q. f (name k ∷ q)) (λ q. g (name k ∷ q)) same (λ q. stood (name k ∷ q)) p

pub names_agree : (at : List ℕ → Ranking) → ((k : List ℕ) → Agrees (at k)) → Agrees (by_name at)
names_agree at h = record { cells = name_cells_agree at h; refusals = name_refusals_agree at h }

members_agree : (rows : List MemberRow) → AllAgree (rows_of rows)
members_agree [] = tt
members_agree (row ∷ rows) = (by_agrees row.1, members_agree rows)

module _ (rows : List MemberRow) (vars ws : Variables) (f g : KeyPath → Option Cell)
    (same : (n : List ℕ) → vars n ≡ ws n) (stood : (p : KeyPath) → f p ≡ g p) where
  member_cells_agree : (p : KeyPath) → (by_member rows).cells vars f p ≡ (by_member rows).cells ws g p
  member_cells_agree [] = ap (λ x. entry_or x (f [])) (first_same vars ws same (named_in rows))
      ∙ ap (entry_or (first_set ws (named_in rows))) (stood [])
  member_cells_agree (k ∷ p) = field_cells_agree (rows_of rows) (members_agree rows) vars ws f g same stood (k ∷ p)

pub member_agrees : (rows : List MemberRow) → Agrees (by_member rows)
member_agrees rows = record {
  cells = member_cells_agree rows;
  refusals =
      field_refusals_agree (rows_of rows) (members_agree rows);
}

or_agrees : (was : Option Cell) (r : Ranking) → Agrees r → Agrees (ranking_or was r)
or_agrees None r h = h
or_agrees (Some c) r h = unset_agrees

pub where_absent_agrees : (r : Ranking) → Agrees r → Agrees (where_absent r)
where_absent_agrees r h = record {
  cells = λ vars ws f g same stood p. ap (λ was. (ranking_or was r).cells vars f p) (stood [])
      ∙ (or_agrees (g []) r h).cells vars ws f g same stood p;
  refusals = λ vars ws f g same stood p. ap (λ was. (ranking_or was r).refusals vars f p) (stood [])
      ∙ (or_agrees (g []) r h).refusals vars ws f g same stood p;
}

-- the same of one variable, of two and of three, whose names are read off the ranking
one : (a : Named) → Agrees (by (a ∷ []))
one a = by_agrees (a ∷ [])

two : (a b : Named) → Agrees (by (a ∷ (b ∷ [])))
two a b = by_agrees (a ∷ (b ∷ []))

three : (a b c : Named) → Agrees (by (a ∷ (b ∷ (c ∷ []))))
three a b c = by_agrees (a ∷ (b ∷ (c ∷ [])))

-- of every table
pub tables_agree : AllAgree config_ranks
tables_agree =
    search (one, two, three, unset_agrees, fields_agree, names_agree, member_agrees, where_absent_agrees) depth 40

either_same : (vars ws : Variables) → ((n : List ℕ) → vars n ≡ ws n) → (n m : List ℕ)
    → is_either_set vars n m ≡ is_either_set ws n m
either_same vars ws same n m = rw (same n, same m) refl

pub overridden_same : (vars ws : Variables) → ((n : List ℕ) → vars n ≡ ws n) → is_overridden vars ≡ is_overridden ws
overridden_same vars ws same = rw (either_same vars ws same _ _, either_same vars ws same _ _) refl
