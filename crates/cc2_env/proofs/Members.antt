-- A member of a map, by its fields' variables; and the map, as a loop over the variables sets it member by member.
use Rattle.std.proofs.Common.{◌≡◌, ℕ, Bool, true, false, cond, List, [], ◌∷◌, ◌++◌, Option, Some, None, arith, refl, sym, ap, subst, ◌∙◌, inl, inr, ◌⊎◌}
use Rattle.std.specs.Prelude.{◌||◌}
use Rattle.std.specs.List.{Contains, list_any}
use Rattle.std.specs.Str.{bytes_eq}
use Rattle.cc2_error.specs.Causes.{Refusal, refusal_of}
use Rattle.cc2_error.specs.Outcomes.{IsWantOfMemory}
use Rattle.cc2_error.specs.declared.error.Error.{Error}
use Rattle.cc2_value.specs.Cells.{field, name, KeyPath, Cell}
use Rattle.cc2_value.specs.Shown.{Field, option_at, fields_at, entry_at}
use Rattle.cc2_value.proofs.Found.{same_keys}
use Rattle.cc2_env.specs.Kept.{Variables}
use Rattle.cc2_env.specs.Ranked.{Named, set_or, first_set, read_cell, read_refusals, Ranking, by, row_at, by_field, MemberRow, rows_of, named_in, entry_or, by_member, IsRanked, IsRankCause}

-- the variables of a field
abbrev pub names_at : List MemberRow → List ℕ → List Named
names_at [] k = []
names_at (row ∷ rows) k = cond (bytes_eq row.0 k) row.1 (names_at rows k)

pub row_named : (rows : List MemberRow) (k : List ℕ) → row_at (rows_of rows) k ≡ by (names_at rows k)
row_named [] k = refl
row_named (row ∷ rows) k = either (bytes_eq row.0 k) (row_at (rows_of rows) k) (names_at rows k) (row_named rows k)
  where
    either : (b : Bool) (r : Ranking) (ns : List Named) → r ≡ by ns → cond b (by row.1) r ≡ by (cond b row.1 ns)
    either true r ns h = refl
    either false r ns h = h

module _ (vars : Variables) where
  -- what a field's variables are
  abbrev pub set_at : List MemberRow → List ℕ → Option (Named × List ℕ)
  set_at rows k = first_set vars (names_at rows k)

  -- the fields of v are what the variables make of those of u, and none that is looked at is refused
  abbrev pub IsSet : List MemberRow → (KeyPath → Option Cell) → (KeyPath → Option Cell) → Type 0
  IsSet rows u v = ((k : List ℕ) (p : KeyPath) → v (field k ∷ p) ≡ read_cell (set_at rows k) (u (field k ∷ p)) p)
      × ((k : List ℕ) → read_refusals (set_at rows k) ≡ [])

  pub set_of_ranked : {A : Type 0} (look : A → KeyPath → Option Cell) (rows : List MemberRow) (a b : A)
      → IsRanked look (by_field (rows_of rows)) vars a b → IsSet rows (look a) (look b)
  set_of_ranked look rows a b h = (
    λ k p. h.0 (field k ∷ p) ∙ ap (λ (r : Ranking). r.cells vars (λ q. look a (field k ∷ q)) p) (row_named rows k),
    λ k. sym (ap (λ (r : Ranking). r.refusals vars (λ q. look a (field k ∷ q)) []) (row_named rows k))
        ∙ h.1 (field k ∷ []),
  )

  read_again : (f : Option (Named × List ℕ)) (c : Option Cell) (p : KeyPath)
      → read_cell f (read_cell f c p) p ≡ read_cell f c p
  read_again None c p = refl
  read_again (Some f) c p = refl

  -- set twice is as once
  pub set_again : (rows : List MemberRow) (u v w : KeyPath → Option Cell) → IsSet rows u v → IsSet rows v w
      → IsSet rows u w
  set_again rows u v w h k = (
    λ f p. k.0 f p ∙ ap (λ c. read_cell (set_at rows f) c p) (h.0 f p)
        ∙ read_again (set_at rows f) (u (field f ∷ p)) p,
    h.1,
  )

  set_or_none : (n : Named) (o : Option (List ℕ)) (rest : Option (Named × List ℕ)) → set_or n o rest ≡ None
      → rest ≡ None
  set_or_none n None rest h = h
  set_or_none n (Some v) rest h = cc

  past_none : (n : Named) (o : Option (List ℕ)) (rest other : Option (Named × List ℕ)) → set_or n o rest ≡ None
      → other ≡ None → set_or n o other ≡ None
  past_none n None rest other h k = k
  past_none n (Some v) rest other h k = cc

  front_none : (xs ys : List Named) → first_set vars (xs ++ ys) ≡ None → first_set vars xs ≡ None
  front_none [] ys h = refl
  front_none (x ∷ xs) ys h =
      past_none x (vars x.name) (first_set vars (xs ++ ys)) (first_set vars xs) h
      (front_none xs ys (set_or_none x (vars x.name) (first_set vars (xs ++ ys)) h))

  back_none : (xs ys : List Named) → first_set vars (xs ++ ys) ≡ None → first_set vars ys ≡ None
  back_none [] ys h = h
  back_none (x ∷ xs) ys h = back_none xs ys (set_or_none x (vars x.name) (first_set vars (xs ++ ys)) h)

  -- where no variable of the table is set, none of a field is
  pub none_at : (rows : List MemberRow) (k : List ℕ) → first_set vars (named_in rows) ≡ None → set_at rows k ≡ None
  none_at [] k h = refl
  none_at (row ∷ rows) k h =
      either (bytes_eq row.0 k) row.1 (names_at rows k) (front_none row.1 (named_in rows) h)
      (none_at rows k (back_none row.1 (named_in rows) h))
    where
      either : (b : Bool) (xs ys : List Named) → first_set vars xs ≡ None → first_set vars ys ≡ None
          → first_set vars (cond b xs ys) ≡ None
      either true xs ys h k = h
      either false xs ys h k = k

  -- where one of the variables is set, one is the first
  pub first_is : (ns : List Named) (n value : List ℕ) → list_any (λ x. bytes_eq x.name n) ns ≡ true
      → vars n ≡ Some value → (f : Named × List ℕ) × (first_set vars ns ≡ Some f)
  first_is [] n value h set = cc
  first_is (x ∷ ns) n value h set =
      elim (same_keys x.name n) [
        | inl same ↦ ((x, value), ap (λ o. set_or x o (first_set vars ns)) (ap vars same ∙ set))
        | inr (apart, apart') ↦
            let more = first_is ns n value (sym (ap (λ b. b || list_any (λ y. bytes_eq y.name n) ns) apart) ∙ h) set in
            let here = set_some (vars x.name) more.0 in
            (here.0, ap (set_or x (vars x.name)) more.1 ∙ here.1)
      ]
    where
      set_some : (o : Option (List ℕ)) (f : Named × List ℕ) → (g : Named × List ℕ) × (set_or x o (Some f) ≡ Some g)
      set_some None f = (f, refl)
      set_some (Some v) f = ((x, v), refl)

  module _ {V : Type 0} (fs : List (Field V)) where
    -- what is at a name, where f is the first of its variables that was met: untouched, or all that its
    -- variables make of what was there
    abbrev pub IsMemberSoFar : List MemberRow → Option (Named × List ℕ) → Option V → Option V → Type 0
    IsMemberSoFar rows None o o' = o' ≡ o
    IsMemberSoFar rows (Some f) o o' =
        (v : V) × (o' ≡ Some v) × IsSet rows (option_at (fields_at fs) o) (fields_at fs v)

    -- a member that is set by its variables
    pub member_set : (rows : List MemberRow) (f : Option (Named × List ℕ)) (g : Named × List ℕ) (o o' o'' : Option V)
        (v : V) → o'' ≡ Some v
        → IsRanked (option_at (fields_at fs)) (by_field (rows_of rows)) vars o' (Some v) → IsMemberSoFar rows f o o'
        → IsMemberSoFar rows (Some g) o o''
    member_set rows None g o o' o'' v is set so_far = (
      v,
      is,
      subst (λ (x : Option V). IsSet rows (option_at (fields_at fs) x) (fields_at fs v)) so_far
          (set_of_ranked (option_at (fields_at fs)) rows o' (Some v) set),
    )
    member_set rows (Some f) g o o' o'' v is set (w, was, so_far) = (
      v,
      is,
      set_again rows (option_at (fields_at fs) o) (fields_at fs w) (fields_at fs v) so_far
          (subst (λ (x : Option V). IsSet rows (option_at (fields_at fs) x) (fields_at fs v)) was
          (set_of_ranked (option_at (fields_at fs)) rows o' (Some v) set)),
    )

    same_field : (o : Option V) (k : List ℕ) (p : KeyPath) → option_at (fields_at fs) o (field k ∷ p) ≡ option_at
        (entry_at fs) o (field k ∷ p)
    same_field None k p = refl
    same_field (Some v) k p = refl

    no_name : (o : Option V) (k : List ℕ) (p : KeyPath) → option_at (entry_at fs) o (name k ∷ p) ≡ None
    no_name None k p = refl
    no_name (Some v) k p = refl

    module _ (rows : List MemberRow) (o o' : Option V) where
      abbrev look : KeyPath → Option Cell
      look q = option_at (entry_at fs) o q

      at_field : (k : List ℕ) (p : KeyPath) → read_cell (set_at rows k) (look (field k ∷ p)) p ≡ (by_member rows).cells
          vars look (field k ∷ p)
      at_field k p = sym (ap (λ (r : Ranking). r.cells vars (λ q. look (field k ∷ q)) p) (row_named rows k))

      -- when all variables were met, the member is what they make of it
      pub member_cells_are : (f : Option (Named × List ℕ)) → first_set vars (named_in rows) ≡ f
          → IsMemberSoFar rows f o o' → (p : KeyPath) → option_at (entry_at fs) o' p ≡ (by_member rows).cells
          vars look p
      member_cells_are None none same [] =
          ap (λ x. option_at (entry_at fs) x []) same ∙ sym (ap (λ f. entry_or f (look [])) none)
      member_cells_are None none same (field k ∷ p) =
          ap (λ x. option_at (entry_at fs) x (field k ∷ p)) same
          ∙ sym (ap (λ f. read_cell f (look (field k ∷ p)) p) (none_at rows k none)) ∙ at_field k p
      member_cells_are None none same (name k ∷ p) = ap (λ x. option_at (entry_at fs) x (name k ∷ p)) same
      member_cells_are (Some f) met (v, is, set) [] =
          ap (λ x. option_at (entry_at fs) x []) is ∙ sym (ap (λ g. entry_or g (look [])) met)
      member_cells_are (Some f) met (v, is, set) (field k ∷ p) =
          ap (λ x. option_at (entry_at fs) x (field k ∷ p)) is ∙ set.0 k p ∙ ap (λ c. read_cell (set_at rows k) c p)
          (same_field o k p) ∙ at_field k p
      member_cells_are (Some f) met (v, is, set) (name k ∷ p) =
          ap (λ x. option_at (entry_at fs) x (name k ∷ p)) is ∙ sym (no_name o k p)

      pub member_free : (f : Option (Named × List ℕ)) → first_set vars (named_in rows) ≡ f → IsMemberSoFar rows f o o'
          → (p : KeyPath) → (by_member rows).refusals vars look p ≡ []
      member_free None none same [] = refl
      member_free None none same (field k ∷ p) =
          ap (λ (r : Ranking). r.refusals vars (λ q. look (field k ∷ q)) p) (row_named rows k)
          ∙ ap read_refusals (none_at rows k none)
      member_free None none same (name k ∷ p) = refl
      member_free (Some f) met (v, is, set) [] = refl
      member_free (Some f) met (v, is, set) (field k ∷ p) =
          ap (λ (r : Ranking). r.refusals vars (λ q. look (field k ∷ q)) p) (row_named rows k) ∙ set.1 k
      member_free (Some f) met (v, is, set) (name k ∷ p) = refl

    -- what is made of an empty member is made where there was none
    pub member_made : (rows : List MemberRow) (a b : V) → ((p : KeyPath) → fields_at fs a p ≡ None)
        → IsRanked (fields_at fs) (by_field (rows_of rows)) vars a b
        → IsRanked (option_at (fields_at fs)) (by_field (rows_of rows)) vars None (Some b)
    member_made rows a b empty h = (cells, refusals)
      where
        nothing : KeyPath → Option Cell
        nothing q = None

        cells : (p : KeyPath) → fields_at fs b p ≡ (by_field (rows_of rows)).cells vars
            (option_at (fields_at fs) None) p
        cells [] = refl
        cells (field k ∷ p) =
            (set_of_ranked (fields_at fs) rows a b h).0 k p ∙ ap (λ c. read_cell (set_at rows k) c p)
            (empty (field k ∷ p))
            ∙ sym (ap (λ (r : Ranking). r.cells vars (λ q. None) p) (row_named rows k))
        cells (name k ∷ p) = refl

        refusals : (p : KeyPath) → (by_field (rows_of rows)).refusals vars (option_at (fields_at fs) None) p ≡ []
        refusals [] = refl
        refusals (field k ∷ p) = ap (λ (r : Ranking). r.refusals vars (λ q. None) p) (row_named rows k)
            ∙ (set_of_ranked (fields_at fs) rows a b h).1 k
        refusals (name k ∷ p) = refl

  -- a field's variable is refused, or memory
  abbrev pub IsFieldCause : List MemberRow → Error → Type 0
  IsFieldCause rows e = IsWantOfMemory e ⊎ ((k : List ℕ) × Contains (read_refusals (set_at rows k)) (refusal_of e))

  none_in : (r : Refusal) → Contains [] r → ⊥
  none_in r (i, lt, is) = absurd (omega (arith, lt))

  pub field_cause : {A : Type 0} (look : A → KeyPath → Option Cell) (rows : List MemberRow) (a : A) (e : Error)
      → IsRankCause look (by_field (rows_of rows)) vars a e → IsFieldCause rows e
  field_cause look rows a e (inl m) = inl m
  field_cause look rows a e (inr ([], c)) = absurd (none_in (refusal_of e) c)
  field_cause look rows a e (inr (field k ∷ p, c)) =
      inr (
        k,
        subst (λ (rs : List Refusal). Contains rs (refusal_of e))
            (ap (λ (r : Ranking). r.refusals vars (λ q. look a (field k ∷ q)) p) (row_named rows k)) c,
      )
  field_cause look rows a e (inr (name k ∷ p, c)) = absurd (none_in (refusal_of e) c)

  pub member_cause : (rows : List MemberRow) (look : KeyPath → Option Cell) (e : Error) → IsFieldCause rows e
      → IsWantOfMemory e ⊎ ((p : KeyPath) × Contains ((by_member rows).refusals vars look p) (refusal_of e))
  member_cause rows look e (inl m) = inl m
  member_cause rows look e (inr (k, c)) =
      inr (
        field k ∷ [],
        subst (λ (rs : List Refusal). Contains rs (refusal_of e))
            (sym (ap (λ (r : Ranking). r.refusals vars (λ q. look (field k ∷ q)) []) (row_named rows k))) c,
      )

  pub of_field_cause : {A : Type 0} (look : A → KeyPath → Option Cell) (rows : List MemberRow) (a : A) (e : Error)
      → IsFieldCause rows e → IsRankCause look (by_field (rows_of rows)) vars a e
  of_field_cause look rows a e (inl m) = inl m
  of_field_cause look rows a e (inr (k, c)) =
      inr (
        field k ∷ [],
        subst (λ (rs : List Refusal). Contains rs (refusal_of e))
            (sym (ap (λ (r : Ranking). r.refusals vars (λ q. look a (field k ∷ q)) []) (row_named rows k))) c,
      )
