-- The components of a path that is cut at a slash.
use Rattle.std.proofs.Common.{◌≡◌, ℕ, List, [], ◌∷◌, ◌++◌, length, cond, eqb, ◌&&◌, not, Bool, true, false, refl, sym, ap, ap₂}
use Rattle.std.proofs.Common.{◌∙◌, filter, ne_eqb, eqb-true, arith, ◌⊎◌, inl, inr, ⊎_elim, ◌<◌, append-nil}
use Rattle.std.specs.List.{onto_first}
use Rattle.std.specs.Path.{first_piece, later_pieces, has_no_slash}
use Rattle.std.proofs.lemmas.List.Elements.{filter-append}
use Rattle.std.proofs.lemmas.Bool.{and_parts}
use Rattle.cc2_base.specs.Paths.{components_of, relative_components, pieces, is_name, slash}
use Rattle.cc2_base.proofs.Components.{pieces_are}

-- the names after a slash
abbrev pub names : List ℕ → List (List ℕ)
names v = filter is_name (pieces v)

onto_front : (t : Bool) (b : ℕ) (f : List ℕ) (l ps : List (List ℕ))
    → cond t ([] ∷ ((f ∷ l) ++ ps)) (onto_first b ((f ∷ l) ++ ps)) ≡ cond t ([] ∷ (f ∷ l)) (onto_first b (f ∷ l)) ++ ps
onto_front true b f l ps = refl
onto_front false b f l ps = refl

pub pieces_behind : (u v : List ℕ) → pieces (u ++ slash ∷ v) ≡ pieces u ++ pieces v
pieces_behind [] v = refl
pieces_behind (b ∷ u) v =
    let with_rest : List (List ℕ) → List (List ℕ) = λ ps. cond (eqb b slash) ([] ∷ ps) (onto_first b ps) in
    ap with_rest (pieces_behind u v ∙ ap (λ ps. ps ++ pieces v) (pieces_are u))
    ∙ onto_front (eqb b slash) b (first_piece u) (later_pieces u) (pieces v)
    ∙ ap (λ ps. with_rest ps ++ pieces v) (sym (pieces_are u))

relative_behind : (f : List ℕ) (l ps : List (List ℕ)) (t : Bool)
    → cond t (filter is_name (l ++ ps)) (f ∷ filter is_name (l ++ ps)) ≡ cond t (filter is_name l) (f ∷ filter is_name l) ++ filter is_name ps
relative_behind f l ps true = filter-append is_name l ps
relative_behind f l ps false = ap (λ cs. f ∷ cs) (filter-append is_name l ps)

by_root : (t : Bool) (f : List ℕ) (l ps : List (List ℕ))
    → cond t ((47 ∷ []) ∷ filter is_name ((f ∷ l) ++ ps)) (relative_components ((f ∷ l) ++ ps)) ≡ cond t ((47 ∷ []) ∷ filter is_name (f ∷ l)) (relative_components (f ∷ l)) ++ filter is_name ps
by_root true f l ps = ap (λ cs. (47 ∷ []) ∷ cs) (filter-append is_name (f ∷ l) ps)
by_root false f l ps = relative_behind f l ps (eqb (length f) 0)

-- what follows a path and a slash adds its names
pub components_more : (b : ℕ) (u v : List ℕ) → components_of ((b ∷ u) ++ slash ∷ v) ≡ components_of (b ∷ u) ++ names v
unfolding components_of
components_more b u v =
    let whole : List (List ℕ) → List (List ℕ) = λ ps. cond (eqb b slash) ((47 ∷ []) ∷ filter is_name ps) (relative_components ps) in
    ap whole (pieces_behind (b ∷ u) v ∙ ap (λ ps. ps ++ pieces v) (pieces_are (b ∷ u)))
    ∙ by_root (eqb b slash) (first_piece (b ∷ u)) (later_pieces (b ∷ u)) (pieces v)
    ∙ ap (λ ps. whole ps ++ names v) (sym (pieces_are (b ∷ u)))

pub components_at_root : (v : List ℕ) → components_of (slash ∷ v) ≡ (47 ∷ []) ∷ names v
unfolding components_of
components_at_root v = refl

pub components_empty : components_of [] ≡ []
unfolding components_of
components_empty = refl

-- a slash at the end of a path adds nothing
pub components_slash : (p : List ℕ) → 0 < length p → components_of (p ++ slash ∷ []) ≡ components_of p
components_slash [] some = absurd (omega arith)
components_slash (b ∷ u) some = components_more b u [] ∙ append-nil (components_of (b ∷ u))

-- what follows a slash adds its names
pub components_behind : (u v : List ℕ) → components_of (u ++ slash ∷ v) ≡ components_of (u ++ slash ∷ []) ++ names v
unfolding components_of
components_behind [] v = refl
components_behind (b ∷ u) v = components_more b u v ∙ ap (λ cs. cs ++ names v) (sym (components_slash (b ∷ u) (omega arith)))

-- a text without a slash is one piece
pub pieces_one : (v : List ℕ) → has_no_slash v ≡ true → pieces v ≡ v ∷ []
pieces_one [] h = refl
pieces_one (b ∷ v) h =
    let parts = and_parts (not (eqb b slash)) (has_no_slash v) h in
    by (eqb b slash) parts.0 (pieces_one v parts.1)
  where
    by : (t : Bool) → not t ≡ true → pieces v ≡ v ∷ [] → cond t ([] ∷ pieces v) (onto_first b (pieces v)) ≡ (b ∷ v) ∷ []
    by true e rest = cc
    by false e rest = ap (onto_first b) rest

pub components_one : (v : List ℕ) → has_no_slash v ≡ true → components_of v ≡ cond (eqb (length v) 0) [] (v ∷ [])
unfolding components_of
components_one [] h = refl
components_one (b ∷ v) h = by (eqb b slash) (and_parts (not (eqb b slash)) (has_no_slash v) h).0
  where
    by : (t : Bool) → not t ≡ true → cond t ((47 ∷ []) ∷ filter is_name (pieces (b ∷ v))) (relative_components (pieces (b ∷ v))) ≡ cond (eqb (length (b ∷ v)) 0) [] ((b ∷ v) ∷ [])
    by true e = cc
    by false e = ap relative_components (pieces_one (b ∷ v) h)

-- a text has no slash, or what follows its last one has none
abbrev pub LastSlash : List ℕ → Type 0
LastSlash p = (has_no_slash p ≡ true) ⊎ ((u : List ℕ) × (v : List ℕ) × (p ≡ u ++ slash ∷ v) × (has_no_slash v ≡ true))

pub last_slash : (p : List ℕ) → LastSlash p
last_slash [] = inl refl
last_slash (b ∷ p) = ⊎_elim (λ h. by (eqb b slash) refl h) (λ h. inr (b ∷ h.0, h.1, ap (λ l. b ∷ l) h.2, h.3)) (last_slash p)
  where
    by : (t : Bool) → eqb b slash ≡ t → has_no_slash p ≡ true → LastSlash (b ∷ p)
    by true e h = inr ([], p, ap (λ c. c ∷ p) (eqb-true b slash e), h)
    by false e h = inl (ap₂ (λ s t. not s && t) e h)

-- a path's first component begins with its first byte
pub first_component : (b : ℕ) (u : List ℕ) → (f : List ℕ) × (rest : List (List ℕ)) × (components_of (b ∷ u) ≡ (b ∷ f) ∷ rest)
unfolding components_of
first_component b u = by (eqb b slash) refl
  where
    by : (t : Bool) → eqb b slash ≡ t → (f : List ℕ) × (rest : List (List ℕ)) × (components_of (b ∷ u) ≡ (b ∷ f) ∷ rest)
    by true e = ([], names (b ∷ u), ap (λ t. cond t ((47 ∷ []) ∷ names (b ∷ u)) (relative_components (pieces (b ∷ u)))) e ∙ ap (λ c. (c ∷ []) ∷ names (b ∷ u)) (sym (eqb-true b slash e)))
    by false e =
        let f = first_piece u in
        let l = later_pieces u in
        let ps : pieces (b ∷ u) ≡ (b ∷ f) ∷ l = pieces_are (b ∷ u) ∙ ap (λ t. cond t [] (b ∷ f) ∷ cond t (f ∷ l) l) e in (
          f,
          filter is_name l,
          ap (λ t. cond t ((47 ∷ []) ∷ names (b ∷ u)) (relative_components (pieces (b ∷ u)))) e
              ∙ ap relative_components ps
              ∙ ap (λ t. cond t (filter is_name l) ((b ∷ f) ∷ filter is_name l)) (ne_eqb (length (b ∷ f)) 0 (λ z. omega arith)),
        )
