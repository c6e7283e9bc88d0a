-- The components of a path, in std's words.
use Rattle.std.proofs.Common.{◌≡◌, ℕ, List, [], ◌∷◌, ◌++◌, length, get_or, cond, eqb, ◌&&◌, ◌||◌, not, Bool, true, false, refl, sym, ap, ap₂, subst, ◌∙◌, filter, bytes_eq, ne_eqb, arith}
use Rattle.std.specs.List.{onto_first}
use Rattle.std.specs.Path.{first_piece, later_pieces, path_names, path_components, is_dot_at}
use Rattle.std.proofs.lemmas.Slice.Eq.{bytes_eq-Decides}
use Rattle.cc2_base.specs.Paths.{components_of, relative_components, pieces, is_name, slash}

split_step : (t : Bool) (b : ℕ) (f : List ℕ) (l : List (List ℕ)) → cond t ([] ∷ (f ∷ l)) (onto_first b (f ∷ l)) ≡ cond t [] (b ∷ f) ∷ cond t (f ∷ l) l
split_step true b f l = refl
split_step false b f l = refl

-- the pieces are the first and the later ones
pub pieces_are : (p : List ℕ) → pieces p ≡ first_piece p ∷ later_pieces p
pieces_are [] = refl
pieces_are (b ∷ rest) =
    ap (λ ps. cond (eqb b slash) ([] ∷ ps) (onto_first b ps)) (pieces_are rest)
    ∙ split_step (eqb b slash) b (first_piece rest) (later_pieces rest)

-- nothing comes before the first slash just where the text is empty or begins with one
none_before : (p : List ℕ) → bytes_eq (first_piece p) [] ≡ eqb (get_or p 0 slash) slash
none_before [] = refl
none_before (b ∷ rest) = by (eqb b slash)
  where
    by : (t : Bool) → bytes_eq (cond t [] (b ∷ first_piece rest)) [] ≡ t
    by true = refl
    by false = refl

-- a first piece that is a `.` precedes the others
leading_dot : (d : Bool) (first : List ℕ) (others : List (List ℕ)) → bytes_eq first (46 ∷ []) ≡ d → eqb (length first) 0 ≡ false
    → cond d ((46 ∷ []) ∷ []) [] ++ filter is_name (first ∷ others) ≡ first ∷ filter is_name others
leading_dot true first others e some =
    let is : first ≡ 46 ∷ [] = (bytes_eq-Decides first (46 ∷ [])).0 e in
    subst (λ f. (46 ∷ []) ∷ filter is_name (f ∷ others) ≡ f ∷ filter is_name others) (sym is) refl
leading_dot false first others e some = ap (λ t. cond (not t) (first ∷ filter is_name others) (filter is_name others)) (ap₂ ◌||◌ some e)

by_root : (t : Bool) (b : ℕ) (rest : List ℕ) (d : Bool)
    → bytes_eq (b ∷ first_piece rest) (46 ∷ []) ≡ d
    → cond t ((47 ∷ []) ∷ []) (cond d ((46 ∷ []) ∷ []) []) ++ filter is_name (cond t [] (b ∷ first_piece rest) ∷ cond t (first_piece rest ∷ later_pieces rest) (later_pieces rest))
    ≡ cond t ((47 ∷ []) ∷ filter is_name (cond t [] (b ∷ first_piece rest) ∷ cond t (first_piece rest ∷ later_pieces rest) (later_pieces rest)))
    (relative_components (cond t [] (b ∷ first_piece rest) ∷ cond t (first_piece rest ∷ later_pieces rest) (later_pieces rest)))
by_root true b rest d e = refl
by_root false b rest d e =
    let first = b ∷ first_piece rest in
    let some = ne_eqb (length first) 0 (λ z. omega arith) in
    leading_dot d first (later_pieces rest) e some ∙ sym (ap (λ t. cond t (filter is_name (later_pieces rest)) (first ∷ filter is_name (later_pieces rest))) some)

pub path_components_are : (p : List ℕ) → path_components p ≡ components_of p
unfolding path_components path_names components_of
path_components_are [] = refl
path_components_are (b ∷ rest) =
    by_root (eqb b slash) b rest (is_dot_at (b ∷ rest) 0) (ap (λ t. eqb b 46 && t) (none_before rest))
    ∙ sym (ap (λ ps. cond (eqb b slash) ((47 ∷ []) ∷ filter is_name ps) (relative_components ps)) (pieces_are (b ∷ rest)))
