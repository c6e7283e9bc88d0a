-- The answers that cells have at a key path.
use Rattle.std.proofs.Common.{◌≡◌, Bool, true, false, cond, List, [], ◌∷◌, ◌++◌, refl, ap, ◌∙◌}
use Rattle.cc2_value.specs.Cells.{Key, KeyPath}
use Rattle.cc2_resolved.specs.Answers.{Answer}
use Rattle.cc2_resolved_cells.specs.Cells.{ResolvedCell, ShownAnswers, is_same_key, is_same_path, answers_at, cells_below}
use Rattle.cc2_resolved_cells.specs.Cells.{RowPart, cells_in, AllShowExactly}

more : (b : Bool) (a : Answer) (xs ys zs : List Answer) → zs ≡ xs ++ ys → cond b (a ∷ zs) zs ≡ cond b (a ∷ xs) xs ++ ys
more true a xs ys zs h = ap (λ l. a ∷ l) h
more false a xs ys zs h = h

-- cells, and others after them
both_at : (cs ds : List ResolvedCell) (p : KeyPath) → answers_at (cs ++ ds) p ≡ answers_at cs p ++ answers_at ds p
both_at [] ds p = refl
both_at (c ∷ cs) ds p = more (is_same_path c.0 p) c.1 (answers_at cs p) (answers_at ds p) (answers_at (cs ++ ds) p) (both_at cs ds p)

-- at the root, cells below a key and others have the answers of the others
pub answers_at_root : (k : Key) (cs ds : List ResolvedCell) → answers_at (cells_below k cs ++ ds) [] ≡ answers_at ds []
answers_at_root k [] ds = refl
answers_at_root k (c ∷ cs) ds = answers_at_root k cs ds

inner : (b c : Bool) (a : Answer) (xs ys : List Answer) → ys ≡ cond b xs [] → cond (cond b c false) (a ∷ ys) ys ≡ cond b (cond c (a ∷ xs) xs) []
inner true true a xs ys h = ap (λ l. a ∷ l) h
inner true false a xs ys h = h
inner false c a xs ys h = h

abbrev no_answers : List Answer
no_answers = []

none : (b : Bool) → no_answers ≡ cond b [] []
none true = refl
none false = refl

-- below a key are the cells where the path begins with it
below_at : (k l : Key) (cs : List ResolvedCell) (p : KeyPath) → answers_at (cells_below k cs) (l ∷ p) ≡ cond (is_same_key k l) (answers_at cs p) []
below_at k l [] p = none (is_same_key k l)
below_at k l (c ∷ cs) p = inner (is_same_key k l) (is_same_path c.0 p) c.1 (answers_at cs p) (answers_at (cells_below k cs) (l ∷ p)) (below_at k l cs p)

-- at a path that begins with a key, those of both
pub answers_at_key : (k l : Key) (cs ds : List ResolvedCell) (p : KeyPath)
    → answers_at (cells_below k cs ++ ds) (l ∷ p) ≡ cond (is_same_key k l) (answers_at cs p) [] ++ answers_at ds (l ∷ p)
answers_at_key k l cs ds p = both_at (cells_below k cs) ds (l ∷ p) ∙ ap (λ answers. answers ++ answers_at ds (l ∷ p)) (below_at k l cs p)

-- two rows, one after the other
pub both_are : (xs ys : List RowPart) (ls ms : List ShownAnswers) → AllShowExactly (cells_in xs) ls → AllShowExactly (cells_in ys) ms
    → AllShowExactly (cells_in (xs ++ ys)) (ls ++ ms)
both_are [] ys [] ms h g = g
both_are [] ys (l ∷ ls) ms h g = absurd h
both_are (x ∷ xs) ys [] ms h g = absurd h
both_are (x ∷ xs) ys (l ∷ ls) ms h g = (h.0, both_are xs ys ls ms h.1 g)
