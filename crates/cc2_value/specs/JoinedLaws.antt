-- What lists of cells make, one after the other.
use Rattle.std.specs.Prelude.{◌≡◌, Bool, true, false, cond, List, [], ◌∷◌, ◌++◌, reverse, flat_map, find, Option, Some, None, Ok, Err, refl, ◌||◌, if◌then◌else◌}
use Rattle.std.specs.List.{list_any}
use Rattle.std.specs.Option.{option_or}
use Rattle.std.proofs.Common.{sym, ap, ◌∙◌, append-nil, inl, inr}
use Rattle.std.proofs.lemmas.Bool.{cases_Bool}
use Rattle.std.proofs.lemmas.List.{reverse-append}
use Rattle.std.proofs.lemmas.List.Folds.{find-append, list_any-append}
use Rattle.std.proofs.lemmas.Grind.{flat_map-append}
use Rattle.cc2_error.specs.declared.error.Shape.{Shape}
use Rattle.cc2_value.specs.Cells.{Cell, Single, Text, Items, Joined, Entry, Undecoded, Marks, Kind, single, text, items, joins, table, marks, kind, shape}
use Rattle.cc2_value.specs.Cells.{differ, items_of, settings_of, is_entry, flags_mark, doc_flags_mark, made, judged, joined, present}

entry_if : (b : Bool) → kind (if b then Entry else Undecoded) ≡ table
entry_if true = refl
entry_if false = refl

-- what is made is of its first cell's kind
pub kind-made : (c : Cell) (cs : List Cell) → kind (made c cs) ≡ kind c
kind-made (Single s) cs = refl
kind-made (Text ws) cs = refl
kind-made (Items ws) cs = refl
kind-made (Joined ss) cs = refl
kind-made Entry cs = refl
kind-made Undecoded cs = entry_if (list_any is_entry cs)
kind-made (Marks b d) cs = refl

pub made_alone : (c : Cell) → made c [] ≡ c
made_alone (Single s) = refl
made_alone (Text ws) = refl
made_alone (Items ws) = ap Items (append-nil ws)
made_alone (Joined ss) = ap Joined (append-nil ss)
made_alone Entry = refl
made_alone Undecoded = refl
made_alone (Marks true true) = refl
made_alone (Marks true false) = refl
made_alone (Marks false true) = refl
made_alone (Marks false false) = refl

entries_of : (a b : Bool) → (if (a || b) then Entry else Undecoded) ≡ made (if a then Entry else Undecoded) ((if b then Entry else Undecoded) ∷ [])
entries_of true true = refl
entries_of true false = refl
entries_of false true = refl
entries_of false false = refl

backwards : {A : Type 0} (f : Cell → List A) (cs ds : List Cell) → flat_map f (reverse (cs ++ ds)) ≡ flat_map f (reverse ds) ++ (flat_map f (reverse cs) ++ [])
backwards f cs ds =
    ap (flat_map f) (reverse-append cs ds) ∙ flat_map-append f (reverse ds) (reverse cs)
    ∙ ap (λ xs. flat_map f (reverse ds) ++ xs) (sym (append-nil (flat_map f (reverse cs))))

or_false : (b : Bool) → b ≡ (b || false)
or_false true = refl
or_false false = refl

marks-append : (f : Cell → Bool) (cs ds : List Cell) → list_any f (cs ++ ds) ≡ (list_any f cs || (list_any f ds || false))
marks-append f cs ds = list_any-append f cs ds ∙ ap (λ b. list_any f cs || b) (or_false (list_any f ds))

pub made-append : (c d : Cell) (cs ds : List Cell) → differ (kind c) (kind d) ≡ false → made c (cs ++ d ∷ ds) ≡ made (made c cs) (made d ds ∷ [])
made-append (Single s) (Single t) cs ds h = refl
made-append (Text ws) (Text vs) cs ds h = refl
made-append (Items ws) (Items vs) cs ds h = ap Items (backwards items_of (Items ws ∷ cs) (Items vs ∷ ds))
made-append (Joined ws) (Joined vs) cs ds h = ap Joined (backwards settings_of (Joined ws ∷ cs) (Joined vs ∷ ds))
made-append Entry Entry cs ds h = refl
made-append Entry Undecoded cs ds h = refl
made-append Undecoded Entry cs ds h = ap (λ b. if b then Entry else Undecoded) (list_any-append is_entry cs (Entry ∷ ds)) ∙ entries_of (list_any is_entry cs) true
made-append Undecoded Undecoded cs ds h = ap (λ b. if b then Entry else Undecoded) (list_any-append is_entry cs (Undecoded ∷ ds)) ∙ entries_of (list_any is_entry cs) (list_any is_entry ds)
made-append (Marks b d) (Marks x y) cs ds h =
    ap (λ t. Marks t (list_any doc_flags_mark ((Marks b d ∷ cs) ++ Marks x y ∷ ds))) (marks-append flags_mark (Marks b d ∷ cs) (Marks x y ∷ ds))
    ∙ ap (Marks (list_any flags_mark (Marks b d ∷ cs) || (list_any flags_mark (Marks x y ∷ ds) || false))) (marks-append doc_flags_mark (Marks b d ∷ cs) (Marks x y ∷ ds))
made-append _ _ cs ds h = cc

same_kind : (k l : Kind) → differ k l ≡ false → k ≡ l
same_kind single single h = refl
same_kind text text h = refl
same_kind items items h = refl
same_kind joins joins h = refl
same_kind table table h = refl
same_kind marks marks h = refl
same_kind _ _ h = cc

-- one cell alone, or none
pub joined_alone : (o : Option Cell) → joined (present (o ∷ [])) ≡ Ok o
joined_alone None = refl
joined_alone (Some c) = ap (λ d. Ok (Some d)) (made_alone c)

abbrev others : Cell → List Cell → Option Cell
others c cs = find (λ d. differ (kind c) (kind d)) cs

-- a first cell and the first of another kind, apart
record Uniform (c : Cell) (cs : List Cell) (a : Option Cell) : Type 0 where
  same : others c cs ≡ None
  is : a ≡ Some (made c cs)

uniform_from : (c : Cell) (cs : List Cell) (o a : Option Cell) → others c cs ≡ o → judged c cs o ≡ Ok a → Uniform c cs a
uniform_from c cs None a e h = record { same = e; is = cc }
uniform_from c cs (Some d) a e h = cc

-- two cells
two : (c d : Cell) (b : Bool) → differ (kind c) (kind d) ≡ b → joined (c ∷ d ∷ []) ≡ judged c (d ∷ []) (cond b (Some d) None)
two c d b e = ap (λ t. judged c (d ∷ []) (cond t (Some d) None)) e

module _ (c d : Cell) (cs ds : List Cell) where
  others-append : others c cs ≡ None → others c (cs ++ d ∷ ds) ≡ cond (differ (kind c) (kind d)) (Some d) (others c ds)
  others-append h = find-append (λ e. differ (kind c) (kind e)) cs (d ∷ ds) ∙ ap (λ o. option_or o (others c (d ∷ ds))) h

  pairs : (b : Bool) → differ (kind c) (kind d) ≡ b → joined (made c cs ∷ made d ds ∷ []) ≡ judged (made c cs) (made d ds ∷ []) (cond b (Some (made d ds)) None)
  pairs b e = two (made c cs) (made d ds) b (ap (λ k. differ k (kind (made d ds))) (kind-made c cs) ∙ ap (differ (kind c)) (kind-made d ds) ∙ e)

  both_made : others c cs ≡ None → others d ds ≡ None → joined ((c ∷ cs) ++ d ∷ ds) ≡ joined (made c cs ∷ made d ds ∷ [])
  both_made h k =
      elim (cases_Bool (differ (kind c) (kind d))) [
        | inl apart ↦
            ap (judged c (cs ++ d ∷ ds)) (others-append h ∙ ap (λ b. cond b (Some d) (others c ds)) apart)
            ∙ ap (λ l. Err (l, shape (kind d))) (ap shape (sym (kind-made c cs)))
            ∙ ap (λ l. Err (shape (kind (made c cs)), l)) (ap shape (sym (kind-made d ds)))
            ∙ sym (pairs true apart)
        | inr same ↦
            ap (judged c (cs ++ d ∷ ds)) (others-append h ∙ ap (λ b. cond b (Some d) (others c ds)) same ∙ ap (λ l. find (λ e. differ l (kind e)) ds) (same_kind (kind c) (kind d) same) ∙ k)
            ∙ ap (λ e. Ok (Some e)) (made-append c d cs ds same)
            ∙ sym (pairs false same)
      ]

-- two lists make what the two that they make make
pub joined-append : (xs ys : List Cell) (a b : Option Cell) → joined xs ≡ Ok a → joined ys ≡ Ok b → joined (xs ++ ys) ≡ joined (present (a ∷ b ∷ []))
joined-append [] ys a b h k =
    let e : None ≡ a = cc in
    k ∙ sym (joined_alone b) ∙ ap (λ o. joined (present (o ∷ b ∷ []))) e
joined-append (c ∷ cs) [] a b h k =
    let e : None ≡ b = cc in
    ap joined (append-nil (c ∷ cs)) ∙ h ∙ sym (joined_alone a) ∙ lone a ∙ ap (λ o. joined (present (a ∷ o ∷ []))) e
  where
    lone : (o : Option Cell) → joined (present (o ∷ [])) ≡ joined (present (o ∷ None ∷ []))
    lone None = refl
    lone (Some x) = refl
joined-append (c ∷ cs) (d ∷ ds) a b h k =
    let p = uniform_from c cs (others c cs) a refl h in
    let q = uniform_from d ds (others d ds) b refl k in
    both_made c d cs ds p.same q.same ∙ ap (λ o. joined (present (o ∷ Some (made d ds) ∷ []))) (sym p.is) ∙ ap (λ o. joined (present (a ∷ o ∷ []))) (sym q.is)

-- cells that are mixed stay so, with the shapes that meet first, before others
pub mixed_before : (xs ys : List Cell) (m : Shape × Shape) → joined xs ≡ Err m → joined (xs ++ ys) ≡ Err m
mixed_before [] ys m h = cc
mixed_before (c ∷ cs) ys m h = ap (judged c (cs ++ ys)) (find-append (λ e. differ (kind c) (kind e)) cs ys) ∙ stays (others c cs) h
  where
    stays : (o : Option Cell) → judged c cs o ≡ Err m → judged c (cs ++ ys) (option_or o (others c ys)) ≡ Err m
    stays None e = cc
    stays (Some d) e = e

abbrev IsRefused : List Cell → Type 0
IsRefused xs = (m : Shape × Shape) × (joined xs ≡ Err m)

-- and after others
pub mixed_behind : (xs ys : List Cell) (m : Shape × Shape) → joined ys ≡ Err m → (n : Shape × Shape) × (joined (xs ++ ys) ≡ Err n)
mixed_behind [] ys m h = (m, h)
mixed_behind (c ∷ cs) [] m h = cc
mixed_behind (c ∷ cs) (d ∷ ds) m h = found (others c cs) refl
  where
    further : (o : Option Cell) → others d ds ≡ o → judged d ds o ≡ Err m → (e : Cell) × (others d ds ≡ Some e)
    further None e g = cc
    further (Some x) e g = (x, e)

    found : (o : Option Cell) → others c cs ≡ o → IsRefused ((c ∷ cs) ++ d ∷ ds)
    found (Some e) is = ((shape (kind c), shape (kind e)), mixed_before (c ∷ cs) (d ∷ ds) _ (ap (judged c cs) is))
    found None is =
        elim (cases_Bool (differ (kind c) (kind d))) [
          | inl apart ↦ ((shape (kind c), shape (kind d)), ap (judged c (cs ++ d ∷ ds)) (others-append c d cs ds is ∙ ap (λ b. cond b (Some d) (others c ds)) apart))
          | inr same ↦
              let e = further (others d ds) refl h in (
                (shape (kind c), shape (kind e.0)),
                ap (judged c (cs ++ d ∷ ds))
                    (others-append c d cs ds is ∙ ap (λ b. cond b (Some d) (others c ds)) same
                    ∙ ap (λ l. find (λ x. differ l (kind x)) ds) (same_kind (kind c) (kind d) same) ∙ e.1),
              )
        ]
