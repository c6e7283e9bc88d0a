-- How the first piece of a key is found.
use Rattle.std.proofs.Common.{◌≡◌, ◌≢◌, ◌<◌, ◌+◌, ℕ, suc, List, [], ◌∷◌, ◌++◌, get_or, length, length-append, Option, Some, None, refl, sym, ap, subst, ◌∙◌, arith}
use Rattle.std.proofs.lemmas.Grind.{common_steps}
use Rattle.std.proofs.lemmas.List.{append_assoc, append-nil}
use Rattle.cc2_cli.specs.Keys.{Lacks, IsPlain, IsWritten, plain, single, double, IsKey, IsLeft, IsCut, IsNoKey, IsNoEnd, end_of, room_left}

abbrev tail_of : List ℕ → List ℕ
tail_of [] = []
tail_of (b ∷ bs) = bs

same_head : (a b : ℕ) (xs ys : List ℕ) → a ∷ xs ≡ b ∷ ys → a ≡ b
same_head a b xs ys e = ap (λ l. get_or l 0 0) e

same_tail : (a b : ℕ) (xs ys : List ℕ) → a ∷ xs ≡ b ∷ ys → xs ≡ ys
same_tail a b xs ys e = ap tail_of e

nothing_else : (b : ℕ) (bs : List ℕ) → b ∷ bs ≢ []
nothing_else b bs e = absurd (omega (arith, ap length e))

first_lacks : (c b : ℕ) (bs : List ℕ) → Lacks c (b ∷ bs) → b ≢ c
first_lacks c b bs h = h 0 (omega arith)

rest_lacks : (c b : ℕ) (bs : List ℕ) → Lacks c (b ∷ bs) → Lacks c bs
rest_lacks c b bs h i lt = let k = h (i + 1) (grind (arith, common_steps)) in grind (arith, common_steps)

pub in_between : (c : ℕ) (xs ys : List ℕ) → ¬ (Lacks c (xs ++ c ∷ ys))
in_between c [] ys h = first_lacks c c ys h refl
in_between c (x ∷ xs) ys h = in_between c xs ys (rest_lacks c x (xs ++ c ∷ ys) h)

-- of two fronts that lack a byte after which it is, each is the other
same_front : (c : ℕ) (xs xs' ys ys' : List ℕ) → Lacks c xs → Lacks c xs' → xs ++ c ∷ ys ≡ xs' ++ c ∷ ys' → (xs ≡ xs') × (ys ≡ ys')
same_front c [] [] ys ys' h h' e = (refl, same_tail c c ys ys' e)
same_front c [] (x ∷ xs') ys ys' h h' e = absurd (first_lacks c x xs' h' (sym (same_head c x ys (xs' ++ c ∷ ys') e)))
same_front c (x ∷ xs) [] ys ys' h h' e = absurd (first_lacks c x xs h (same_head x c (xs ++ c ∷ ys) ys' e))
same_front c (x ∷ xs) (x' ∷ xs') ys ys' h h' e =
    let k = same_front c xs xs' ys ys' (rest_lacks c x xs h) (rest_lacks c x' xs' h') (same_tail x x' (xs ++ c ∷ ys) (xs' ++ c ∷ ys') e) in
    let b : x ≡ x' = same_head x x' (xs ++ c ∷ ys) (xs' ++ c ∷ ys') e in (
      ap (λ n. n ∷ xs) b ∙ ap (λ l. x' ∷ l) k.0,
      k.1,
    )

same_left : (left left' : Option (List ℕ)) → end_of left ≡ end_of left' → left ≡ left'
same_left None None e = refl
same_left None (Some rest) e = absurd (nothing_else 46 rest (sym e))
same_left (Some rest) None e = absurd (nothing_else 46 rest e)
same_left (Some rest) (Some rest') e = ap Some (same_tail 46 46 rest rest' e)

-- pieces that lack a dot, with what is left after them
same_plain : (xs xs' : List ℕ) (left left' : Option (List ℕ)) → Lacks 46 xs → Lacks 46 xs' → xs ++ end_of left ≡ xs' ++ end_of left' → (xs ≡ xs') × (left ≡ left')
same_plain xs xs' None None h h' e = (sym (append-nil xs) ∙ e ∙ append-nil xs', refl)
same_plain xs xs' None (Some rest) h h' e = absurd (in_between 46 xs' rest (subst (Lacks 46) (sym (append-nil xs) ∙ e) h))
same_plain xs xs' (Some rest) None h h' e = absurd (in_between 46 xs rest (subst (Lacks 46) (sym (append-nil xs') ∙ sym e) h'))
same_plain xs xs' (Some rest) (Some rest') h h' e = let k = same_front 46 xs xs' rest rest' h h' e in (k.0, ap Some k.1)

-- a piece between quotes, with what is left after it
closed : (q : ℕ) (piece : List ℕ) (left : Option (List ℕ)) → (piece ++ q ∷ []) ++ end_of left ≡ piece ++ q ∷ end_of left
closed q piece left = append_assoc piece (q ∷ []) (end_of left)

-- a key is a piece as it is written, what is left after it, and the pieces of that
record IsBegun (text : List ℕ) (pieces : List (List ℕ)) : Type 0 where
  piece : List ℕ
  front : List ℕ
  left : Option (List ℕ)
  others : List (List ℕ)
  written : IsWritten piece front
  whole : text ≡ front ++ end_of left
  all : pieces ≡ piece ∷ others
  follow : IsLeft left others

begun : (text : List ℕ) (pieces : List (List ℕ)) → IsKey text pieces → IsBegun text pieces
begun text [] h = absurd h
begun text (piece ∷ []) h =
    record { piece = piece; front = text; left = None; others = []; written = h; whole = sym (append-nil text); all = refl; follow = refl }
begun text (piece ∷ (next ∷ pieces)) h =
    record { piece = piece; front = h.0; left = Some h.1; others = next ∷ pieces; written = h.3; whole = h.2; all = refl; follow = h.4 }

-- the other way round
reads : (text piece front : List ℕ) (left : Option (List ℕ)) → IsWritten piece front → text ≡ front ++ end_of left
    → (pieces : List (List ℕ)) → IsLeft left pieces → IsKey text (piece ∷ pieces)
reads text piece front None written is [] follow = subst (IsWritten piece) (sym (is ∙ append-nil front)) written
reads text piece front None written is (next ∷ pieces) follow = absurd (omega (arith, ap length follow))
reads text piece front (Some rest) written is [] follow = absurd follow
reads text piece front (Some rest) written is (next ∷ pieces) follow = (front, rest, is, written, follow)

room : (text front : List ℕ) (left : Option (List ℕ)) → text ≡ front ++ end_of left → room_left left < length text + 1
room text front None is = omega arith
room text front (Some rest) is = let n : length text ≡ length front + suc (length rest) = ap length is ∙ length-append front (46 ∷ rest) in omega (arith, n)

-- what a key that begins with a quote begins with
single_begun : (inner : List ℕ) (pieces : List (List ℕ)) (b : IsBegun (39 ∷ inner) pieces) → Lacks 39 b.piece × (inner ≡ b.piece ++ 39 ∷ end_of b.left)
single_begun inner pieces b = go b.piece b.front b.left b.written b.whole
  where
    go : (piece front : List ℕ) (left : Option (List ℕ)) → IsWritten piece front → 39 ∷ inner ≡ front ++ end_of left
        → Lacks 39 piece × (inner ≡ piece ++ 39 ∷ end_of left)
    go [] front left (plain p is) text = absurd (p.some refl)
    go (x ∷ xs) front left (plain p is) text =
        absurd (first_lacks 39 x xs p.no_single (sym (same_head 39 x inner (xs ++ end_of left) (text ∙ ap (λ l. l ++ end_of left) is))))
    go piece front left (single lacks is) text = (
      lacks,
      same_tail 39 39 inner ((piece ++ 39 ∷ []) ++ end_of left) (text ∙ ap (λ l. l ++ end_of left) is) ∙ closed 39 piece left,
    )
    go piece front left (double lacks unescaped is) text =
        let e : 39 ≡ 34 = same_head 39 34 inner ((piece ++ 34 ∷ []) ++ end_of left) (text ∙ ap (λ l. l ++ end_of left) is) in absurd (omega (arith, e))

double_begun : (inner : List ℕ) (pieces : List (List ℕ)) (b : IsBegun (34 ∷ inner) pieces)
    → Lacks 34 b.piece × Lacks 92 b.piece × (inner ≡ b.piece ++ 34 ∷ end_of b.left)
double_begun inner pieces b = go b.piece b.front b.left b.written b.whole
  where
    go : (piece front : List ℕ) (left : Option (List ℕ)) → IsWritten piece front → 34 ∷ inner ≡ front ++ end_of left
        → Lacks 34 piece × Lacks 92 piece × (inner ≡ piece ++ 34 ∷ end_of left)
    go [] front left (plain p is) text = absurd (p.some refl)
    go (x ∷ xs) front left (plain p is) text =
        absurd (first_lacks 34 x xs p.no_double (sym (same_head 34 x inner (xs ++ end_of left) (text ∙ ap (λ l. l ++ end_of left) is))))
    go piece front left (single lacks is) text =
        let e : 34 ≡ 39 = same_head 34 39 inner ((piece ++ 39 ∷ []) ++ end_of left) (text ∙ ap (λ l. l ++ end_of left) is) in absurd (omega (arith, e))
    go piece front left (double lacks unescaped is) text = (
      lacks,
      unescaped,
      same_tail 34 34 inner ((piece ++ 34 ∷ []) ++ end_of left) (text ∙ ap (λ l. l ++ end_of left) is) ∙ closed 34 piece left,
    )

-- and what one begins with that doesn't
plain_begun : (text : List ℕ) (pieces : List (List ℕ)) (b : IsBegun text pieces) → ((rest : List ℕ) → text ≢ 39 ∷ rest) → ((rest : List ℕ) → text ≢ 34 ∷ rest)
    → IsPlain b.piece × (text ≡ b.piece ++ end_of b.left)
plain_begun text pieces b unsingle undouble = go b.written
  where
    go : IsWritten b.piece b.front → IsPlain b.piece × (text ≡ b.piece ++ end_of b.left)
    go (plain p is) = (p, b.whole ∙ ap (λ l. l ++ end_of b.left) is)
    go (single lacks is) = absurd (unsingle ((b.piece ++ 39 ∷ []) ++ end_of b.left) (b.whole ∙ ap (λ l. l ++ end_of b.left) is))
    go (double lacks unescaped is) = absurd (undouble ((b.piece ++ 34 ∷ []) ++ end_of b.left) (b.whole ∙ ap (λ l. l ++ end_of b.left) is))

-- the pieces of a key that begins so
from_begun : (text piece : List ℕ) (left : Option (List ℕ)) (pieces : List (List ℕ)) (b : IsBegun text pieces) → piece ≡ b.piece → left ≡ b.left
    → (others : List (List ℕ)) × (pieces ≡ piece ∷ others) × IsLeft left others
from_begun text piece left pieces b same rest =
    (b.others, b.all ∙ ap (λ p. p ∷ b.others) (sym same), subst (λ (l : Option (List ℕ)). IsLeft l b.others) (sym rest) b.follow)

module _ (inner piece rest : List ℕ) where
  module _ (whole : inner ≡ piece ++ 39 ∷ rest) (lacks : Lacks 39 piece) where
    single_same : (pieces : List (List ℕ)) (b : IsBegun (39 ∷ inner) pieces) → (piece ≡ b.piece) × (rest ≡ end_of b.left)
    single_same pieces b =
        let k = single_begun inner pieces b in same_front 39 piece b.piece rest (end_of b.left) lacks k.0 (sym whole ∙ k.1)

    pub single_cut : (left : Option (List ℕ)) → rest ≡ end_of left → IsCut (39 ∷ inner) piece left
    single_cut left is =
        record {
          reads = reads (39 ∷ inner) piece (39 ∷ (piece ++ 39 ∷ [])) left (single lacks refl) text;
          alone = λ pieces key. let b = begun (39 ∷ inner) pieces key in let k = single_same pieces b in
              from_begun (39 ∷ inner) piece left pieces b k.0 (same_left left b.left (sym is ∙ k.1));
          shorter = room (39 ∷ inner) (39 ∷ (piece ++ 39 ∷ [])) left text;
        }
      where
        text : 39 ∷ inner ≡ (39 ∷ (piece ++ 39 ∷ [])) ++ end_of left
        text = ap (λ l. 39 ∷ l) (whole ∙ ap (λ l. piece ++ 39 ∷ l) is ∙ sym (closed 39 piece left))

    pub single_open : IsNoEnd rest → IsNoKey (39 ∷ inner)
    single_open unended pieces key = let b = begun (39 ∷ inner) pieces key in unended b.left (single_same pieces b).1

  module _ (whole : inner ≡ piece ++ 34 ∷ rest) (lacks : Lacks 34 piece) where
    double_same : (pieces : List (List ℕ)) (b : IsBegun (34 ∷ inner) pieces) → (piece ≡ b.piece) × (rest ≡ end_of b.left)
    double_same pieces b =
        let k = double_begun inner pieces b in same_front 34 piece b.piece rest (end_of b.left) lacks k.0 (sym whole ∙ k.2)

    pub double_cut : (left : Option (List ℕ)) → Lacks 92 piece → rest ≡ end_of left → IsCut (34 ∷ inner) piece left
    double_cut left unescaped is =
        record {
          reads = reads (34 ∷ inner) piece (34 ∷ (piece ++ 34 ∷ [])) left (double lacks unescaped refl) text;
          alone = λ pieces key. let b = begun (34 ∷ inner) pieces key in let k = double_same pieces b in
              from_begun (34 ∷ inner) piece left pieces b k.0 (same_left left b.left (sym is ∙ k.1));
          shorter = room (34 ∷ inner) (34 ∷ (piece ++ 34 ∷ [])) left text;
        }
      where
        text : 34 ∷ inner ≡ (34 ∷ (piece ++ 34 ∷ [])) ++ end_of left
        text = ap (λ l. 34 ∷ l) (whole ∙ ap (λ l. piece ++ 34 ∷ l) is ∙ sym (closed 34 piece left))

    pub double_open : IsNoEnd rest → IsNoKey (34 ∷ inner)
    double_open unended pieces key = let b = begun (34 ∷ inner) pieces key in unended b.left (double_same pieces b).1

    pub double_escaped : ¬ (Lacks 92 piece) → IsNoKey (34 ∷ inner)
    double_escaped escaped pieces key =
        let b = begun (34 ∷ inner) pieces key in escaped (subst (Lacks 92) (sym (double_same pieces b).0) (double_begun inner pieces b).1)

pub single_never : (inner : List ℕ) → Lacks 39 inner → IsNoKey (39 ∷ inner)
single_never inner lacks pieces key =
    let b = begun (39 ∷ inner) pieces key in in_between 39 b.piece (end_of b.left) (subst (Lacks 39) (single_begun inner pieces b).1 lacks)

pub double_never : (inner : List ℕ) → Lacks 34 inner → IsNoKey (34 ∷ inner)
double_never inner lacks pieces key =
    let b = begun (34 ∷ inner) pieces key in in_between 34 b.piece (end_of b.left) (subst (Lacks 34) (double_begun inner pieces b).2 lacks)

module _ (text piece : List ℕ) (left : Option (List ℕ)) (unsingle : (rest : List ℕ) → text ≢ 39 ∷ rest) (undouble : (rest : List ℕ) → text ≢ 34 ∷ rest)
    (whole : text ≡ piece ++ end_of left) (undotted : Lacks 46 piece) where
  plain_same : (pieces : List (List ℕ)) (b : IsBegun text pieces) → (piece ≡ b.piece) × (left ≡ b.left)
  plain_same pieces b =
      let k = plain_begun text pieces b unsingle undouble in same_plain piece b.piece left b.left undotted k.0.no_dot (sym whole ∙ k.1)

  pub plain_cut : IsPlain piece → IsCut text piece left
  plain_cut p =
      record {
        reads = reads text piece piece left (plain p refl) whole;
        alone = λ pieces key. let b = begun text pieces key in let k = plain_same pieces b in from_begun text piece left pieces b k.0 k.1;
        shorter = room text piece left whole;
      }

  pub plain_none : ¬ (IsPlain piece) → IsNoKey text
  plain_none unplain pieces key =
      let b = begun text pieces key in
      unplain (subst IsPlain (sym (plain_same pieces b).0) (plain_begun text pieces b unsingle undouble).0)

-- a key is the pieces so far and those of what is left
pub record IsSoFar (key : List ℕ) (pieces : List (List ℕ)) (left : Option (List ℕ)) : Type 0 where
  pub reads : (others : List (List ℕ)) → IsLeft left others → IsKey key (pieces ++ others)
  pub alone : (all : List (List ℕ)) → IsKey key all → (others : List (List ℕ)) × (all ≡ pieces ++ others) × IsLeft left others

pub at_start : (key : List ℕ) → IsSoFar key [] (Some key)
at_start key = record { reads = λ others h. h; alone = λ all h. (all, refl, h) }

pub at_end : (key : List ℕ) (pieces : List (List ℕ)) → IsSoFar key pieces None → IsKey key pieces
at_end key pieces h = subst (IsKey key) (append-nil pieces) (h.reads [] refl)

pub one_more : (key text piece : List ℕ) (pieces : List (List ℕ)) (left : Option (List ℕ)) → IsSoFar key pieces (Some text) → IsCut text piece left
    → IsSoFar key (pieces ++ piece ∷ []) left
one_more key text piece pieces left h cut =
    record {
      reads = λ others follow. subst (IsKey key) (sym (append_assoc pieces (piece ∷ []) others)) (h.reads (piece ∷ others) (cut.reads others follow));
      alone = λ all whole.
          let k = h.alone all whole in
          let m = cut.alone k.0 k.2 in (
            m.0,
            k.1 ∙ ap (λ l. pieces ++ l) m.1 ∙ sym (append_assoc pieces (piece ∷ []) m.0),
            m.2,
          );
    }

pub no_key : (key text : List ℕ) (pieces : List (List ℕ)) → IsSoFar key pieces (Some text) → IsNoKey text → IsNoKey key
no_key key text pieces h none all whole = let k = h.alone all whole in none k.0 k.2
