-- How the table grows.
use Rattle.std.proofs.Common.{◌≡◌, ℕ, ◌+◌, ◌<◌, Bool, true, false, List, [], ◌∷◌, ◌++◌, length, get_or, drop, map}
use Rattle.std.proofs.Common.{set, refl, sym, ap, ◌∙◌, arith, append_assoc, append-nil, length-append, Option, Some, None, inl, inr, ◌==◌}
use Rattle.std.specs.Prelude.{reverse, is_some, ◌⊎◌}
use Rattle.std.proofs.lemmas.Bool.{eq-eqb, ne_eqb}
use Rattle.std.proofs.lemmas.List.{drop_at, reverse-reverse, map-append}
use Rattle.cc2_cfg.specs.Tokens.{Operator, OpAll, OpAny, OpNot, Close, Comma}
use Rattle.cc2_cfg.specs.Grammar.{Tree, Trees, Flag, Pair, AllOf, AnyOf, NotOf, NoTrees, MoreTrees}
use Rattle.cc2_cfg.specs.Machine.{Frames, State, Bottom, Above, Start, Named, Opened, Separated, Keyed, Waiting, Ended, Rooted, snoc, close, ended, step}
use Rattle.cc2_cfg.specs.Table.{Row, Label, Group, label_of, row_of, rows, rows_of, tree_size, trees_size}
use Rattle.cc2_cfg.specs.Reading.{Represents, Stepped, settled, single, is_not, front_rows, places, frame_place, phase_of, AtEnd, AtComma, AtOpen}
use Rattle.cc2_cfg.specs.declared.expression.Node.{Node}
use Rattle.cc2_cfg.specs.declared.parser.Frame.{Frame}
use Rattle.cc2_cfg.specs.declared.parser.Parser.{Parser}
use Rattle.cc2_cfg.proofs.Evaluation.{rows_of-length, head-same, tail-same, map-length, drop-row, tree-some, reverse-snoc}

head-nat : (a b : ℕ) (x y : List ℕ) → a ∷ x ≡ b ∷ y → a ≡ b
head-nat a b x y e = cc

tail-nat : (a b : ℕ) (x y : List ℕ) → a ∷ x ≡ b ∷ y → x ≡ y
tail-nat a b x y e = cc

some-tree : (t u : Tree) → Some t ≡ Some u → t ≡ u
some-tree t u e = cc

abbrev row-at : Label → ℕ → Row
row-at a m = record { label = a; end = m }

same-row : (a b : Label) (m n : ℕ) → a ≡ b → m ≡ n → row-at a m ≡ row-at b n
same-row a b m n e g = cc

rows_of-snoc : (ts : Trees) (t : Tree) (at : ℕ) → rows_of (snoc ts t) at ≡ rows_of ts at ++ rows t (at + trees_size ts)
rows_of-snoc NoTrees t at = append-nil (rows t at) ∙ ap (λ (k : ℕ). rows t k) (omega arith)
rows_of-snoc (MoreTrees u ts) t at =
    let k : (at + tree_size u) + trees_size ts ≡ at + (tree_size u + trees_size ts) = omega arith in
    ap (λ (z : List Row). rows u at ++ z) (rows_of-snoc ts t (at + tree_size u) ∙ ap (λ (n : ℕ). rows_of ts (at + tree_size u) ++ rows t n) k)
    ∙ sym (append_assoc (rows u at) (rows_of ts (at + tree_size u)) (rows t (at + (tree_size u + trees_size ts))))

front-length : (f : Operator) (ts : Trees) (frames : Frames) → length (front_rows (Above f ts frames)) ≡ length (front_rows frames) + (1 + trees_size ts)
front-length f ts frames =
    omega (arith, length-append (front_rows frames) (record { label = Group f; end = 0 } ∷ rows_of ts (length (front_rows frames) + 1)), rows_of-length ts (length (front_rows frames) + 1))

-- one more predicate in the innermost function
pub front-snoc : (f : Operator) (ts : Trees) (frames : Frames) (t : Tree)
    → front_rows (Above f ts frames) ++ rows t (length (front_rows (Above f ts frames))) ≡ front_rows (Above f (snoc ts t) frames)
front-snoc f ts frames t =
    let n = length (front_rows frames) in
    let k : length (front_rows (Above f ts frames)) ≡ (n + 1) + trees_size ts = omega (arith, front-length f ts frames) in
    append_assoc (front_rows frames) (record { label = Group f; end = 0 } ∷ rows_of ts (n + 1)) (rows t (length (front_rows (Above f ts frames))))
    ∙ ap (λ (z : List Row). front_rows frames ++ (record { label = Group f; end = 0 } ∷ z))
    (ap (λ (j : ℕ). rows_of ts (n + 1) ++ rows t j) k ∙ sym (rows_of-snoc ts t (n + 1)))

-- a comma after a predicate
pub comma-end : (p q : Parser) (s : State) → Represents p (settled s) → phase_of p.last ≡ AtEnd → phase_of q.last ≡ AtComma → q.nodes ≡ p.nodes → q.stack ≡ p.stack
    → Stepped (step s Comma) true q
comma-end p q (Ended Bottom t) r e g n m = (refl, record { phase = g; table = ap (λ (z : _). map row_of z.items) n ∙ r.table; stack = ap (λ (z : _). map frame_place z.items) m ∙ r.stack })
comma-end p q (Ended (Above f ts frames) t) r e g n m =
    (refl, record { phase = g; table = ap (λ (z : _). map row_of z.items) n ∙ r.table ∙ front-snoc f ts frames t; stack = ap (λ (z : _). map frame_place z.items) m ∙ r.stack })
comma-end p q (Keyed Bottom w) r e g n m = (refl, record { phase = g; table = ap (λ (z : _). map row_of z.items) n ∙ r.table; stack = ap (λ (z : _). map frame_place z.items) m ∙ r.stack })
comma-end p q (Keyed (Above f ts frames) w) r e g n m =
    (refl, record { phase = g; table = ap (λ (z : _). map row_of z.items) n ∙ r.table ∙ front-snoc f ts frames (Flag w); stack = ap (λ (z : _). map frame_place z.items) m ∙ r.stack })
comma-end p q Start r e g n m = cc (sym e ∙ r.phase)
comma-end p q (Named frames f) r e g n m = cc (sym e ∙ r.phase)
comma-end p q (Opened frames f) r e g n m = cc (sym e ∙ r.phase)
comma-end p q (Separated frames f ts) r e g n m = cc (sym e ∙ r.phase)
comma-end p q (Waiting frames w) r e g n m = cc (sym e ∙ r.phase)
comma-end p q (Rooted t) r e g n m = cc (sym e ∙ r.phase)

-- the first row of a tree
rows-first : (t : Tree) (at : ℕ) → (row : Row) × (more : List Row) × (rows t at ≡ row ∷ more) × (row.end ≡ at + tree_size t)
rows-first (Flag w) at = (_, _, refl, refl)
rows-first (Pair k v) at = (_, _, refl, refl)
rows-first (AllOf ts) at = (_, _, refl, refl)
rows-first (AnyOf ts) at = (_, _, refl, refl)
rows-first (NotOf t) at = (_, _, refl, refl)

-- the row of a node after others
row-behind : (nodes : List Node) (i : ℕ) (n : Node) (xs : List Row) (y : Row) (ys : List Row) → map row_of nodes ≡ xs ++ y ∷ ys → i ≡ length xs
    → i < length nodes → n ≡ get_or nodes i n → row_of n ≡ y
row-behind nodes i n xs y ys e at lt is =
    head-same _ _ _ _ (sym (drop-row nodes i n lt is) ∙ ap (λ (z : List Row). drop i z) e ∙ drop_at xs (y ∷ ys) i (sym at))

above-length : (nodes : List Node) (frames : Frames) (f : Operator) (ts : Trees) → map row_of nodes ≡ front_rows (Above f ts frames) → length nodes ≡ length (front_rows frames) + (1 + trees_size ts)
above-length nodes frames f ts e = sym (map-length nodes) ∙ ap length e ∙ front-length f ts frames

pub single-none : (nodes : List Node) (frames : Frames) (f : Operator) (ts : Trees) (place : ℕ) → map row_of nodes ≡ front_rows (Above f ts frames)
    → place ≡ length (front_rows frames) → place + 1 ≡ length nodes → false ≡ single ts
single-none nodes frames f NoTrees place e at last = refl
single-none nodes frames f (MoreTrees t ts) place e at last = absurd (omega (arith, above-length nodes frames f (MoreTrees t ts) e, tree-some t))

-- the first predicate of the innermost function
first-end : (nodes : List Node) (frames : Frames) (f : Operator) (t : Tree) (ts : Trees) (place : ℕ) (m : Node) → map row_of nodes ≡ front_rows (Above f (MoreTrees t ts) frames)
    → place ≡ length (front_rows frames) → place + 1 < length nodes → m ≡ get_or nodes (place + 1) m → m.end ≡ (place + 1) + tree_size t
first-end nodes frames f t ts place m e at lt is =
    let n = length (front_rows frames) in
    let front = front_rows frames ++ (record { label = Group f; end = 0 } ∷ []) in
    let h = rows-first t (n + 1) in
    let whole : map row_of nodes ≡ front ++ h.0 ∷ (h.1 ++ rows_of ts ((n + 1) + tree_size t)) =
    e ∙ sym (append_assoc (front_rows frames) (record { label = Group f; end = 0 } ∷ []) (rows t (n + 1) ++ rows_of ts ((n + 1) + tree_size t)))
    ∙ ap (λ (z : List Row). front ++ (z ++ rows_of ts ((n + 1) + tree_size t))) h.2 in
    let size : place + 1 ≡ length front = omega (arith, length-append (front_rows frames) (record { label = Group f; end = 0 } ∷ [])) in
    let same = row-behind nodes (place + 1) m front h.0 (h.1 ++ rows_of ts ((n + 1) + tree_size t)) whole size lt is in
    omega (arith, ap (λ (z : Row). z.end) same, h.3)

pub single-some : (nodes : List Node) (frames : Frames) (f : Operator) (ts : Trees) (place : ℕ) (m : Node) → map row_of nodes ≡ front_rows (Above f ts frames)
    → place ≡ length (front_rows frames) → place + 1 < length nodes → m ≡ get_or nodes (place + 1) m → (m.end == length nodes) ≡ single ts
single-some nodes frames f NoTrees place m e at lt is = absurd (omega (arith, above-length nodes frames f NoTrees e))
single-some nodes frames f (MoreTrees t NoTrees) place m e at lt is =
    eq-eqb m.end (length nodes) (omega (arith, first-end nodes frames f t NoTrees place m e at lt is, above-length nodes frames f (MoreTrees t NoTrees) e))
single-some nodes frames f (MoreTrees t (MoreTrees u ts)) place m e at lt is =
    ne_eqb m.end (length nodes)
    (λ k. absurd (omega (arith, k, first-end nodes frames f t (MoreTrees u ts) place m e at lt is, above-length nodes frames f (MoreTrees t (MoreTrees u ts)) e, tree-some u)))

-- the row of the innermost function
pub top-row : (nodes : List Node) (frames : Frames) (f : Operator) (ts : Trees) (place : ℕ) (m : Node) → map row_of nodes ≡ front_rows (Above f ts frames)
    → place ≡ length (front_rows frames) → place < length nodes → m ≡ get_or nodes place m → label_of m.kind ≡ Group f
top-row nodes frames f ts place m e at lt is = ap (λ (z : Row). z.label) (row-behind nodes place m (front_rows frames) _ _ e at lt is)

pub may-single : (f : Operator) (ts : Trees) (b : Bool) → is_not (Group f) ≡ true → b ≡ single ts → b ≡ is_some (close f ts)
may-single OpNot NoTrees b e h = h
may-single OpNot (MoreTrees t NoTrees) b e h = h
may-single OpNot (MoreTrees t (MoreTrees u ts)) b e h = h
may-single OpAll ts b e h = cc e
may-single OpAny ts b e h = cc e

pub may-many : (f : Operator) (ts : Trees) → is_not (Group f) ≡ false → true ≡ is_some (close f ts)
may-many OpAll ts h = refl
may-many OpAny ts h = refl
may-many OpNot ts h = cc h

put-row : (nodes : List Node) (x : Node) (xs : List Row) (y : Row) (ys : List Row) → map row_of nodes ≡ xs ++ y ∷ ys → map row_of (set nodes (length xs) x) ≡ xs ++ row_of x ∷ ys
put-row [] x [] y ys e = cc e
put-row [] x (z ∷ xs) y ys e = cc e
put-row (n ∷ nodes) x [] y ys e = ap (λ (z : List Row). row_of x ∷ z) (tail-same _ _ _ _ e)
put-row (n ∷ nodes) x (z ∷ xs) y ys e =
    ap (λ (w : List Row). row_of n ∷ w) (put-row nodes x xs y ys (tail-same _ _ _ _ e)) ∙ ap (λ (w : Row). w ∷ (xs ++ row_of x ∷ ys)) (head-same _ _ _ _ e)

closed-rows : (f : Operator) (ts : Trees) (u : Tree) (n : ℕ) → close f ts ≡ Some u → record { label = Group f; end = n + (1 + trees_size ts) } ∷ rows_of ts (n + 1) ≡ rows u n
closed-rows OpAll ts u n e = ap (λ (z : Tree). rows z n) (some-tree (AllOf ts) u e)
closed-rows OpAny ts u n e = ap (λ (z : Tree). rows z n) (some-tree (AnyOf ts) u e)
closed-rows OpNot NoTrees u n e = cc e
closed-rows OpNot (MoreTrees t NoTrees) u n e =
    let k : n + (1 + (tree_size t + 0)) ≡ n + (1 + tree_size t) = omega arith in
    ap (λ (z : List Row). record { label = Group OpNot; end = n + (1 + (tree_size t + 0)) } ∷ z) (append-nil (rows t (n + 1)))
    ∙ ap (λ (j : ℕ). record { label = Group OpNot; end = j } ∷ rows t (n + 1)) k ∙ ap (λ (z : Tree). rows z n) (some-tree (NotOf t) u e)
closed-rows OpNot (MoreTrees t (MoreTrees u' ts)) u n e = cc e

pub last-same : (xs ys : List ℕ) (x y : ℕ) → xs ++ x ∷ [] ≡ ys ++ y ∷ [] → (xs ≡ ys) × (x ≡ y)
last-same xs ys x y e =
    let r : x ∷ reverse xs ≡ y ∷ reverse ys = sym (reverse-snoc xs x) ∙ ap reverse e ∙ reverse-snoc ys y in
    (sym (reverse-reverse xs) ∙ ap reverse (tail-nat x y (reverse xs) (reverse ys) r) ∙ reverse-reverse ys, head-nat x y (reverse xs) (reverse ys) r)

-- the innermost of the functions that are open
pub last-place : (frames : List Frame) (frame : Frame) (ps : List ℕ) (n : ℕ) → map frame_place (frames ++ frame ∷ []) ≡ ps ++ n ∷ [] → (map frame_place frames ≡ ps) × (frame.place ≡ n)
last-place frames frame ps n e = last-same (map frame_place frames) ps frame.place n (sym (map-append frame_place frames (frame ∷ [])) ∙ e)

-- there is one
pub some-frame : (frames : List Frame) (frame : Frame) → map frame_place (frames ++ frame ∷ []) ≡ [] → ⊥
some-frame [] frame e = cc e
some-frame (x ∷ frames) frame e = cc e

-- the innermost function ends
pub close-fits : (o : Option Tree) (nodes : List Node) (frames : Frames) (f : Operator) (ts : Trees) (x : Node) (q : Parser) → o ≡ close f ts → is_some o ≡ true
    → map row_of nodes ≡ front_rows (Above f ts frames) → label_of x.kind ≡ Group f → x.end ≡ length nodes
    → q.nodes.items ≡ set nodes (length (front_rows frames)) x → map frame_place q.stack.items ≡ places frames → phase_of q.last ≡ AtEnd → Stepped (ended frames o) true q
close-fits None nodes frames f ts x q o some e label end items stack phase = cc some
close-fits (Some u) nodes frames f ts x q o some e label end items stack phase =
    let n = length (front_rows frames) in
    let size : x.end ≡ n + (1 + trees_size ts) = end ∙ above-length nodes frames f ts e in
    let row : row_of x ≡ record { label = Group f; end = n + (1 + trees_size ts) } = same-row (label_of x.kind) (Group f) x.end (n + (1 + trees_size ts)) label size in (
      refl,
      record {
        phase = phase;
        table = ap (λ (z : List Node). map row_of z) items ∙ put-row nodes x (front_rows frames) _ (rows_of ts (n + 1)) e
            ∙ ap (λ (z : Row). front_rows frames ++ z ∷ rows_of ts (n + 1)) row ∙ ap (λ (z : List Row). front_rows frames ++ z) (closed-rows f ts u n (sym o));
        stack = stack;
      },
    )

pub close-refused : (o : Option Tree) (frames : Frames) (q : Parser) → is_some o ≡ false → Stepped (ended frames o) false q
close-refused None frames q none = refl
close-refused (Some u) frames q none = cc none

-- a closing bracket after a token that may end a predicate or begin or part a list
pub close-step : (p q : Parser) (s : State) (r : Bool) → Represents p (settled s)
    → ((frames : Frames) (f : Operator) (ts : Trees) → map row_of p.nodes.items ≡ front_rows (Above f ts frames)
    → map frame_place p.stack.items ≡ places (Above f ts frames) → Stepped (ended frames (close f ts)) r q)
    → (map frame_place p.stack.items ≡ [] → r ≡ false)
    → ((phase_of p.last ≡ AtOpen) ⊎ ((phase_of p.last ≡ AtComma) ⊎ (phase_of p.last ≡ AtEnd))) → Stepped (step s Close) r q
close-step p q (Opened frames f) r h some none at = some frames f NoTrees h.table h.stack
close-step p q (Separated frames f ts) r h some none at = some frames f ts h.table h.stack
close-step p q (Ended Bottom t) r h some none at = none h.stack
close-step p q (Ended (Above f ts frames) t) r h some none at = some frames f (snoc ts t) (h.table ∙ front-snoc f ts frames t) h.stack
close-step p q (Keyed Bottom w) r h some none at = none h.stack
close-step p q (Keyed (Above f ts frames) w) r h some none at = some frames f (snoc ts (Flag w)) (h.table ∙ front-snoc f ts frames (Flag w)) h.stack
close-step p q (Rooted t) r h some none at = none h.stack
close-step p q Start r h some none at = none h.stack
close-step p q (Named frames f) r h some none (inl e) = cc (sym e ∙ h.phase)
close-step p q (Named frames f) r h some none (inr (inl e)) = cc (sym e ∙ h.phase)
close-step p q (Named frames f) r h some none (inr (inr e)) = cc (sym e ∙ h.phase)
close-step p q (Waiting frames w) r h some none (inl e) = cc (sym e ∙ h.phase)
close-step p q (Waiting frames w) r h some none (inr (inl e)) = cc (sym e ∙ h.phase)
close-step p q (Waiting frames w) r h some none (inr (inr e)) = cc (sym e ∙ h.phase)
