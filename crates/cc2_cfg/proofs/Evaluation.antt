-- Steps of the evaluation.
use Rattle.std.proofs.Common.{◌≡◌, ℕ, zero, suc, ◌+◌, ◌<◌, ◌≤◌, List, [], ◌∷◌, ◌++◌, length, get_or}
use Rattle.std.proofs.Common.{drop, map, refl, sym, ap, ◌∙◌, arith, subst, append_assoc, append-nil, length-append, add-one, inl, inr}
use Rattle.std.specs.Prelude.{reverse}
use Rattle.std.proofs.lemmas.List.{reverse-append}
use Rattle.std.specs.Prelude.{◌⊎◌}
use Rattle.std.proofs.lemmas.List.{drop_at, drop-drop}
use Rattle.cc2_cfg.specs.Tokens.{Operator, OpAll, OpAny, OpNot}
use Rattle.cc2_cfg.specs.Grammar.{Tree, Trees, Flag, Pair, AllOf, AnyOf, NotOf, NoTrees, MoreTrees}
use Rattle.cc2_cfg.specs.Meaning.{Operations, IsLogic, Atom, FlagAtom, PairAtom, meaning, conj_from, disj_from}
use Rattle.cc2_cfg.specs.Table.{Row, Leaf, Group, label_of, row_of, rows, rows_of, tree_size, trees_size, operator_of, IsTable}
use Rattle.cc2_cfg.specs.Running.{IsDecided, initial, add, closed, finished}
use Rattle.cc2_cfg.proofs.Pending.{add_all, Outer, Pending}
use Rattle.cc2_cfg.specs.declared.expression.Node.{Node}
use Rattle.cc2_cfg.specs.declared.evaluator.Open.{Open}

pub tree-some : (t : Tree) → 0 < tree_size t
tree-some (Flag w) = omega arith
tree-some (Pair k v) = omega arith
tree-some (AllOf ts) = omega arith
tree-some (AnyOf ts) = omega arith
tree-some (NotOf t) = omega arith

mutual
  pub rows-length : (t : Tree) (at : ℕ) → length (rows t at) ≡ tree_size t
  rows-length (Flag w) at = refl
  rows-length (Pair k v) at = refl
  rows-length (AllOf ts) at = let h = rows_of-length ts (at + 1) in omega (arith, h)
  rows-length (AnyOf ts) at = let h = rows_of-length ts (at + 1) in omega (arith, h)
  rows-length (NotOf t) at = let h = rows-length t (at + 1) in omega (arith, h)

  pub rows_of-length : (ts : Trees) (at : ℕ) → length (rows_of ts at) ≡ trees_size ts
  rows_of-length NoTrees at = refl
  rows_of-length (MoreTrees t ts) at = omega (arith, length-append (rows t at) (rows_of ts (at + tree_size t)), rows-length t at, rows_of-length ts (at + tree_size t))

row-drop : (xs : List Node) (i : ℕ) (n : Node) → i < length xs → n ≡ get_or xs i n → drop i (map row_of xs) ≡ row_of n ∷ drop (suc i) (map row_of xs)
row-drop [] i n l e = absurd (omega arith)
row-drop (x ∷ xs) zero n l e = ap (λ (z : Node). row_of z ∷ map row_of xs) (sym e)
row-drop (x ∷ xs) (suc i) n l e = row-drop xs i n (omega arith) e

-- the row at a place
pub drop-row : (xs : List Node) (i : ℕ) (n : Node) → i < length xs → n ≡ get_or xs i n → drop i (map row_of xs) ≡ row_of n ∷ drop (i + 1) (map row_of xs)
drop-row xs i n l e = rw (add-one i) (row-drop xs i n l e)

pub head-same : (a b : Row) (x y : List Row) → a ∷ x ≡ b ∷ y → a ≡ b
head-same a b x y e = cc

pub tail-same : (a b : Row) (x y : List Row) → a ∷ x ≡ b ∷ y → x ≡ y
tail-same a b x y e = cc

leaf-same : (a b : Atom) → Leaf a ≡ Leaf b → a ≡ b
leaf-same a b e = cc

pub group-same : (f g : Operator) → Group f ≡ Group g → f ≡ g
group-same f g e = cc

drop-all : {A : Type 0} (xs : List A) (i : ℕ) → length xs ≤ i → drop i xs ≡ []
drop-all [] zero l = refl
drop-all [] (suc i) l = refl
drop-all (x ∷ xs) zero l = absurd (omega arith)
drop-all (x ∷ xs) (suc i) l = drop-all xs i (omega arith)

pub map-length : (xs : List Node) → length (map row_of xs) ≡ length xs
map-length [] = refl
map-length (x ∷ xs) = let h = map-length xs in omega (arith, h)

pub drop-end : (xs : List Node) (i : ℕ) → length xs ≤ i → drop i (map row_of xs) ≡ []
drop-end xs i l = drop-all (map row_of xs) i (omega (arith, map-length xs))

-- a table isn't empty
pub table-some : (nodes : List Node) (tree : Tree) → IsTable nodes tree → 0 < length nodes
table-some nodes tree h = omega (arith, tree-some tree, sym (map-length nodes) ∙ ap length h ∙ rows-length tree 0)

module _ {T : Type 0} (o : Operations T) (answers : Atom → T) where
  all-meaning : (x : T) (ts : Trees) → add_all o answers OpAll x ts ≡ conj_from o answers x ts
  all-meaning x NoTrees = refl
  all-meaning x (MoreTrees t ts) = all-meaning (o.conj x (meaning o answers t)) ts

  any-meaning : (x : T) (ts : Trees) → add_all o answers OpAny x ts ≡ disj_from o answers x ts
  any-meaning x NoTrees = refl
  any-meaning x (MoreTrees t ts) = any-meaning (o.disj x (meaning o answers t)) ts

  first-leaf : (tree : Tree) (row : Row) (rest : List Row) (a : Atom) → row ∷ rest ≡ rows tree 0 → row.label ≡ Leaf a → meaning o answers tree ≡ answers a
  first-leaf (Flag w) row rest a r label = ap answers (leaf-same (FlagAtom w) a (ap (λ (z : Row). z.label) (sym (head-same _ _ _ _ r)) ∙ label))
  first-leaf (Pair k w) row rest a r label = ap answers (leaf-same (PairAtom k w) a (ap (λ (z : Row). z.label) (sym (head-same _ _ _ _ r)) ∙ label))
  first-leaf (AllOf cs) row rest a r label = cc (sym label ∙ ap (λ (z : Row). z.label) (head-same _ _ _ _ r))
  first-leaf (AnyOf cs) row rest a r label = cc (sym label ∙ ap (λ (z : Row). z.label) (head-same _ _ _ _ r))
  first-leaf (NotOf t) row rest a r label = cc (sym label ∙ ap (λ (z : Row). z.label) (head-same _ _ _ _ r))

  root-step : (row : Row) (rest : List Row) (v : T) (h k : Operator) (n : ℕ) (inner : Trees) → row.label ≡ Group h → row ≡ record { label = Group k; end = 0 + (1 + n) }
      → n ≡ trees_size inner → rest ≡ rows_of inner (0 + 1) → v ≡ closed o k (add_all o answers k (initial o k) inner) → Pending o answers [] h row.end (initial o h) 1 rest v
  root-step row rest v h k n inner label is size r mean =
      let same = group-same k h (ap (λ (z : Row). z.label) (sym is) ∙ label) in
      let end : row.end ≡ 0 + (1 + n) = ap (λ (z : Row). z.end) is in
      subst (λ (j : Operator). Pending o answers [] j row.end (initial o j) 1 rest v) same (inner, [], r ∙ sym (append-nil (rows_of inner (0 + 1))), omega arith, (refl, mean))

  first-group : (laws : IsLogic o) (tree : Tree) (row : Row) (rest : List Row) (h : Operator) → row ∷ rest ≡ rows tree 0 → row.label ≡ Group h
      → Pending o answers [] h row.end (initial o h) 1 rest (meaning o answers tree)
  first-group laws (Flag w) row rest h r label = cc (sym label ∙ ap (λ (z : Row). z.label) (head-same _ _ _ _ r))
  first-group laws (Pair k w) row rest h r label = cc (sym label ∙ ap (λ (z : Row). z.label) (head-same _ _ _ _ r))
  first-group laws (AllOf cs) row rest h r label =
      root-step row rest _ h OpAll (trees_size cs) cs label (head-same _ _ _ _ r) refl (tail-same _ _ _ _ r) (sym (all-meaning o.top cs))
  first-group laws (AnyOf cs) row rest h r label =
      root-step row rest _ h OpAny (trees_size cs) cs label (head-same _ _ _ _ r) refl (tail-same _ _ _ _ r) (sym (any-meaning o.bottom cs))
  first-group laws (NotOf t) row rest h r label =
      root-step row rest _ h OpNot (tree_size t) (MoreTrees t NoTrees) label (head-same _ _ _ _ r) (omega arith)
      (tail-same _ _ _ _ r ∙ sym (append-nil (rows t (0 + 1)))) (ap o.neg (sym (laws.conj_top (meaning o answers t))))

  -- a root that is a predicate
  pub start-leaf : (nodes : List Node) (tree : Tree) (n : Node) (a : Atom) → IsTable nodes tree → n ≡ get_or nodes 0 n → label_of n.kind ≡ Leaf a
      → meaning o answers tree ≡ answers a
  start-leaf nodes tree n a h is label =
      first-leaf tree (row_of n) (drop 1 (map row_of nodes)) a (sym (drop-row nodes 0 n (table-some nodes tree h) is) ∙ h) label

  -- a root that is a function
  pub start-group : (laws : IsLogic o) (nodes : List Node) (tree : Tree) (n : Node) (h : Operator) → IsTable nodes tree → n ≡ get_or nodes 0 n → label_of n.kind ≡ Group h
      → Pending o answers [] h n.end (initial o h) 1 (drop 1 (map row_of nodes)) (meaning o answers tree)
  start-group laws nodes tree n h table is label =
      first-group laws tree (row_of n) (drop 1 (map row_of nodes)) h (sym (drop-row nodes 0 n (table-some nodes tree table) is) ∙ table) label

  -- a function that is over
  pub pop-pending : (g : Open T) (outer : List (Open T)) (f : Operator) (end : ℕ) (x : T) (at : ℕ) (rest : List Row) (v : T)
      → Pending o answers (g ∷ outer) f end x at rest v → at ≡ end
      → Pending o answers outer (operator_of g.func) g.end (add o (operator_of g.func) g.value (closed o f x)) at rest v
  pop-pending g outer f end x at rest v (NoTrees, later, r, e, p) same =
      let q = subst (λ (z : List Row). Outer o answers (g ∷ outer) (closed o f x) end z v) (sym r) p in
      subst (λ (z : ℕ). Pending o answers outer (operator_of g.func) g.end (add o (operator_of g.func) g.value (closed o f x)) z rest v) (sym same) q
  pop-pending g outer f end x at rest v (MoreTrees t ts, later, r, e, p) same = absurd (omega (arith, tree-some t))

  leaf-step : (outer : List (Open T)) (f : Operator) (end : ℕ) (x : T) (at : ℕ) (row : Row) (rest : List Row) (v : T) (a b : Atom) (ts : Trees) (later : List Row)
      → row.label ≡ Leaf a → record { label = Leaf b; end = at + 1 } ≡ row → rest ≡ rows_of ts (at + 1) ++ later → end ≡ at + (1 + trees_size ts)
      → Outer o answers outer (closed o f (add_all o answers f (add o f x (answers b)) ts)) end later v
      → Pending o answers outer f end (add o f x (answers a)) (at + 1) rest v
  leaf-step outer f end x at row rest v a b ts later label is r e p =
      let same = leaf-same b a (ap (λ (z : Row). z.label) is ∙ label) in
      (ts, later, r, omega arith, subst (λ (z : Atom). Outer o answers outer (closed o f (add_all o answers f (add o f x (answers z)) ts)) end later v) same p)

  -- a predicate
  pub leaf-pending : (outer : List (Open T)) (f : Operator) (end : ℕ) (x : T) (at : ℕ) (row : Row) (rest : List Row) (v : T) (a : Atom)
      → Pending o answers outer f end x at (row ∷ rest) v → (at ≡ end → ⊥) → row.label ≡ Leaf a
      → Pending o answers outer f end (add o f x (answers a)) (at + 1) rest v
  leaf-pending outer f end x at row rest v a (NoTrees, later, r, e, p) ne label = absurd (ne (omega arith))
  leaf-pending outer f end x at row rest v a (MoreTrees (Flag w) ts, later, r, e, p) ne label =
      leaf-step outer f end x at row rest v a (FlagAtom w) ts later label (sym (head-same _ _ _ _ r)) (tail-same _ _ _ _ r) e p
  leaf-pending outer f end x at row rest v a (MoreTrees (Pair k w) ts, later, r, e, p) ne label =
      leaf-step outer f end x at row rest v a (PairAtom k w) ts later label (sym (head-same _ _ _ _ r)) (tail-same _ _ _ _ r) e p
  leaf-pending outer f end x at row rest v a (MoreTrees (AllOf cs) ts, later, r, e, p) ne label = cc (sym label ∙ ap (λ (z : Row). z.label) (head-same _ _ _ _ r))
  leaf-pending outer f end x at row rest v a (MoreTrees (AnyOf cs) ts, later, r, e, p) ne label = cc (sym label ∙ ap (λ (z : Row). z.label) (head-same _ _ _ _ r))
  leaf-pending outer f end x at row rest v a (MoreTrees (NotOf cs) ts, later, r, e, p) ne label = cc (sym label ∙ ap (λ (z : Row). z.label) (head-same _ _ _ _ r))

  group-step : (g : Open T) (outer : List (Open T)) (at : ℕ) (row : Row) (rest : List Row) (v : T) (h k : Operator) (n : ℕ) (inner ts : Trees) (later : List Row) (m : T)
      → row.label ≡ Group h → row ≡ record { label = Group k; end = at + (1 + n) } → n ≡ trees_size inner
      → rest ≡ rows_of inner (at + 1) ++ (rows_of ts (at + (1 + n)) ++ later)
      → m ≡ closed o k (add_all o answers k (initial o k) inner)
      → g.end ≡ at + ((1 + n) + trees_size ts)
      → Outer o answers outer (closed o (operator_of g.func) (add_all o answers (operator_of g.func) (add o (operator_of g.func) g.value m) ts)) g.end later v
      → Pending o answers (g ∷ outer) h row.end (initial o h) (at + 1) rest v
  group-step g outer at row rest v h k n inner ts later m label is size r mean e p =
      let same = group-same k h (ap (λ (z : Row). z.label) (sym is) ∙ label) in
      let end : row.end ≡ at + (1 + n) = ap (λ (z : Row). z.end) is in
      let P = λ (z : ℕ) (j : Operator). Pending o answers (g ∷ outer) j z (initial o j) (at + 1) rest v in
      subst (λ (j : Operator). P row.end j) same (subst (λ (z : ℕ). P z k) (sym end) (
        inner,
        rows_of ts (at + (1 + n)) ++ later,
        r,
        omega arith,
        (
          ts,
          later,
          refl,
          omega arith,
          subst (λ (z : T). Outer o answers outer (closed o (operator_of g.func) (add_all o answers (operator_of g.func) (add o (operator_of g.func) g.value z) ts)) g.end later v) mean p,
        ),
      ))

  -- a function
  pub group-pending : (laws : IsLogic o) (g : Open T) (outer : List (Open T)) (at : ℕ) (row : Row) (rest : List Row) (v : T) (h : Operator)
      → Pending o answers outer (operator_of g.func) g.end g.value at (row ∷ rest) v → (at ≡ g.end → ⊥) → row.label ≡ Group h
      → Pending o answers (g ∷ outer) h row.end (initial o h) (at + 1) rest v
  group-pending laws g outer at row rest v h (NoTrees, later, r, e, p) ne label = absurd (ne (omega arith))
  group-pending laws g outer at row rest v h (MoreTrees (Flag w) ts, later, r, e, p) ne label = cc (sym label ∙ ap (λ (z : Row). z.label) (head-same _ _ _ _ r))
  group-pending laws g outer at row rest v h (MoreTrees (Pair k w) ts, later, r, e, p) ne label = cc (sym label ∙ ap (λ (z : Row). z.label) (head-same _ _ _ _ r))
  group-pending laws g outer at row rest v h (MoreTrees (AllOf cs) ts, later, r, e, p) ne label =
      group-step g outer at row rest v h OpAll (trees_size cs) cs ts later (meaning o answers (AllOf cs)) label (head-same _ _ _ _ r) refl
      (tail-same _ _ _ _ r ∙ append_assoc (rows_of cs (at + 1)) (rows_of ts (at + (1 + trees_size cs))) later) (sym (all-meaning o.top cs)) e p
  group-pending laws g outer at row rest v h (MoreTrees (AnyOf cs) ts, later, r, e, p) ne label =
      group-step g outer at row rest v h OpAny (trees_size cs) cs ts later (meaning o answers (AnyOf cs)) label (head-same _ _ _ _ r) refl
      (tail-same _ _ _ _ r ∙ append_assoc (rows_of cs (at + 1)) (rows_of ts (at + (1 + trees_size cs))) later) (sym (any-meaning o.bottom cs)) e p
  group-pending laws g outer at row rest v h (MoreTrees (NotOf t) ts, later, r, e, p) ne label =
      group-step g outer at row rest v h OpNot (tree_size t) (MoreTrees t NoTrees) ts later (meaning o answers (NotOf t)) label (head-same _ _ _ _ r) (omega arith)
      (tail-same _ _ _ _ r ∙ append_assoc (rows t (at + 1)) (rows_of ts (at + (1 + tree_size t))) later
      ∙ ap (λ (z : List Row). z ++ (rows_of ts (at + (1 + tree_size t)) ++ later)) (sym (append-nil (rows t (at + 1)))))
      (ap o.neg (sym (laws.conj_top (meaning o answers t)))) e p

  outer-finish : (outer : List (Open T)) (y : T) (at : ℕ) (v : T) → Outer o answers outer y at [] v → v ≡ finished o outer y
  outer-finish [] y at v p = p.1
  outer-finish (g ∷ outer) y at v (NoTrees, later, r, e, p) =
      outer-finish outer (closed o (operator_of g.func) (add o (operator_of g.func) g.value y)) g.end v
      (subst (λ (z : List Row). Outer o answers outer (closed o (operator_of g.func) (add o (operator_of g.func) g.value y)) g.end z v) (sym r) p)
  outer-finish (g ∷ outer) y at v (MoreTrees t ts, later, r, e, p) =
      absurd (omega (arith, ap length r, length-append (rows_of (MoreTrees t ts) at) later, rows_of-length (MoreTrees t ts) at, tree-some t))

  -- the end of the table
  pub end-pending : (outer : List (Open T)) (f : Operator) (end : ℕ) (x : T) (at : ℕ) (v : T) → Pending o answers outer f end x at [] v → v ≡ finished o outer (closed o f x)
  end-pending outer f end x at v (NoTrees, later, r, e, p) = outer-finish outer (closed o f x) end v (subst (λ (z : List Row). Outer o answers outer (closed o f x) end z v) (sym r) p)
  end-pending outer f end x at v (MoreTrees t ts, later, r, e, p) =
      absurd (omega (arith, ap length r, length-append (rows_of (MoreTrees t ts) at) later, rows_of-length (MoreTrees t ts) at, tree-some t))

  pub pending-along : (outer outer' : List (Open T)) (f f' : Operator) (end end' : ℕ) (x x' : T) (at : ℕ) (rest rest' : List Row) (v : T)
      → outer ≡ outer' → f ≡ f' → end ≡ end' → x ≡ x' → rest ≡ rest' → Pending o answers outer f end x at rest v → Pending o answers outer' f' end' x' at rest' v
  pending-along outer outer' f f' end end' x x' at rest rest' v eo ef ee ex er p =
      subst (λ (z : List (Open T)). Pending o answers z f' end' x' at rest' v) eo
      (subst (λ (z : Operator). Pending o answers outer z end' x' at rest' v) ef
      (subst (λ (z : ℕ). Pending o answers outer f z x' at rest' v) ee
      (subst (λ (z : T). Pending o answers outer f end z at rest' v) ex
      (subst (λ (z : List Row). Pending o answers outer f end x at z v) er p))))

  -- the outermost function is over
  pub last-pending : (outer : List (Open T)) (f : Operator) (end : ℕ) (x : T) (at : ℕ) (rest : List Row) (v : T) → length outer ≡ 0
      → Pending o answers outer f end x at rest v → at ≡ end → v ≡ closed o f x
  last-pending [] f end x at rest v none (NoTrees, later, r, e, p) same = p.1
  last-pending [] f end x at rest v none (MoreTrees t ts, later, r, e, p) same = absurd (omega (arith, tree-some t))
  last-pending (g ∷ outer) f end x at rest v none p same = absurd (omega arith)

  pub leaf-next : (nodes : List Node) (i : ℕ) (n : Node) (outer : List (Open T)) (f : Operator) (end : ℕ) (x : T) (v : T) (a : Atom) (r : T)
      → i < length nodes → n ≡ get_or nodes i n → label_of n.kind ≡ Leaf a → (i ≡ end → ⊥) → r ≡ answers a
      → Pending o answers outer f end x i (drop i (map row_of nodes)) v → Pending o answers outer f end (add o f x r) (i + 1) (drop (i + 1) (map row_of nodes)) v
  leaf-next nodes i n outer f end x v a r lt is label ne answer p =
      let at = subst (λ (z : List Row). Pending o answers outer f end x i z v) (drop-row nodes i n lt is) p in
      subst (λ (z : T). Pending o answers outer f end (add o f x z) (i + 1) (drop (i + 1) (map row_of nodes)) v) (sym answer)
      (leaf-pending outer f end x i (row_of n) (drop (i + 1) (map row_of nodes)) v a at ne label)

  pub group-next : (laws : IsLogic o) (nodes : List Node) (i : ℕ) (n : Node) (outer : List (Open T)) (g : Open T) (v : T) (h : Operator)
      → i < length nodes → n ≡ get_or nodes i n → label_of n.kind ≡ Group h → (i ≡ g.end → ⊥)
      → Pending o answers outer (operator_of g.func) g.end g.value i (drop i (map row_of nodes)) v
      → Pending o answers (g ∷ outer) h n.end (initial o h) (i + 1) (drop (i + 1) (map row_of nodes)) v
  group-next laws nodes i n outer g v h lt is label ne p =
      let at = subst (λ (z : List Row). Pending o answers outer (operator_of g.func) g.end g.value i z v) (drop-row nodes i n lt is) p in
      group-pending laws g outer i (row_of n) (drop (i + 1) (map row_of nodes)) v h at ne label

pub reverse-snoc : {A : Type 0} (xs : List A) (x : A) → reverse (xs ++ x ∷ []) ≡ x ∷ reverse xs
reverse-snoc xs x = reverse-append xs (x ∷ [])

pub reverse-none : {A : Type 0} (xs : List A) → length xs ≡ 0 → length (reverse xs) ≡ 0
reverse-none [] h = h
reverse-none (x ∷ xs) h = absurd (omega arith)

pub finished-none : {T : Type 0} (o : Operations T) (outer : List (Open T)) (y : T) → length outer ≡ 0 → finished o outer y ≡ y
finished-none o [] y none = refl
finished-none o (g ∷ outer) y none = absurd (omega arith)

drop-more : {A : Type 0} (xs ys zs : List A) (at n : ℕ) → drop at xs ≡ ys ++ zs → n ≡ length ys → drop (at + n) xs ≡ zs
drop-more xs ys zs at n e k = sym (drop-drop n at xs) ∙ ap (λ (z : List _). drop n z) e ∙ drop_at ys zs n (sym k)

module _ {T : Type 0} (o : Operations T) (answers : Atom → T) where
  decided-same : (f : Operator) (x : T) (ts : Trees) → IsDecided o f x → add_all o answers f x ts ≡ x
  decided-same f x NoTrees d = refl
  decided-same f x (MoreTrees t ts) d = ap (λ (z : T). add_all o answers f z ts) (d (meaning o answers t)) ∙ decided-same f x ts d

  -- a function that is decided is left at once
  skip-pending : (rows' : List Row) (outer : List (Open T)) (f : Operator) (end : ℕ) (x : T) (at : ℕ) (v : T)
      → Pending o answers outer f end x at (drop at rows') v → IsDecided o f x → (at ≤ end) × Pending o answers outer f end x end (drop end rows') v
  skip-pending rows' outer f end x at v (ts, later, r, e, p) d = (
    omega arith,
    (
      NoTrees,
      later,
      ap (λ (k : ℕ). drop k rows') e ∙ drop-more rows' (rows_of ts at) later at (trees_size ts) r (sym (rows_of-length ts at)),
      omega arith,
      subst (λ (z : T). Outer o answers outer (closed o f z) end later v) (decided-same f x ts d) p,
    ),
  )

  -- where a function is over, what follows it is pending
  pub over-pending : (rows' : List Row) (outer : List (Open T)) (f : Operator) (end : ℕ) (x : T) (at : ℕ) (v : T)
      → Pending o answers outer f end x at (drop at rows') v → (at ≡ end) ⊎ IsDecided o f x → (at ≤ end) × Pending o answers outer f end x end (drop end rows') v
  over-pending rows' outer f end x at v p (inl same) = (omega arith, subst (λ (k : ℕ). Pending o answers outer f end x k (drop k rows') v) same p)
  over-pending rows' outer f end x at v p (inr d) = skip-pending rows' outer f end x at v p d
