-- What the parser knows between two tokens.
use Rattle.std.proofs.Common.{◌≡◌, ℕ, ◌<◌, List, [], ◌∷◌, ◌++◌, length, refl, sym, ap, ◌∙◌, arith, subst, append-nil, Option, Some, None, inl, inr}
use Rattle.std.specs.Prelude.{codes, Bool, true, false}
use Rattle.cc2_cfg.specs.Tokens.{Lexeme, Word, Quoted, Fun, Equals, Open, Close, Comma, OpAll, OpAny, OpNot, IsLexeme, IsBlank, spelling, Begins, Spells, Spelled, IsStripped}
use Rattle.cc2_cfg.specs.Lexing.{Fronts}
use Rattle.cc2_cfg.specs.Grammar.{Tree, IsTree}
use Rattle.cc2_cfg.specs.Machine.{State, Start, step, finish}
use Rattle.cc2_cfg.specs.Table.{IsTable}
use Rattle.cc2_cfg.specs.Reading.{Finished, Stepped, Represents}
use Rattle.cc2_cfg.specs.declared.parser.Parser.{Parser}
use Rattle.cc2_cfg.specs.Refusing.{NoTree}
use Rattle.cc2_cfg.proofs.Blanks.{blank-same, solid-spelling, solid-nil}
use Rattle.cc2_cfg.proofs.Words.{fronts-same, run-not-empty}
use Rattle.cc2_cfg.proofs.Reader.{from_state, run}
use Rattle.cc2_cfg.proofs.ReaderTakes.{run-tree, tree-unique}
use Rattle.cc2_cfg.proofs.ReaderGives.{tree-run}
use Rattle.cc2_cfg.proofs.Building.{last-same}

pub spelling-some : (t : Lexeme) (rest : List ℕ) → IsLexeme t → 0 < length (spelling t ++ rest)
spelling-some (Word w) rest h = run-not-empty w rest h.0
spelling-some (Quoted v) rest h = omega arith
spelling-some (Fun OpAll) rest h = omega arith
spelling-some (Fun OpAny) rest h = omega arith
spelling-some (Fun OpNot) rest h = omega arith
spelling-some Equals rest h = omega arith
spelling-some Open rest h = omega arith
spelling-some Close rest h = omega arith
spelling-some Comma rest h = omega arith

pub begins-same : (text : List ℕ) (t u : Lexeme) (x y : List ℕ) → Begins text t x → Begins text u y → (t ≡ u) × (x ≡ y)
begins-same text t u x y b d =
    let e = blank-same b.space d.space (spelling t ++ x) (spelling u ++ y) b.blank d.blank (solid-spelling t x b.valid) (solid-spelling u y d.valid) (sym b.whole ∙ d.whole) in
    let f : Fronts (spelling t ++ x) t x = record { valid = b.valid; ends = b.ends; whole = refl } in
    let g : Fronts (spelling t ++ x) u y = record { valid = d.valid; ends = d.ends; whole = e } in
    fronts-same (spelling t ++ x) t u x y f g

pub begins-not-blank : (text : List ℕ) (t : Lexeme) (x : List ℕ) → Begins text t x → IsBlank text → ⊥
begins-not-blank text t x b blank =
    let e = blank-same text b.space [] (spelling t ++ x) blank b.blank solid-nil (solid-spelling t x b.valid) (append-nil text ∙ b.whole) in
    absurd (omega (arith, spelling-some t x b.valid, ap length e))

-- a text has at most one list of tokens
pub spells-unique : (text : List ℕ) (ts us : List Lexeme) → Spells text ts → Spells text us → ts ≡ us
spells-unique text [] [] p q = refl
spells-unique text [] (u ∷ us) p q = absurd (begins-not-blank text u q.0 q.1 p)
spells-unique text (t ∷ ts) [] p q = absurd (begins-not-blank text t p.0 p.1 q)
spells-unique text (t ∷ ts) (u ∷ us) p q =
    let same = begins-same text t u p.0 q.0 p.1 q.1 in
    let rest = spells-unique q.0 ts us (subst (λ (z : List ℕ). Spells z ts) same.1 p.2) q.2 in
    ap (λ (z : Lexeme). z ∷ ts) same.0 ∙ ap (λ (z : List Lexeme). u ∷ z) rest

-- the tokens of rest take the state s where those of the text take the start
pub record Going (text rest : List ℕ) (s : State) : Type 0 where
  pub sound : (ts : List Lexeme) (tree : Tree) → Spells rest ts → run ts s ≡ Some tree → (all : List Lexeme) × Spells text all × (run all Start ≡ Some tree)
  pub complete : (all : List Lexeme) → Spells text all → (ts : List Lexeme) × Spells rest ts × (run all Start ≡ run ts s)

pub going-start : (text rest : List ℕ) → rest ≡ text → Going text rest Start
going-start text rest e = record {
  sound = λ ts tree p h. (ts, subst (λ (z : List ℕ). Spells z ts) e p, h);
  complete = λ all p. (all, subst (λ (z : List ℕ). Spells z all) (sym e) p, refl);
}

run-step : (s : State) (t : Lexeme) (o : Option State) (ts : List Lexeme) → step s t ≡ o → run (t ∷ ts) s ≡ from_state o (λ z. run ts z)
unfolding run
run-step s t o ts e = ap (λ (z : Option State). from_state z (λ y. run ts y)) e

run-end : (s : State) → run [] s ≡ finish s
unfolding run
run-end s = refl

-- the rest of the tokens, after a token that is there
after-token : (text rest : List ℕ) (t : Lexeme) (s : State) (all ts : List Lexeme) → Spells text ts → Begins text t rest → run all Start ≡ run ts s
    → (us : List Lexeme) × Spells rest us × (run all Start ≡ run (t ∷ us) s)
after-token text rest t s all [] p b e = absurd (begins-not-blank text t rest b p)
after-token text rest t s all (u ∷ us) p b e =
    let same = begins-same text u t p.0 rest p.1 b in
    (us, subst (λ (z : List ℕ). Spells z us) same.1 p.2, e ∙ ap (λ (z : Lexeme). run (z ∷ us) s) same.0)

pub going-step : (text rest next : List ℕ) (t : Lexeme) (s u : State) → Begins rest t next → step s t ≡ Some u → Going text rest s → Going text next u
going-step text rest next t s u b e g = record {
  sound = λ ts tree p h. g.sound (t ∷ ts) tree (next, b, p) (run-step s t (Some u) ts e ∙ h);
  complete = λ all p.
      let q = g.complete all p in
      let r = after-token rest next t s all q.0 q.1 b q.2 in
      (r.0, r.1, r.2 ∙ run-step s t (Some u) r.0 e);
}

cancel-open : (x y : List ℕ) → codes "cfg(" ++ x ≡ codes "cfg(" ++ y → x ≡ y
cancel-open x y e = cc

pub stripped-same : (text i j : List ℕ) → IsStripped text i → IsStripped text j → i ≡ j
stripped-same text i j (inl p) (inl q) = (last-same i j 41 41 (cancel-open (i ++ 41 ∷ []) (j ++ 41 ∷ []) (sym p ∙ q))).0
stripped-same text i j (inl p) (inr q) = absurd (q.0 i p)
stripped-same text i j (inr p) (inl q) = absurd (p.0 j q)
stripped-same text i j (inr p) (inr q) = p.1 ∙ sym q.1

no-tree : (text inner : List ℕ) → IsStripped text inner → ((all : List Lexeme) (tree : Tree) → Spells inner all → run all Start ≡ Some tree → ⊥) → NoTree text
no-tree text inner strip none tokens tree p q = none tokens tree (subst (λ (z : List ℕ). Spells z tokens) (stripped-same text p.0 inner p.1 strip) p.2) (run-tree tokens tree q)

none-some : {A : Type 0} (x : A) → None ≡ Some x → ⊥
none-some x e = cc e

pub going-stuck : (text inner rest : List ℕ) (s : State) → IsStripped text inner → Going inner rest s → ((ts : List Lexeme) → Spells rest ts → ⊥) → NoTree text
going-stuck text inner rest s strip g stuck = no-tree text inner strip (λ all tree p h. let q = g.complete all p in stuck q.0 q.1)

pub going-refused : (text inner rest next : List ℕ) (t : Lexeme) (s : State) → IsStripped text inner → Going inner rest s → Begins rest t next → step s t ≡ None → NoTree text
going-refused text inner rest next t s strip g b e = no-tree text inner strip (λ all tree p h.
    let q = g.complete all p in
    let r = after-token rest next t s all q.0 q.1 b q.2 in
    none-some tree (sym (run-step s t None r.0 e) ∙ sym r.2 ∙ h))

end-run : (rest : List ℕ) (s : State) (ts : List Lexeme) → IsBlank rest → Spells rest ts → run ts s ≡ finish s
end-run rest s [] blank p = run-end s
end-run rest s (t ∷ ts) blank p = absurd (begins-not-blank rest t p.0 p.1 blank)

pub end-refused : (text inner rest : List ℕ) (s : State) → IsStripped text inner → Going inner rest s → IsBlank rest → finish s ≡ None → NoTree text
end-refused text inner rest s strip g blank e = no-tree text inner strip (λ all tree p h.
    let q = g.complete all p in
    none-some tree (sym e ∙ sym (end-run rest s q.0 blank q.1) ∙ sym q.2 ∙ h))

pub end-accepted : (text inner rest : List ℕ) (s : State) (tree : Tree) → IsStripped text inner → Going inner rest s → IsBlank rest → finish s ≡ Some tree
    → (tokens : List Lexeme) × Spelled text tokens × IsTree tokens tree
end-accepted text inner rest s tree strip g blank e =
    let p = g.sound [] tree blank (run-end s ∙ e) in
    (p.0, (inner, strip, p.1), tree-run p.0 tree p.2)

pub blank-refused : (text inner : List ℕ) → IsStripped text inner → IsBlank inner → NoTree text
blank-refused text inner strip blank = end-refused text inner inner Start strip (going-start inner inner refl) blank refl

-- a text has at most one tree
pub one-tree : (text : List ℕ) (ts us : List Lexeme) (t u : Tree) → Spelled text ts → IsTree ts t → Spelled text us → IsTree us u → t ≡ u
one-tree text ts us t u p a q b =
    let inner = stripped-same text p.0 q.0 p.1 q.1 in
    let same = spells-unique q.0 ts us (subst (λ (z : List ℕ). Spells z ts) inner p.2) q.2 in
    tree-unique us t u (subst (λ (z : List Lexeme). IsTree z t) same a) b

-- ---- what the steps' clauses say

pub stepped-true : (o : Option State) (b : Bool) (q : Parser) → Stepped o b q → b ≡ true → (u : State) × (o ≡ Some u) × Represents q u
stepped-true None b q h e = cc (sym h ∙ e)
stepped-true (Some u) b q h e = (u, refl, h.1)

pub stepped-false : (o : Option State) (b : Bool) (q : Parser) → Stepped o b q → b ≡ false → o ≡ None
stepped-false None b q h e = refl
stepped-false (Some u) b q h e = cc (sym h.0 ∙ e)

pub finished-true : (o : Option Tree) (b : Bool) (q : Parser) → Finished o b q → b ≡ true → (tree : Tree) × (o ≡ Some tree) × IsTable q.nodes.items tree
finished-true None b q h e = cc (sym h ∙ e)
finished-true (Some tree) b q h e = (tree, refl, h.1)

pub finished-false : (o : Option Tree) (b : Bool) (q : Parser) → Finished o b q → b ≡ false → o ≡ None
finished-false None b q h e = refl
finished-false (Some tree) b q h e = cc (sym h.0 ∙ e)
