-- What the code knows between two tokens, and what it answers.
use Rattle.std.proofs.Common.{◌≡◌, ◌≢◌, ℕ, ◌<◌, List, [], ◌∷◌, length, refl, sym, ap, ◌∙◌, subst, Option, Some, None}
use Rattle.std.specs.Prelude.{Bool, false}
use Rattle.cc2_cfg.specs.Flat.{IsFlat}
use Rattle.cc2_cfg.specs.Grammar.{Tree}
use Rattle.cc2_cfg.specs.Meaning.{Atom, predicates_of}
use Rattle.cc2_cargo.specs.Grammar.{CargoToken, IsFront, SpellsTokens}
use Rattle.cc2_cargo.specs.Grammar.{IsInnerTree, NoInnerTree}
use Rattle.cc2_cargo.specs.Meaning.{value_of}
use Rattle.cc2_cargo.specs.Machine.{ReaderState, start, next_state, tree_at_end, from_state, run}
use Rattle.cc2_cargo.specs.Meaning.{AnswerMap}
use Rattle.cc2_cargo.specs.Reading.{CoversFlag, Covers, EndsWith, OpensInside}
use Rattle.cc2_cargo.proofs.Fronts.{spells-cut, spells-more, spells-front, front-spells, spells-stuck, spells-nothing}
use Rattle.cc2_cargo.proofs.Takes.{run-tree}
use Rattle.cc2_cargo.proofs.Gives.{tree-run}
use Rattle.cc2_cargo.proofs.Deep.{inside-deep}
use Rattle.cc2_cargo.proofs.Asking.{flag-covered, covered, flag-unknown, unknown}

-- the tokens of rest take the state s where those of the text take the start
pub record Going (text rest : List ℕ) (s : ReaderState) : Type 0 where
  pub sound : (ts : List CargoToken) (tree : Tree) → SpellsTokens rest ts → run ts s ≡ Some tree → (all : List CargoToken) × SpellsTokens text all × (run all start ≡ Some tree)
  pub complete : (all : List CargoToken) → SpellsTokens text all → (ts : List CargoToken) × SpellsTokens rest ts × (run all start ≡ run ts s)

pub going-start : (text : List ℕ) → Going text text start
going-start text = record { sound = λ ts tree p h. (ts, p, h); complete = λ all p. (all, p, refl) }

pub going-space : (text rest next : List ℕ) (s : ReaderState) → rest ≡ 32 ∷ next → Going text rest s → Going text next s
going-space text rest next s e g = record {
  sound = λ ts tree p h. g.sound ts tree (subst (λ (z : List ℕ). SpellsTokens z ts) (sym e) (spells-more next ts p)) h;
  complete = λ all p. let q = g.complete all p in (q.0, spells-cut next q.0 (subst (λ (z : List ℕ). SpellsTokens z q.0) e q.1), q.2);
}

run-step : (s : ReaderState) (t : CargoToken) (o : Option ReaderState) (ts : List CargoToken) → next_state s t ≡ o → run (t ∷ ts) s ≡ from_state o (λ z. run ts z)
unfolding run
run-step s t o ts e = ap (λ (z : Option ReaderState). from_state z (λ y. run ts y)) e

run-end : (s : ReaderState) → run [] s ≡ tree_at_end s
unfolding run
run-end s = refl

-- the rest of the tokens, after a token that is there
after-token : (text rest next : List ℕ) (t : CargoToken) (s : ReaderState) (all : List CargoToken) → Going text rest s → IsFront rest t next → SpellsTokens text all
    → (us : List CargoToken) × SpellsTokens next us × (run all start ≡ run (t ∷ us) s)
after-token text rest next t s all g f p =
    let q = g.complete all p in
    let r = spells-front rest t next q.0 f q.1 in
    (r.0, r.2, q.2 ∙ ap (λ (z : List CargoToken). run z s) r.1)

pub going-step : (text rest next : List ℕ) (t : CargoToken) (s u : ReaderState) → IsFront rest t next → next_state s t ≡ Some u → Going text rest s → Going text next u
going-step text rest next t s u f e g = record {
  sound = λ ts tree p h. g.sound (t ∷ ts) tree (front-spells rest t next ts f p) (run-step s t (Some u) ts e ∙ h);
  complete = λ all p. let r = after-token text rest next t s all g f p in (r.0, r.1, r.2 ∙ run-step s t (Some u) r.0 e);
}

none-some : {A : Type 0} (x : A) → None ≡ Some x → ⊥
none-some x e = cc e

-- a text whose rest begins with no token has no tree
pub going-stuck : (text rest : List ℕ) (s : ReaderState) (tree : Tree) → Going text rest s → 0 < length rest → ((r : List ℕ) → rest ≢ 32 ∷ r) → ((t : CargoToken) (x : List ℕ) → IsFront rest t x → ⊥)
    → IsInnerTree text tree → ⊥
going-stuck text rest s tree g some lacks none p =
    let q = g.complete p.tokens p.spelled in
    spells-stuck rest q.0 some lacks none q.1

-- nor has one whose next token doesn't fit
pub going-refused : (text rest next : List ℕ) (t : CargoToken) (s : ReaderState) (tree : Tree) → Going text rest s → IsFront rest t next → next_state s t ≡ None → IsInnerTree text tree → ⊥
going-refused text rest next t s tree g f e p =
    let r = after-token text rest next t s p.tokens g f p.spelled in
    none-some tree (sym (run-step s t None r.0 e) ∙ sym r.2 ∙ run-tree p.tokens tree p.predicate)

-- nor has one a flat tree where a function opens inside of another one
pub going-deep : (text rest next : List ℕ) (t : CargoToken) (s : ReaderState) (tree : Tree) → Going text rest s → IsFront rest t next → OpensInside s → IsInnerTree text tree → IsFlat tree → ⊥
going-deep text rest next t s tree g f inside p flat =
    let r = after-token text rest next t s p.tokens g f p.spelled in
    inside-deep s (t ∷ r.0) tree inside (sym r.2 ∙ run-tree p.tokens tree p.predicate) flat

-- what is known of the answers is known of the predicates of the text's tree
abbrev pub Asks : AnswerMap → List Atom → List ℕ → Type 0
Asks None asked text = Unit {0}
Asks (Some answers) asked text = (tree : Tree) × IsInnerTree text tree × (asked ≡ predicates_of tree)

pub going-covers : (known : AnswerMap) (asked : List Atom) (text rest next : List ℕ) (t : CargoToken) (s : ReaderState) → Asks known asked text → Going text rest s → IsFront rest t next
    → Covers known asked s t
going-covers None asked text rest next t s a g f = unknown asked s t
going-covers (Some answers) asked text rest next t s a g f =
    let r = after-token text rest next t s a.1.tokens g f a.1.spelled in
    let c = covered answers s t r.0 a.0 (sym r.2 ∙ run-tree a.1.tokens a.0 a.1.predicate) in
    subst (λ (z : List Atom). Covers (Some answers) z s t) (sym a.2) c

-- the tokens end where the text does
end-run : (text : List ℕ) (s : ReaderState) (tree : Tree) → Going text [] s → IsInnerTree text tree → run [] s ≡ Some tree
end-run text s tree g p =
    let q = g.complete p.tokens p.spelled in
    ap (λ (z : List CargoToken). run z s) (sym (spells-nothing q.0 q.1)) ∙ sym q.2 ∙ run-tree p.tokens tree p.predicate

pub end-covers : (known : AnswerMap) (asked : List Atom) (text : List ℕ) (s : ReaderState) → Asks known asked text → Going text [] s → CoversFlag known asked s
end-covers None asked text s a g = flag-unknown asked s
end-covers (Some answers) asked text s a g =
    subst (λ (z : List Atom). CoversFlag (Some answers) z s) (sym a.2) (flag-covered answers s a.0 (end-run text s a.0 g a.1))

-- the value of the text's tree
pub end-value : (answers : Atom → Bool) (text : List ℕ) (s : ReaderState) (tree : Tree) (b : Bool) → Going text [] s → IsInnerTree text tree → EndsWith (Some answers) (tree_at_end s) b
    → b ≡ value_of answers tree
end-value answers text s tree b g p f =
    subst (λ (z : Option Tree). EndsWith (Some answers) z b) (sym (run-end s) ∙ end-run text s tree g p) f

finished-none : (text : List ℕ) (s : ReaderState) (o : Option Tree) (b : Bool) → Going text [] s → tree_at_end s ≡ o → EndsWith None o b → NoInnerTree text → b ≡ false
finished-none text s None b g e f lacks = f
finished-none text s (Some tree) b g e f lacks =
    let q = g.sound [] tree tt (run-end s ∙ e) in
    absurd (lacks tree (record { tokens = q.0; spelled = q.1; predicate = tree-run q.0 tree q.2 }))

-- false without a tree
pub end-otherwise : (text : List ℕ) (s : ReaderState) (b : Bool) → Going text [] s → EndsWith None (tree_at_end s) b → NoInnerTree text → b ≡ false
end-otherwise text s b g f lacks = finished-none text s (tree_at_end s) b g refl f lacks
