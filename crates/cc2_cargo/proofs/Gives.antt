-- What the machine gives is a tree of the tokens.
use Rattle.std.proofs.Common.{◌≡◌, ℕ, List, [], ◌∷◌, ◌++◌, Option, Some, refl, sym, ap, ◌∙◌, subst, append_assoc, append-nil, inl, inr}
use Rattle.std.specs.Prelude.{◌⊎◌}
use Rattle.cc2_cfg.specs.Tokens.{Operator, Word, Quoted, Fun, Equals, Open, Close, Comma, OpAll, OpAny, OpNot}
use Rattle.cc2_cfg.specs.Grammar.{Tree, Trees, Flag, Pair, AllOf, AnyOf, NotOf, NoTrees, MoreTrees}
use Rattle.cc2_cargo.specs.Grammar.{CargoToken, Raw, Plain}
use Rattle.cc2_cargo.specs.Grammar.{IsName, IsPredicate, IsList, IsOthers}
use Rattle.cc2_cargo.specs.Machine.{Junction, All, Any, group, OpenFunctions, Bottom, InGroup, InNot, Wanted, Allowed, Named, Keyed, Waiting, Ended}
use Rattle.cc2_cargo.specs.Machine.{ReaderState, At, start, snoc, begin_predicate, after_opening, entered, after_name, after_predicate, after_word, after_equals, tree_at_end, from_state, run}
use Rattle.cc2_cargo.proofs.Joining.{join, join-snoc, join-none}

-- after the predicate t, the tokens end the open functions, and the whole is the tree
abbrev pub Ends : OpenFunctions → Tree → List CargoToken → Tree → Type 0
Ends Bottom t tokens tree = (tokens ≡ []) × (t ≡ tree)
Ends (InGroup j before frames) t tokens tree = (more : Trees) × (inner : List CargoToken) × (rest : List CargoToken)
    × IsOthers more inner × (tokens ≡ inner ++ Plain Close ∷ rest) × Ends frames (group j (join (snoc before t) more)) rest tree
Ends (InNot frames) t tokens tree = (rest : List CargoToken) × (tokens ≡ Plain Close ∷ rest) × Ends frames (NotOf t) rest tree

-- the tokens are the rest of a list, and then end the open functions
abbrev InList : Junction → OpenFunctions → Trees → List CargoToken → Tree → Type 0
InList j frames before tokens tree = (more : Trees) × (inner : List CargoToken) × (rest : List CargoToken)
    × IsList more inner × (tokens ≡ inner ++ Plain Close ∷ rest) × Ends frames (group j (join before more)) rest tree

abbrev Wants : OpenFunctions → List CargoToken → Tree → Type 0
Wants frames tokens tree = (t : Tree) × (first : List CargoToken) × (rest : List CargoToken) × IsPredicate t first × (tokens ≡ first ++ rest) × Ends frames t rest tree

abbrev HasValue : OpenFunctions → List ℕ → List CargoToken → Tree → Type 0
HasValue frames w tokens tree = (v : List ℕ) × (rest : List CargoToken) × (tokens ≡ Plain (Quoted v) ∷ rest) × Ends frames (Pair w v) rest tree

abbrev pub Completes : ReaderState → List CargoToken → Tree → Type 0
Completes (At frames Wanted) tokens tree = Wants frames tokens tree
Completes (At (InGroup j before frames) Allowed) tokens tree = InList j frames before tokens tree
Completes (At frames Allowed) tokens tree = Wants frames tokens tree
Completes (At frames (Named f)) tokens tree = (t : Tree) × (first : List CargoToken) × (rest : List CargoToken)
    × IsPredicate t (Plain (Fun f) ∷ first) × (tokens ≡ first ++ rest) × Ends frames t rest tree
Completes (At frames (Keyed w)) tokens tree = Ends frames (Flag w) tokens tree ⊎ ((more : List CargoToken) × (tokens ≡ Plain Equals ∷ more) × HasValue frames w more tree)
Completes (At frames (Waiting w)) tokens tree = HasValue frames w tokens tree
Completes (At frames (Ended t)) tokens tree = Ends frames t tokens tree

-- what the induction gives
abbrev pub Sound : List CargoToken → Tree → Type 0
Sound tokens tree = (s : ReaderState) → run tokens s ≡ Some tree → Completes s tokens tree

abbrev go : List CargoToken → Option ReaderState → Option Tree
go tokens o = from_state o (λ s. run tokens s)

some-same : {A : Type 0} (x y : A) → Some x ≡ Some y → x ≡ y
some-same x y e = cc e

list-others : (ts : Trees) (inner : List CargoToken) → IsList ts inner → IsOthers ts (Plain Comma ∷ inner)
list-others NoTrees inner p = inr (ap (λ (z : List CargoToken). Plain Comma ∷ z) p)
list-others (MoreTrees t ts) inner p = (p.0, p.1, p.2, p.3, ap (λ (z : List CargoToken). Plain Comma ∷ z) p.4)

ends-along : (j : Junction) (frames : OpenFunctions) (ts us : Trees) (tokens : List CargoToken) (tree : Tree) → ts ≡ us → Ends frames (group j ts) tokens tree → Ends frames (group j us) tokens tree
ends-along j frames ts us tokens tree e p = subst (λ (z : Trees). Ends frames (group j z) tokens tree) e p

after-sound : (frames : OpenFunctions) (t : Tree) (token : CargoToken) (tokens : List CargoToken) (tree : Tree) → Sound tokens tree
    → go tokens (after_predicate frames t token) ≡ Some tree → Ends frames t (token ∷ tokens) tree
after-sound (InGroup j before frames) t (Plain Comma) tokens tree ih h =
    let p = ih (At (InGroup j (snoc before t) frames) Allowed) h in
    (p.0, Plain Comma ∷ p.1, p.2, list-others p.0 p.1 p.3, ap (λ (z : List CargoToken). Plain Comma ∷ z) p.4, p.5)
after-sound (InGroup j before frames) t (Plain Close) tokens tree ih h =
    let p = ih (At frames (Ended (group j (snoc before t)))) h in
    (NoTrees, [], tokens, inl refl, refl, ends-along j frames _ _ tokens tree (sym (join-none (snoc before t))) p)
after-sound (InNot frames) t (Plain Close) tokens tree ih h = (tokens, refl, ih (At frames (Ended (NotOf t))) h)
after-sound frames t token tokens tree ih h = cc h

-- a word begins a predicate
word-sound : (frames : OpenFunctions) (w : List ℕ) (name : CargoToken) (tokens : List CargoToken) (tree : Tree) → Sound tokens tree → IsName w name
    → run tokens (At frames (Keyed w)) ≡ Some tree → Wants frames (name ∷ tokens) tree
word-sound frames w name tokens tree ih is h = elim (ih (At frames (Keyed w)) h) [
  | inl e ↦ (Flag w, name ∷ [], tokens, (name, is, refl), refl, e)
  | inr p ↦ (
    Pair w p.2.0,
    name ∷ (Plain Equals ∷ (Plain (Quoted p.2.0) ∷ [])),
    p.2.1,
    (name, is, refl),
    ap (λ (z : List CargoToken). name ∷ z) (p.1 ∙ ap (λ (z : List CargoToken). Plain Equals ∷ z) p.2.2),
    p.2.3,
  )
]

-- so does a function
fun-sound : (frames : OpenFunctions) (f : Operator) (tokens : List CargoToken) (tree : Tree) → Sound tokens tree → run tokens (At frames (Named f)) ≡ Some tree
    → Wants frames (Plain (Fun f) ∷ tokens) tree
fun-sound frames f tokens tree ih h =
    let p = ih (At frames (Named f)) h in
    (p.0, Plain (Fun f) ∷ p.1, p.2, p.3, ap (λ (z : List CargoToken). Plain (Fun f) ∷ z) p.4, p.5)

begin-sound : (frames : OpenFunctions) (token : CargoToken) (tokens : List CargoToken) (tree : Tree) → Sound tokens tree → go tokens (begin_predicate frames token) ≡ Some tree
    → Wants frames (token ∷ tokens) tree
begin-sound frames (Raw w) tokens tree ih h = word-sound frames w (Raw w) tokens tree ih (inr refl) h
begin-sound frames (Plain (Word w)) tokens tree ih h = word-sound frames w (Plain (Word w)) tokens tree ih (inl refl) h
begin-sound frames (Plain (Fun f)) tokens tree ih h = fun-sound frames f tokens tree ih h
begin-sound frames (Plain token) tokens tree ih h = cc h

-- a predicate and what follows it are a list
wants-list : (j : Junction) (frames : OpenFunctions) (before : Trees) (tokens : List CargoToken) (tree : Tree) → Wants (InGroup j before frames) tokens tree → InList j frames before tokens tree
wants-list j frames before tokens tree p = (
  MoreTrees p.0 p.5.0,
  p.1 ++ p.5.1,
  p.5.2,
  (p.1, p.5.1, p.3, p.5.3, refl),
  p.4 ∙ ap (λ (z : List CargoToken). p.1 ++ z) p.5.4 ∙ sym (append_assoc p.1 p.5.1 (Plain Close ∷ p.5.2)),
  ends-along j frames _ _ p.5.2 tree (join-snoc before p.0 p.5.0) p.5.5,
)

allowed-sound : (frames : OpenFunctions) (token : CargoToken) (tokens : List CargoToken) (tree : Tree) → Sound tokens tree → go tokens (after_opening frames token) ≡ Some tree
    → Completes (At frames Allowed) (token ∷ tokens) tree
allowed-sound (InGroup j before frames) (Plain Close) tokens tree ih h =
    (NoTrees, [], tokens, refl, refl, ends-along j frames _ _ tokens tree (sym (join-none before)) (ih (At frames (Ended (group j before))) h))
allowed-sound (InGroup j before frames) token tokens tree ih h =
    wants-list j frames before (token ∷ tokens) tree (begin-sound (InGroup j before frames) token tokens tree ih h)
allowed-sound Bottom token tokens tree ih h = begin-sound Bottom token tokens tree ih h
allowed-sound (InNot frames) token tokens tree ih h = begin-sound (InNot frames) token tokens tree ih h

opened : (inner rest tokens : List CargoToken) → tokens ≡ inner ++ Plain Close ∷ rest → Plain Open ∷ tokens ≡ (Plain Open ∷ (inner ++ Plain Close ∷ [])) ++ rest
opened inner rest tokens e = ap (λ (z : List CargoToken). Plain Open ∷ z) (e ∙ sym (append_assoc inner (Plain Close ∷ []) rest))

entered-sound : (frames : OpenFunctions) (f : Operator) (tokens : List CargoToken) (tree : Tree) → Sound tokens tree → run tokens (entered f frames) ≡ Some tree
    → Completes (At frames (Named f)) (Plain Open ∷ tokens) tree
entered-sound frames OpAll tokens tree ih h =
    let p = ih (At (InGroup All NoTrees frames) Allowed) h in
    (AllOf p.0, Plain Open ∷ (p.1 ++ Plain Close ∷ []), p.2, (p.1, p.3, refl), opened p.1 p.2 tokens p.4, p.5)
entered-sound frames OpAny tokens tree ih h =
    let p = ih (At (InGroup Any NoTrees frames) Allowed) h in
    (AnyOf p.0, Plain Open ∷ (p.1 ++ Plain Close ∷ []), p.2, (p.1, p.3, refl), opened p.1 p.2 tokens p.4, p.5)
entered-sound frames OpNot tokens tree ih h =
    let p = ih (At (InNot frames) Wanted) h in (
      NotOf p.0,
      Plain Open ∷ (p.1 ++ Plain Close ∷ []),
      p.5.0,
      (p.1, p.3, refl),
      opened p.1 p.5.0 tokens (p.4 ∙ ap (λ (z : List CargoToken). p.1 ++ z) p.5.1),
      p.5.2,
    )

named-sound : (frames : OpenFunctions) (f : Operator) (token : CargoToken) (tokens : List CargoToken) (tree : Tree) → Sound tokens tree → go tokens (after_name frames f token) ≡ Some tree
    → Completes (At frames (Named f)) (token ∷ tokens) tree
named-sound frames f (Plain Open) tokens tree ih h = entered-sound frames f tokens tree ih h
named-sound frames f token tokens tree ih h = cc h

keyed-sound : (frames : OpenFunctions) (w : List ℕ) (token : CargoToken) (tokens : List CargoToken) (tree : Tree) → Sound tokens tree → go tokens (after_word frames w token) ≡ Some tree
    → Completes (At frames (Keyed w)) (token ∷ tokens) tree
keyed-sound frames w (Plain Equals) tokens tree ih h = inr (tokens, refl, ih (At frames (Waiting w)) h)
keyed-sound frames w token tokens tree ih h = inl (after-sound frames (Flag w) token tokens tree ih h)

waiting-sound : (frames : OpenFunctions) (w : List ℕ) (token : CargoToken) (tokens : List CargoToken) (tree : Tree) → Sound tokens tree → go tokens (after_equals frames w token) ≡ Some tree
    → HasValue frames w (token ∷ tokens) tree
waiting-sound frames w (Plain (Quoted v)) tokens tree ih h = (v, tokens, refl, ih (At frames (Ended (Pair w v))) h)
waiting-sound frames w token tokens tree ih h = cc h

finish-sound : (s : ReaderState) (tree : Tree) → tree_at_end s ≡ Some tree → Completes s [] tree
finish-sound (At Bottom (Keyed w)) tree h = inl (refl, some-same (Flag w) tree h)
finish-sound (At Bottom (Ended t)) tree h = (refl, some-same t tree h)
finish-sound s tree h = cc h

pub sound : (tokens : List CargoToken) (tree : Tree) → Sound tokens tree
unfolding run
sound [] tree s h = finish-sound s tree h
sound (token ∷ tokens) tree (At frames Wanted) h = begin-sound frames token tokens tree (sound tokens tree) h
sound (token ∷ tokens) tree (At frames Allowed) h = allowed-sound frames token tokens tree (sound tokens tree) h
sound (token ∷ tokens) tree (At frames (Named f)) h = named-sound frames f token tokens tree (sound tokens tree) h
sound (token ∷ tokens) tree (At frames (Keyed w)) h = keyed-sound frames w token tokens tree (sound tokens tree) h
sound (token ∷ tokens) tree (At frames (Waiting w)) h = waiting-sound frames w token tokens tree (sound tokens tree) h
sound (token ∷ tokens) tree (At frames (Ended t)) h = after-sound frames t token tokens tree (sound tokens tree) h

-- what the machine gives is the tree of the tokens
pub tree-run : (tokens : List CargoToken) (tree : Tree) → run tokens start ≡ Some tree → IsPredicate tree tokens
tree-run tokens tree h =
    let p = sound tokens tree start h in
    let same : tokens ≡ p.1 = p.4 ∙ ap (λ (z : List CargoToken). p.1 ++ z) p.5.0 ∙ append-nil p.1 in
    subst (λ (z : List CargoToken). IsPredicate tree z) (sym same) (subst (λ (z : Tree). IsPredicate z p.1) p.5.1 p.3)
