-- The tokens of a tree take the machine over them: it gives the tree.
use Rattle.std.proofs.Common.{◌≡◌, ℕ, ◌⊎◌, List, [], ◌∷◌, ◌++◌, Option, Some, refl, sym, ap, ◌∙◌, append_assoc, append-nil, inl, inr}
use Rattle.cc2_cfg.specs.Tokens.{Operator, Quoted, Fun, Equals, Open, Close, Comma, OpAll, OpAny, OpNot}
use Rattle.cc2_cfg.specs.Grammar.{Tree, Trees, Flag, Pair, AllOf, AnyOf, NotOf, NoTrees, MoreTrees}
use Rattle.cc2_cargo.specs.Grammar.{CargoToken, Plain}
use Rattle.cc2_cargo.specs.Grammar.{IsName, IsPredicate, IsList, IsOthers, applied}
use Rattle.cc2_cargo.specs.Machine.{Junction, All, Any, group, OpenFunctions, Bottom, InGroup, InNot, LastItem, Wanted, Allowed, Named, Keyed, Ended}
use Rattle.cc2_cargo.specs.Machine.{ReaderState, At, start, snoc, begin_predicate, next_state, from_state, run}
use Rattle.cc2_cargo.proofs.Joining.{join, join-snoc, snoc-join}

-- what may follow a predicate
abbrev NoEquals : List CargoToken → Type 0
NoEquals (Plain Equals ∷ tokens) = ⊥
NoEquals tokens = Unit {0}

keyed-ended : (rest : List CargoToken) (frames : OpenFunctions) (w : List ℕ) → NoEquals rest → run rest (At frames (Keyed w)) ≡ run rest (At frames (Ended (Flag w)))
unfolding run
keyed-ended [] Bottom w s = refl
keyed-ended [] (InGroup j ts fs) w s = refl
keyed-ended [] (InNot fs) w s = refl
keyed-ended (Plain Equals ∷ rest) frames w s = absurd s
keyed-ended (token ∷ rest) frames w s = refl

-- a state that reads a predicate as one that begins one
abbrev starts : OpenFunctions → LastItem → Type 0
starts frames phase = (token : CargoToken) (next : ReaderState) → begin_predicate frames token ≡ Some next → next_state (At frames phase) token ≡ Some next

starts-wanted : (frames : OpenFunctions) → starts frames Wanted
starts-wanted frames token next e = e

starts-allowed : (j : Junction) (ts : Trees) (frames : OpenFunctions) → starts (InGroup j ts frames) Allowed
starts-allowed j ts frames (Plain Close) next e = cc e
starts-allowed j ts frames token next e = e

name-begins : (frames : OpenFunctions) (w : List ℕ) (name : CargoToken) → IsName w name → begin_predicate frames name ≡ Some (At frames (Keyed w))
name-begins frames w name (inl e) = ap (λ (z : CargoToken). begin_predicate frames z) e
name-begins frames w name (inr e) = ap (λ (z : CargoToken). begin_predicate frames z) e

run-starts : (frames : OpenFunctions) (phase : LastItem) (token : CargoToken) (tokens : List CargoToken) (next : ReaderState) → starts frames phase → begin_predicate frames token ≡ Some next
    → run (token ∷ tokens) (At frames phase) ≡ run tokens next
unfolding run
run-starts frames phase token tokens next st e = ap (λ (o : Option ReaderState). from_state o (λ t. run tokens t)) (st token next e)

applied-append : (f : Operator) (inner rest : List CargoToken) → applied f inner ++ rest ≡ Plain (Fun f) ∷ (Plain Open ∷ (inner ++ Plain Close ∷ rest))
applied-append f inner rest = ap (λ (z : List CargoToken). Plain (Fun f) ∷ (Plain Open ∷ z)) (append_assoc inner (Plain Close ∷ []) rest)

-- equal tokens are read alike
along : (s : ReaderState) (a b rest c : List CargoToken) → a ≡ b → b ++ rest ≡ c → run (a ++ rest) s ≡ run c s
along s a b rest c e g = ap (λ (z : List CargoToken). run z s) (ap (λ (z : List CargoToken). z ++ rest) e ∙ g)

-- the list ends, after a comma or without one
list-ends : (j : Junction) (before : Trees) (t : Tree) (rest : List CargoToken) (frames : OpenFunctions)
    → run rest (At frames (Ended (group j (snoc before t)))) ≡ run rest (At frames (Ended (group j (join before (MoreTrees t NoTrees)))))
list-ends j before t rest frames = ap (λ (z : Trees). run rest (At frames (Ended (group j z)))) (snoc-join before t)

-- nothing but a comma is left of the list
abbrev IsLeft : List CargoToken → Type 0
IsLeft tokens = (tokens ≡ []) ⊎ (tokens ≡ Plain Comma ∷ [])

run-left : (j : Junction) (tokens rest : List CargoToken) (frames : OpenFunctions) (before : Trees) (t : Tree) → IsLeft tokens
    → run (tokens ++ Plain Close ∷ rest) (At (InGroup j before frames) (Ended t)) ≡ run rest (At frames (Ended (group j (join before (MoreTrees t NoTrees)))))
unfolding run
run-left j tokens rest frames before t (inl e) =
    along (At (InGroup j before frames) (Ended t)) _ _ _ (Plain Close ∷ rest) e refl ∙ list-ends j before t rest frames
run-left j tokens rest frames before t (inr e) =
    along (At (InGroup j before frames) (Ended t)) _ _ _ (Plain Comma ∷ (Plain Close ∷ rest)) e refl ∙ list-ends j before t rest frames

left-stop : (tokens rest : List CargoToken) → IsLeft tokens → NoEquals (tokens ++ Plain Close ∷ rest)
left-stop tokens rest (inl e) = rw e tt
left-stop tokens rest (inr e) = rw e tt

mutual
  unfolding run

  run-predicate : (t : Tree) (tokens rest : List CargoToken) (frames : OpenFunctions) (phase : LastItem) → IsPredicate t tokens → NoEquals rest → starts frames phase
      → run (tokens ++ rest) (At frames phase) ≡ run rest (At frames (Ended t))
  run-predicate (Flag w) tokens rest frames phase p stop st =
      along (At frames phase) _ _ _ (p.0 ∷ rest) p.2 refl
      ∙ (run-starts frames phase p.0 rest (At frames (Keyed w)) st (name-begins frames w p.0 p.1) ∙ keyed-ended rest frames w stop)
  run-predicate (Pair k v) tokens rest frames phase p stop st =
      along (At frames phase) _ _ _ (p.0 ∷ (Plain Equals ∷ (Plain (Quoted v) ∷ rest))) p.2 refl
      ∙ run-starts frames phase p.0 (Plain Equals ∷ (Plain (Quoted v) ∷ rest)) (At frames (Keyed k)) st (name-begins frames k p.0 p.1)
  run-predicate (AllOf ts) tokens rest frames phase p stop st =
      along (At frames phase) _ _ _ _ p.2 (applied-append OpAll p.0 rest)
      ∙ (run-starts frames phase (Plain (Fun OpAll)) (Plain Open ∷ (p.0 ++ Plain Close ∷ rest)) (At frames (Named OpAll)) st refl ∙ run-list All ts p.0 rest frames p.1)
  run-predicate (AnyOf ts) tokens rest frames phase p stop st =
      along (At frames phase) _ _ _ _ p.2 (applied-append OpAny p.0 rest)
      ∙ (run-starts frames phase (Plain (Fun OpAny)) (Plain Open ∷ (p.0 ++ Plain Close ∷ rest)) (At frames (Named OpAny)) st refl ∙ run-list Any ts p.0 rest frames p.1)
  run-predicate (NotOf t) tokens rest frames phase p stop st =
      along (At frames phase) _ _ _ _ p.2 (applied-append OpNot p.0 rest)
      ∙ (run-starts frames phase (Plain (Fun OpNot)) (Plain Open ∷ (p.0 ++ Plain Close ∷ rest)) (At frames (Named OpNot)) st refl
      ∙ run-predicate t p.0 (Plain Close ∷ rest) (InNot frames) Wanted p.1 tt (starts-wanted (InNot frames)))

  run-list : (j : Junction) (ts : Trees) (tokens rest : List CargoToken) (frames : OpenFunctions) → IsList ts tokens
      → run (tokens ++ Plain Close ∷ rest) (At (InGroup j NoTrees frames) Allowed) ≡ run rest (At frames (Ended (group j ts)))
  run-list j NoTrees tokens rest frames p = along (At (InGroup j NoTrees frames) Allowed) _ _ _ (Plain Close ∷ rest) p refl
  run-list j (MoreTrees t ts) tokens rest frames p =
      along (At (InGroup j NoTrees frames) Allowed) _ _ _ _ p.4 (append_assoc p.0 p.1 (Plain Close ∷ rest))
      ∙ (run-predicate t p.0 (p.1 ++ Plain Close ∷ rest) (InGroup j NoTrees frames) Allowed p.2 (others-stop ts p.1 rest p.3) (starts-allowed j NoTrees frames)
      ∙ run-others j ts p.1 rest frames NoTrees t p.3)

  run-others : (j : Junction) (ts : Trees) (tokens rest : List CargoToken) (frames : OpenFunctions) (before : Trees) (t : Tree) → IsOthers ts tokens
      → run (tokens ++ Plain Close ∷ rest) (At (InGroup j before frames) (Ended t)) ≡ run rest (At frames (Ended (group j (join before (MoreTrees t ts)))))
  run-others j NoTrees tokens rest frames before t p = run-left j tokens rest frames before t p
  run-others j (MoreTrees u ts) tokens rest frames before t p =
      along (At (InGroup j before frames) (Ended t)) _ _ _ _ p.4 (ap (λ (z : List CargoToken). Plain Comma ∷ z) (append_assoc p.0 p.1 (Plain Close ∷ rest)))
      ∙ (run-predicate u p.0 (p.1 ++ Plain Close ∷ rest) (InGroup j (snoc before t) frames) Allowed p.2 (others-stop ts p.1 rest p.3) (starts-allowed j (snoc before t) frames)
      ∙ run-others j ts p.1 rest frames (snoc before t) u p.3
      ∙ ap (λ (z : Trees). run rest (At frames (Ended (group j z)))) (join-snoc before t (MoreTrees u ts)))

  others-stop : (ts : Trees) (tokens rest : List CargoToken) → IsOthers ts tokens → NoEquals (tokens ++ Plain Close ∷ rest)
  others-stop NoTrees tokens rest p = left-stop tokens rest p
  others-stop (MoreTrees u ts) tokens rest p = rw p.4 tt

-- the tokens of a tree give it
pub run-tree : (tokens : List CargoToken) (tree : Tree) → IsPredicate tree tokens → run tokens start ≡ Some tree
unfolding run
run-tree tokens tree p =
    ap (λ (z : List CargoToken). run z start) (sym (append-nil tokens)) ∙ run-predicate tree tokens [] Bottom Wanted p tt (starts-wanted Bottom)
