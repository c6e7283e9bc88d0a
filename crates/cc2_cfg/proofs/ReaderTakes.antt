-- The tokens of a tree take the reader over them: it gives the tree.
use Rattle.std.proofs.Common.{◌≡◌, ℕ, List, [], ◌∷◌, ◌++◌, Option, Some, refl, sym, ap, ◌∙◌, subst, append_assoc, append-nil}
use Rattle.cc2_cfg.specs.Tokens.{Lexeme, Operator, Word, Quoted, Fun, Equals, Open, Close, Comma, OpAll, OpAny, OpNot}
use Rattle.cc2_cfg.specs.Grammar.{Tree, Trees, Flag, Pair, AllOf, AnyOf, NotOf, NoTrees, MoreTrees, IsCommas, IsPredicate, IsList, IsOthers, IsTree}
use Rattle.cc2_cfg.specs.Machine.{Frames, State, Bottom, Above, Start, Named, Opened, Separated, Keyed, Ended, Rooted, snoc, close, ended, begin, step}
use Rattle.cc2_cfg.proofs.Reader.{from_state, run, join, join-snoc, join-none}

-- what may follow a predicate
abbrev Stops : List Lexeme → Type 0
Stops [] = Unit {0}
Stops (Close ∷ tokens) = Unit {0}
Stops (Comma ∷ tokens) = Unit {0}
Stops (Word w ∷ tokens) = ⊥
Stops (Quoted v ∷ tokens) = ⊥
Stops (Fun f ∷ tokens) = ⊥
Stops (Equals ∷ tokens) = ⊥
Stops (Open ∷ tokens) = ⊥

keyed-ended : (rest : List Lexeme) (frames : Frames) (w : List ℕ) → Stops rest → run rest (Keyed frames w) ≡ run rest (Ended frames (Flag w))
unfolding run
keyed-ended [] Bottom w s = refl
keyed-ended [] (Above f ts fs) w s = refl
keyed-ended (Close ∷ rest) frames w s = refl
keyed-ended (Comma ∷ rest) frames w s = refl
keyed-ended (Word x ∷ rest) frames w s = absurd s
keyed-ended (Quoted x ∷ rest) frames w s = absurd s
keyed-ended (Fun x ∷ rest) frames w s = absurd s
keyed-ended (Equals ∷ rest) frames w s = absurd s
keyed-ended (Open ∷ rest) frames w s = absurd s

commas-stop : (commas rest : List Lexeme) → IsCommas commas → Stops rest → Stops (commas ++ rest)
commas-stop [] rest c s = s
commas-stop (Comma ∷ commas) rest c s = tt
commas-stop (Close ∷ commas) rest c s = absurd c
commas-stop (Word x ∷ commas) rest c s = absurd c
commas-stop (Quoted x ∷ commas) rest c s = absurd c
commas-stop (Fun x ∷ commas) rest c s = absurd c
commas-stop (Equals ∷ commas) rest c s = absurd c
commas-stop (Open ∷ commas) rest c s = absurd c

commas-root : (commas : List Lexeme) (t : Tree) → IsCommas commas → run commas (Rooted t) ≡ Some t
unfolding run
commas-root [] t c = refl
commas-root (Comma ∷ commas) t c = commas-root commas t c
commas-root (Close ∷ commas) t c = absurd c
commas-root (Word x ∷ commas) t c = absurd c
commas-root (Quoted x ∷ commas) t c = absurd c
commas-root (Fun x ∷ commas) t c = absurd c
commas-root (Equals ∷ commas) t c = absurd c
commas-root (Open ∷ commas) t c = absurd c

commas-ended : (commas : List Lexeme) (t : Tree) → IsCommas commas → run commas (Ended Bottom t) ≡ Some t
unfolding run
commas-ended [] t c = refl
commas-ended (Comma ∷ commas) t c = commas-root commas t c
commas-ended (Close ∷ commas) t c = absurd c
commas-ended (Word x ∷ commas) t c = absurd c
commas-ended (Quoted x ∷ commas) t c = absurd c
commas-ended (Fun x ∷ commas) t c = absurd c
commas-ended (Equals ∷ commas) t c = absurd c
commas-ended (Open ∷ commas) t c = absurd c

commas-separated : (commas rest : List Lexeme) (frames : Frames) (f : Operator) (ts : Trees) → IsCommas commas
    → run (commas ++ rest) (Separated frames f ts) ≡ run rest (Separated frames f ts)
unfolding run
commas-separated [] rest frames f ts c = refl
commas-separated (Comma ∷ commas) rest frames f ts c = commas-separated commas rest frames f ts c
commas-separated (Close ∷ commas) rest frames f ts c = absurd c
commas-separated (Word x ∷ commas) rest frames f ts c = absurd c
commas-separated (Quoted x ∷ commas) rest frames f ts c = absurd c
commas-separated (Fun x ∷ commas) rest frames f ts c = absurd c
commas-separated (Equals ∷ commas) rest frames f ts c = absurd c
commas-separated (Open ∷ commas) rest frames f ts c = absurd c

-- after a predicate in a list: commas, and the list's end
commas-close : (commas rest : List Lexeme) (frames : Frames) (f : Operator) (ts : Trees) (t : Tree) → IsCommas commas
    → run (commas ++ Close ∷ rest) (Ended (Above f ts frames) t) ≡ from_state (ended frames (close f (snoc ts t))) (λ s. run rest s)
unfolding run
commas-close [] rest frames f ts t c = refl
commas-close (Comma ∷ commas) rest frames f ts t c = commas-separated commas (Close ∷ rest) frames f (snoc ts t) c
commas-close (Close ∷ commas) rest frames f ts t c = absurd c
commas-close (Word x ∷ commas) rest frames f ts t c = absurd c
commas-close (Quoted x ∷ commas) rest frames f ts t c = absurd c
commas-close (Fun x ∷ commas) rest frames f ts t c = absurd c
commas-close (Equals ∷ commas) rest frames f ts t c = absurd c
commas-close (Open ∷ commas) rest frames f ts t c = absurd c

-- a state that reads a predicate as one that begins one
abbrev starts : Frames → State → Type 0
starts frames s = (token : Lexeme) (next : State) → begin frames token ≡ Some next → step s token ≡ Some next

starts-start : starts Bottom Start
starts-start token next e = e

starts-opened : (fs : Frames) (f : Operator) → starts (Above f NoTrees fs) (Opened fs f)
starts-opened fs f (Word w) next e = e
starts-opened fs f (Fun g) next e = e
starts-opened fs f (Quoted v) next e = cc e
starts-opened fs f Equals next e = cc e
starts-opened fs f Open next e = cc e
starts-opened fs f Close next e = cc e
starts-opened fs f Comma next e = cc e

starts-separated : (fs : Frames) (f : Operator) (ts : Trees) → starts (Above f ts fs) (Separated fs f ts)
starts-separated fs f ts (Word w) next e = e
starts-separated fs f ts (Fun g) next e = e
starts-separated fs f ts (Quoted v) next e = cc e
starts-separated fs f ts Equals next e = cc e
starts-separated fs f ts Open next e = cc e
starts-separated fs f ts Close next e = cc e
starts-separated fs f ts Comma next e = cc e

run-starts : (frames : Frames) (s : State) (token : Lexeme) (tokens : List Lexeme) (next : State) → starts frames s → begin frames token ≡ Some next
    → run (token ∷ tokens) s ≡ run tokens next
unfolding run
run-starts frames s token tokens next st e = ap (λ (o : Option State). from_state o (λ t. run tokens t)) (st token next e)

wrap-append : (f : Operator) (inner rest : List Lexeme) → (Fun f ∷ (Open ∷ (inner ++ Close ∷ []))) ++ rest ≡ Fun f ∷ (Open ∷ (inner ++ Close ∷ rest))
wrap-append f inner rest = ap (λ (z : List Lexeme). Fun f ∷ (Open ∷ z)) (append_assoc inner (Close ∷ []) rest)

wrap-two : (inner commas rest : List Lexeme) → (Fun OpNot ∷ (Open ∷ ((inner ++ commas) ++ Close ∷ []))) ++ rest ≡ Fun OpNot ∷ (Open ∷ (inner ++ (commas ++ Close ∷ rest)))
wrap-two inner commas rest = wrap-append OpNot (inner ++ commas) rest ∙ ap (λ (z : List Lexeme). Fun OpNot ∷ (Open ∷ z)) (append_assoc inner commas (Close ∷ rest))

comma-append : (a b c rest : List Lexeme) → (Comma ∷ (a ++ (b ++ c))) ++ rest ≡ Comma ∷ (a ++ (b ++ (c ++ rest)))
comma-append a b c rest = ap (λ (z : List Lexeme). Comma ∷ z) (append_assoc a (b ++ c) rest ∙ ap (λ (z : List Lexeme). a ++ z) (append_assoc b c rest))

-- equal tokens are read alike
along : (s : State) (a b rest c : List Lexeme) → a ≡ b → b ++ rest ≡ c → run (a ++ rest) s ≡ run c s
along s a b rest c e g = ap (λ (z : List Lexeme). run z s) (ap (λ (z : List Lexeme). z ++ rest) e ∙ g)

mutual
  unfolding run

  run-predicate : (t : Tree) (tokens rest : List Lexeme) (frames : Frames) (s : State) → IsPredicate t tokens → Stops rest → starts frames s
      → run (tokens ++ rest) s ≡ run rest (Ended frames t)
  run-predicate (Flag w) tokens rest frames s p stop st =
      rw p (run-starts frames s (Word w) rest (Keyed frames w) st refl ∙ keyed-ended rest frames w stop)
  run-predicate (Pair k v) tokens rest frames s p stop st =
      rw p (run-starts frames s (Word k) (Equals ∷ (Quoted v ∷ rest)) (Keyed frames k) st refl)
  run-predicate (AllOf ts) tokens rest frames s p stop st =
      along s _ _ _ _ p.2 (wrap-append OpAll p.0 rest) ∙ (run-starts frames s (Fun OpAll) (Open ∷ (p.0 ++ Close ∷ rest)) (Named frames OpAll) st refl ∙ run-list ts p.0 rest frames OpAll p.1)
  run-predicate (AnyOf ts) tokens rest frames s p stop st =
      along s _ _ _ _ p.2 (wrap-append OpAny p.0 rest) ∙ (run-starts frames s (Fun OpAny) (Open ∷ (p.0 ++ Close ∷ rest)) (Named frames OpAny) st refl ∙ run-list ts p.0 rest frames OpAny p.1)
  run-predicate (NotOf t) tokens rest frames s p stop st =
      along s _ _ _ _ p.4 (wrap-two p.0 p.1 rest) ∙ (run-starts frames s (Fun OpNot) (Open ∷ (p.0 ++ (p.1 ++ Close ∷ rest))) (Named frames OpNot) st refl
      ∙ run-predicate t p.0 (p.1 ++ Close ∷ rest) (Above OpNot NoTrees frames) (Opened frames OpNot) p.2 (commas-stop p.1 (Close ∷ rest) p.3 tt) (starts-opened frames OpNot)
      ∙ commas-close p.1 rest frames OpNot NoTrees t p.3)

  run-list : (ts : Trees) (tokens rest : List Lexeme) (frames : Frames) (f : Operator) → IsList ts tokens
      → run (tokens ++ Close ∷ rest) (Opened frames f) ≡ from_state (ended frames (close f ts)) (λ s. run rest s)
  run-list NoTrees tokens rest frames f p = rw p refl
  run-list (MoreTrees t ts) tokens rest frames f p =
      along (Opened frames f) _ _ _ _ p.4 (append_assoc p.0 p.1 (Close ∷ rest))
      ∙ (run-predicate t p.0 (p.1 ++ Close ∷ rest) (Above f NoTrees frames) (Opened frames f) p.2 (others-stop ts p.1 rest p.3) (starts-opened frames f)
      ∙ run-others ts p.1 rest frames f NoTrees t p.3)

  run-others : (ts : Trees) (tokens rest : List Lexeme) (frames : Frames) (f : Operator) (before : Trees) (t : Tree) → IsOthers ts tokens
      → run (tokens ++ Close ∷ rest) (Ended (Above f before frames) t) ≡ from_state (ended frames (close f (join before (MoreTrees t ts)))) (λ s. run rest s)
  run-others NoTrees tokens rest frames f before t p =
      commas-close tokens rest frames f before t p ∙ ap (λ (z : Trees). from_state (ended frames (close f z)) (λ s. run rest s)) (sym (join-none (snoc before t)) ∙ join-snoc before t NoTrees)
  run-others (MoreTrees u ts) tokens rest frames f before t p =
      along (Ended (Above f before frames) t) _ _ _ _ p.6 (comma-append p.0 p.1 p.2 (Close ∷ rest)) ∙ (commas-separated p.0 (p.1 ++ (p.2 ++ Close ∷ rest)) frames f (snoc before t) p.3
      ∙ run-predicate u p.1 (p.2 ++ Close ∷ rest) (Above f (snoc before t) frames) (Separated frames f (snoc before t)) p.4 (others-stop ts p.2 rest p.5) (starts-separated frames f (snoc before t))
      ∙ run-others ts p.2 rest frames f (snoc before t) u p.5
      ∙ ap (λ (z : Trees). from_state (ended frames (close f z)) (λ s. run rest s)) (join-snoc before t (MoreTrees u ts)))

  others-stop : (ts : Trees) (tokens rest : List Lexeme) → IsOthers ts tokens → Stops (tokens ++ Close ∷ rest)
  others-stop NoTrees tokens rest p = commas-stop tokens (Close ∷ rest) p tt
  others-stop (MoreTrees u ts) tokens rest p = rw p.6 tt

-- the tokens of a tree give it
pub run-tree : (tokens : List Lexeme) (tree : Tree) → IsTree tokens tree → run tokens Start ≡ Some tree
run-tree tokens tree p =
    rw p.4 (run-predicate tree p.0 p.1 Bottom Start p.2 (subst (λ (z : List Lexeme). Stops z) (append-nil p.1) (commas-stop p.1 [] p.3 tt)) starts-start ∙ commas-ended p.1 tree p.3)

-- a token list has at most one tree
pub tree-unique : (tokens : List Lexeme) (t u : Tree) → IsTree tokens t → IsTree tokens u → t ≡ u
tree-unique tokens t u p q = let a = run-tree tokens t p in let b = run-tree tokens u q in cc
