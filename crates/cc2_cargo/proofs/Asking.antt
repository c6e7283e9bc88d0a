-- The predicates that the code asks about are those of the tree; and their answers.
use Rattle.std.proofs.Common.{◌≡◌, ℕ, List, [], ◌∷◌, Some, None, refl, sym, ◌∙◌, arith, subst}
use Rattle.std.specs.Prelude.{Bool, true, false, Contains, if◌then◌else◌, bytes_eq, codes}
use Rattle.std.specs.Fn.{Mut, Called}
use denote.Ref.{Bor}
use Rattle.std.proofs.lemmas.List.Elements.{Contains-append_left, Contains-append_right}
use Rattle.cc2_cfg.specs.Tokens.{Quoted, Close, Comma}
use Rattle.cc2_cfg.specs.Grammar.{Tree, Trees, Flag, Pair, NotOf, NoTrees, MoreTrees}
use Rattle.cc2_cfg.specs.Meaning.{Atom, FlagAtom, PairAtom, predicates_of, predicates_in}
use Rattle.cc2_cfg.specs.Table.{atom_of}
use Rattle.cc2_cfg.specs.declared.expression.Predicate.{Predicate}
use Rattle.cc2_cfg.proofs.Leaves.{answered as answered-call}
use Rattle.cc2_cargo.specs.Grammar.{CargoToken, Plain}
use Rattle.cc2_cargo.specs.Meaning.{value_of}
use Rattle.cc2_cargo.specs.Machine.{Junction, All, Any, group, OpenFunctions, Bottom, InGroup, InNot, Keyed, Waiting, Ended, ReaderState, At, snoc, run}
use Rattle.cc2_cargo.specs.Meaning.{AnswerMap, Follows, IsAmong, IsValue, leaf, constant_of}
use Rattle.cc2_cargo.specs.Reading.{CoversFlag, CoversPair, Covers}
use Rattle.cc2_cargo.proofs.Joining.{join}
use Rattle.cc2_cargo.proofs.Gives.{Ends, sound}

in-join : (before : Trees) (t : Tree) (more : Trees) (a : Atom) → Contains (predicates_of t) a → Contains (predicates_in (join (snoc before t) more)) a
in-join NoTrees t more a h = Contains-append_left (predicates_of t) (predicates_in more) a h
in-join (MoreTrees u before) t more a h =
    Contains-append_right (predicates_of u) (predicates_in (join (snoc before t) more)) a (in-join before t more a h)

in-group : (j : Junction) (ts : Trees) (a : Atom) → Contains (predicates_in ts) a → Contains (predicates_of (group j ts)) a
in-group All ts a h = h
in-group Any ts a h = h

-- a predicate within t is one of the whole tree
ends-asked : (frames : OpenFunctions) (t : Tree) (tokens : List CargoToken) (tree : Tree) (a : Atom) → Ends frames t tokens tree → Contains (predicates_of t) a → Contains (predicates_of tree) a
ends-asked Bottom t tokens tree a p h = subst (λ (z : Tree). Contains (predicates_of z) a) p.1 h
ends-asked (InGroup j before frames) t tokens tree a p h =
    ends-asked frames (group j (join (snoc before t) p.0)) p.2 tree a p.5 (in-group j (join (snoc before t) p.0) a (in-join before t p.0 a h))
ends-asked (InNot frames) t tokens tree a p h = ends-asked frames (NotOf t) p.0 tree a p.2 h

single : (a : Atom) → Contains (a ∷ []) a
single a = (0, omega arith, refl)

-- a predicate that has ended is one of the tree
ended-asked : (frames : OpenFunctions) (t : Tree) (tokens : List CargoToken) (tree : Tree) (a : Atom) → run tokens (At frames (Ended t)) ≡ Some tree → Contains (predicates_of t) a
    → Contains (predicates_of tree) a
ended-asked frames t tokens tree a h c = ends-asked frames t tokens tree a (sound tokens tree (At frames (Ended t)) h) c

pub flag-covered : (answers : Atom → Bool) (s : ReaderState) (tree : Tree) → run [] s ≡ Some tree → CoversFlag (Some answers) (predicates_of tree) s
unfolding run
flag-covered answers (At Bottom (Keyed w)) tree h = ended-asked Bottom (Flag w) [] tree (FlagAtom w) h (single (FlagAtom w))
flag-covered answers (At (InGroup j ts frames) (Keyed w)) tree h = cc h
flag-covered answers (At (InNot frames) (Keyed w)) tree h = cc h
flag-covered answers s tree h = tt

comma-covered : (answers : Atom → Bool) (s : ReaderState) (tokens : List CargoToken) (tree : Tree) → run (Plain Comma ∷ tokens) s ≡ Some tree → CoversFlag (Some answers) (predicates_of tree) s
unfolding run
comma-covered answers (At frames (Keyed w)) tokens tree h = ended-asked frames (Flag w) (Plain Comma ∷ tokens) tree (FlagAtom w) h (single (FlagAtom w))
comma-covered answers s tokens tree h = tt

close-covered : (answers : Atom → Bool) (s : ReaderState) (tokens : List CargoToken) (tree : Tree) → run (Plain Close ∷ tokens) s ≡ Some tree → CoversFlag (Some answers) (predicates_of tree) s
unfolding run
close-covered answers (At frames (Keyed w)) tokens tree h = ended-asked frames (Flag w) (Plain Close ∷ tokens) tree (FlagAtom w) h (single (FlagAtom w))
close-covered answers s tokens tree h = tt

pair-covered : (answers : Atom → Bool) (s : ReaderState) (v : List ℕ) (tokens : List CargoToken) (tree : Tree) → run (Plain (Quoted v) ∷ tokens) s ≡ Some tree
    → CoversPair (Some answers) (predicates_of tree) s v
unfolding run
pair-covered answers (At frames (Waiting w)) v tokens tree h = ended-asked frames (Pair w v) tokens tree (PairAtom w v) h (single (PairAtom w v))
pair-covered answers s v tokens tree h = tt

pub covered : (answers : Atom → Bool) (s : ReaderState) (token : CargoToken) (tokens : List CargoToken) (tree : Tree) → run (token ∷ tokens) s ≡ Some tree
    → Covers (Some answers) (predicates_of tree) s token
covered answers s (Plain (Quoted v)) tokens tree h = pair-covered answers s v tokens tree h
covered answers s (Plain Comma) tokens tree h = comma-covered answers s tokens tree h
covered answers s (Plain Close) tokens tree h = close-covered answers s tokens tree h
covered answers s token tokens tree h = tt

pub flag-unknown : (asked : List Atom) (s : ReaderState) → CoversFlag None asked s
flag-unknown asked (At frames (Keyed w)) = tt
flag-unknown asked s = tt

pair-unknown : (asked : List Atom) (s : ReaderState) (v : List ℕ) → CoversPair None asked s v
pair-unknown asked (At frames (Waiting w)) v = tt
pair-unknown asked s v = tt

pub unknown : (asked : List Atom) (s : ReaderState) (token : CargoToken) → Covers None asked s token
unknown asked s (Plain (Quoted v)) = pair-unknown asked s v
unknown asked s (Plain Comma) = flag-unknown asked s
unknown asked s (Plain Close) = flag-unknown asked s
unknown asked s token = tt

tested : (p q x : Bool) → (if p then Some true else if q then Some false else None) ≡ None → (if p then true else if q then false else x) ≡ x
tested true q x e = cc e
tested false true x e = cc e
tested false false x e = refl

-- a predicate that is no constant has the value of its answer
leaf-value : (answers : Atom → Bool) (a : Atom) → constant_of a ≡ None → value_of answers (leaf a) ≡ answers a
leaf-value answers (FlagAtom w) e = tested (bytes_eq w (codes "true")) (bytes_eq w (codes "false")) (answers (FlagAtom w)) e
leaf-value answers (PairAtom key v) e = refl

module _ {F : Type 0} (g : Mut F (Bor Predicate × Unit {0}) Bool) (asked : List Atom) (ask next : F) (a : Bor Predicate × Unit {0}) (r : Bool) where
  pub ask-value : (known : AnswerMap) → Called g ask a r next → constant_of (atom_of a.0.now) ≡ None → Follows g known asked ask → IsAmong known asked (atom_of a.0.now)
      → IsValue known (leaf (atom_of a.0.now)) r
  ask-value None called plain again among = tt
  ask-value (Some answers) called plain again among =
      (answered-call g asked answers ask next a r again called among).0 ∙ sym (leaf-value answers (atom_of a.0.now) plain)

  pub ask-again : (known : AnswerMap) → Called g ask a r next → Follows g known asked ask → IsAmong known asked (atom_of a.0.now) → Follows g known asked next
  ask-again None called again among = tt
  ask-again (Some answers) called again among = (answered-call g asked answers ask next a r again called among).1
