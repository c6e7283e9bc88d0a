-- A function inside of another one is in a tree that isn't flat.
use Rattle.std.proofs.Common.{◌≡◌, List, ◌∷◌, Some, sym, subst, inl, inr}
use Rattle.cc2_cfg.specs.Flat.{IsLeaf, AreLeaves, IsFlat}
use Rattle.cc2_cfg.specs.Tokens.{Operator, Word, Fun}
use Rattle.cc2_cfg.specs.Grammar.{Tree, Trees, Flag, Pair, AllOf, AnyOf, NotOf, NoTrees, MoreTrees}
use Rattle.cc2_cargo.specs.Grammar.{CargoToken, Plain}
use Rattle.cc2_cargo.specs.Grammar.{IsName, IsPredicate}
use Rattle.cc2_cargo.specs.Machine.{Junction, All, Any, group, OpenFunctions, Bottom, InGroup, InNot, Named, ReaderState, At, snoc, run}
use Rattle.cc2_cargo.specs.Reading.{OpensInside}
use Rattle.cc2_cargo.proofs.Joining.{join}
use Rattle.cc2_cargo.proofs.Gives.{Ends, sound}

leaves-in : (j : Junction) (ts : Trees) → IsFlat (group j ts) → AreLeaves ts
leaves-in All ts h = h
leaves-in Any ts h = h

leaf-flat : (t : Tree) → IsLeaf t → IsFlat t
leaf-flat (Flag w) h = tt
leaf-flat (Pair k v) h = tt
leaf-flat (AllOf ts) h = absurd h
leaf-flat (AnyOf ts) h = absurd h
leaf-flat (NotOf t) h = absurd h

leaf-joined : (before : Trees) (t : Tree) (more : Trees) → AreLeaves (join (snoc before t) more) → IsLeaf t
leaf-joined NoTrees t more h = h.0
leaf-joined (MoreTrees u before) t more h = leaf-joined before t more h.1

-- what is around a tree that isn't flat isn't flat
ends-deep : (frames : OpenFunctions) (t : Tree) (tokens : List CargoToken) (tree : Tree) → Ends frames t tokens tree → (IsFlat t → ⊥) → IsFlat tree → ⊥
ends-deep Bottom t tokens tree p deep flat = deep (subst (λ (z : Tree). IsFlat z) (sym p.1) flat)
ends-deep (InGroup j before frames) t tokens tree p deep flat =
    ends-deep frames (group j (join (snoc before t) p.0)) p.2 tree p.5 (λ f. deep (leaf-flat t (leaf-joined before t p.0 (leaves-in j (join (snoc before t) p.0) f)))) flat
ends-deep (InNot frames) t tokens tree p deep flat = ends-deep frames (NotOf t) p.0 tree p.2 (λ f. deep (leaf-flat t f)) flat

word-apart : (w : List _) (f : Operator) → Plain (Fun f) ≡ Plain (Word w) → ⊥
word-apart w f e = let same : Fun f ≡ Word w = cc e in cc same

name-apart : (w : List _) (f : Operator) → IsName w (Plain (Fun f)) → ⊥
name-apart w f (inl e) = word-apart w f e
name-apart w f (inr e) = cc e

-- a function is no leaf
function-deep : (t : Tree) (f : Operator) (tokens : List CargoToken) → IsPredicate t (Plain (Fun f) ∷ tokens) → IsLeaf t → ⊥
function-deep (Flag w) f tokens p h =
    let same : Plain (Fun f) ≡ p.0 = cc p.2 in
    name-apart w f (subst (λ (z : CargoToken). IsName w z) (sym same) p.1)
function-deep (Pair k v) f tokens p h =
    let same : Plain (Fun f) ≡ p.0 = cc p.2 in
    name-apart k f (subst (λ (z : CargoToken). IsName k z) (sym same) p.1)
function-deep (AllOf ts) f tokens p h = h
function-deep (AnyOf ts) f tokens p h = h
function-deep (NotOf t) f tokens p h = h

pub inside-deep : (s : ReaderState) (tokens : List CargoToken) (tree : Tree) → OpensInside s → run tokens s ≡ Some tree → IsFlat tree → ⊥
inside-deep (At (InGroup j before frames) (Named f)) tokens tree inside h flat =
    let p = sound tokens tree (At (InGroup j before frames) (Named f)) h in
    let q = p.5 in
    ends-deep frames (group j (join (snoc before p.0) q.0)) q.2 tree q.5
    (λ g. function-deep p.0 f p.1 p.3 (leaf-joined before p.0 q.0 (leaves-in j (join (snoc before p.0) q.0) g))) flat
inside-deep (At (InNot frames) (Named f)) tokens tree inside h flat =
    let p = sound tokens tree (At (InNot frames) (Named f)) h in
    let q = p.5 in
    ends-deep frames (NotOf p.0) q.0 tree q.2 (λ g. function-deep p.0 f p.1 p.3 g) flat
inside-deep s tokens tree inside h flat = inside
