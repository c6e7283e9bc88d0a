-- What each step of the code keeps of a state of the machine.
use Rattle.std.proofs.Common.{◌≡◌, Vec, Global, vec_len, List, [], ◌∷◌, ◌++◌, length, arith, refl, sym, ap, ◌∙◌, subst, Option, Some, None, inl, inr}
use Rattle.std.specs.Prelude.{Bool, true, false, not, ◌&&◌, ◌||◌, ◌⊎◌, option_to_list, MatchOption}
use Rattle.cc2_cfg.specs.Tokens.{Close, Comma}
use Rattle.cc2_cfg.specs.Grammar.{Tree, Trees, NotOf, NoTrees, MoreTrees}
use Rattle.cc2_cfg.specs.Meaning.{Atom, Operations, meaning, conj_from, disj_from}
use Rattle.cc2_cfg.specs.Logic.{bool_operations}
use Rattle.cc2_cargo.specs.Grammar.{Plain}
use Rattle.cc2_cargo.specs.Meaning.{with_constants, value_of}
use Rattle.cc2_cargo.specs.Machine.{Junction, All, Any, group, OpenFunctions, Bottom, InGroup, InNot, Allowed, Keyed, Ended, ReaderState, At, snoc, after_predicate, next_state}
use Rattle.cc2_cargo.specs.Meaning.{AnswerMap, IsValue}
use Rattle.cc2_cargo.specs.Reading.{function_of, added, IsStack, IsStage, KeepsState, NextState, flag_ended, ending, frames_of}
use Rattle.cc2_cargo.specs.declared.cfg_token.Function.{Function}
use Rattle.cc2_cargo.specs.declared.cfg_token.Function.TheVariants as function
use Rattle.cc2_cargo.specs.declared.cfg_reader.Last.{Last}
use Rattle.cc2_cargo.specs.declared.cfg_reader.Last.TheVariants as last
use Rattle.cc2_cargo.specs.declared.cfg_reader.Open.{Open}
use Rattle.cc2_cargo.specs.declared.cfg_reader.Reader.{Reader}

-- ---- the value of one operand more

module _ {T : Type 0} (o : Operations T) (answers : Atom → T) where
  conj-snoc : (x : T) (ts : Trees) (t : Tree) → conj_from o answers x (snoc ts t) ≡ o.conj (conj_from o answers x ts) (meaning o answers t)
  conj-snoc x NoTrees t = refl
  conj-snoc x (MoreTrees u ts) t = conj-snoc (o.conj x (meaning o answers u)) ts t

  disj-snoc : (x : T) (ts : Trees) (t : Tree) → disj_from o answers x (snoc ts t) ≡ o.disj (disj_from o answers x ts) (meaning o answers t)
  disj-snoc x NoTrees t = refl
  disj-snoc x (MoreTrees u ts) t = disj-snoc (o.disj x (meaning o answers u)) ts t

group-more : (known : AnswerMap) (j : Junction) (ts : Trees) (t : Tree) (x b : Bool) → IsValue known (group j ts) x → IsValue known t b
    → IsValue known (group j (snoc ts t)) (added (function_of j) x b)
group-more None j ts t x b p q = tt
group-more (Some answers) All ts t x b p q =
    ap (λ (z : Bool). z && b) p ∙ ap (λ (z : Bool). value_of answers (group All ts) && z) q ∙ sym (conj-snoc bool_operations (with_constants answers) true ts t)
group-more (Some answers) Any ts t x b p q =
    ap (λ (z : Bool). z || b) p ∙ ap (λ (z : Bool). value_of answers (group Any ts) || z) q ∙ sym (disj-snoc bool_operations (with_constants answers) false ts t)

not-value : (known : AnswerMap) (t : Tree) (b : Bool) → IsValue known t b → IsValue known (NotOf t) (not b)
not-value None t b p = tt
not-value (Some answers) t b p = ap not p

-- ---- the innermost function that is open

last-open : (xs ys : List Open) (x y : Open) → xs ++ x ∷ [] ≡ ys ++ y ∷ [] → (xs ≡ ys) × (x ≡ y)
last-open [] [] x y e = (refl, cc e)
last-open [] (b ∷ []) x y e = cc e
last-open [] (b ∷ (c ∷ ys)) x y e = cc e
last-open (a ∷ []) [] x y e = cc e
last-open (a ∷ (c ∷ xs)) [] x y e = cc e
last-open (a ∷ xs) (b ∷ ys) x y e =
    let rest : xs ++ x ∷ [] ≡ ys ++ y ∷ [] = cc e in
    let same = last-open xs ys x y rest in
    let head : a ≡ b = cc e in
    (cc (same.0, head), same.1)

some-open : (xs : List Open) (x : Open) → xs ++ x ∷ [] ≡ [] → ⊥
some-open [] x e = cc e
some-open (a ∷ xs) x e = cc e

-- a word alone has ended where no `=` follows
flag-comma : (s : ReaderState) (frames : OpenFunctions) (t : Tree) → flag_ended s ≡ At frames (Ended t) → next_state s (Plain Comma) ≡ after_predicate frames t (Plain Comma)
flag-comma (At fs (Keyed w)) frames t e = ap (λ (z : ReaderState). next_state z (Plain Comma)) e
flag-comma s frames t e = ap (λ (z : ReaderState). next_state z (Plain Comma)) e

flag-close : (s : ReaderState) (frames : OpenFunctions) (t : Tree) → flag_ended s ≡ At frames (Ended t) → next_state s (Plain Close) ≡ after_predicate frames t (Plain Close)
flag-close (At fs (Keyed w)) frames t e = ap (λ (z : ReaderState). next_state z (Plain Close)) e
flag-close s frames t e = ap (λ (z : ReaderState). next_state z (Plain Close)) e

none-some : (x : Open) → None ≡ Some x → ⊥
none-some x e = cc e

-- ---- a comma

group-separated : (known : AnswerMap) (frames : OpenFunctions) (t : Tree) (top new : Open) (outer : List Open) (operand : Bool) (q : Reader)
    → IsStack known frames (outer ++ top ∷ []) → IsValue known t operand → ((f : top.function ≡ function.Not) → ⊥)
    → new.function ≡ top.function → new.value ≡ added top.function top.value operand
    → q.outer.items ≡ outer → q.current ≡ Some new → q.last ≡ last.Allowed
    → NextState known (after_predicate frames t (Plain Comma)) true q
group-separated known Bottom t top new outer operand q st v lacks ef ev eo ec el = absurd (some-open outer top st)
group-separated known (InNot frames) t top new outer operand q st v lacks ef ev eo ec el =
    let same = last-open outer st.0 top st.1 st.2 in
    absurd (lacks (ap (λ (z : Open). z.function) same.1 ∙ st.3))
group-separated known (InGroup j ts frames) t top new outer operand q st v lacks ef ev eo ec el =
    let same = last-open outer st.0 top st.1 st.2 in
    let fun : top.function ≡ function_of j = ap (λ (z : Open). z.function) same.1 ∙ st.3 in
    let before = subst (λ (z : Open). IsValue known (group j ts) z.value) (sym same.1) st.4 in
    let value : new.value ≡ added (function_of j) top.value operand = ev ∙ ap (λ (z : Function). added z top.value operand) fun in (
      refl,
      record {
        phase = subst (λ (z : Last). IsStage known z (At (InGroup j (snoc ts t) frames) Allowed)) (sym el) (j, snoc ts t, frames, refl);
        stack = (
          outer,
          new,
          ap (λ (z : List Open). z ++ option_to_list q.current) eo ∙ ap (λ (z : Option Open). outer ++ option_to_list z) ec,
          ef ∙ fun,
          subst (λ (z : Bool). IsValue known (group j (snoc ts t)) z) (sym value) (group-more known j ts t top.value operand before v),
          subst (λ (z : List Open). IsStack known frames z) (sym same.0) st.5,
        );
        outermost = λ none. absurd (none-some new (sym none ∙ ec));
      },
    )

-- a comma after an operand of `all` or `any`
pub comma-step : (known : AnswerMap) (s : ReaderState) (r q : Reader) (operand : Bool) (top new : Open) → KeepsState known r (flag_ended s)
    → r.last ≡ last.Value operand → r.current ≡ Some top → ((f : top.function ≡ function.Not) → ⊥)
    → new.function ≡ top.function → new.value ≡ added top.function top.value operand
    → q.outer.items ≡ r.outer.items → q.current ≡ Some new → q.last ≡ last.Allowed
    → NextState known (next_state s (Plain Comma)) true q
comma-step known s r q operand top new rep el ec lacks ef ev eo ec' el' =
    let phase = subst (λ (z : Last). IsStage known z (flag_ended s)) el rep.phase in
    let stack = subst (λ (z : ReaderState). IsStack known (frames_of z) (r.outer.items ++ option_to_list r.current)) phase.2 rep.stack in
    let here = subst (λ (z : Option Open). IsStack known phase.0 (r.outer.items ++ option_to_list z)) ec stack in
    subst (λ (z : Option ReaderState). NextState known z true q) (sym (flag-comma s phase.0 phase.1 phase.2))
    (group-separated known phase.0 phase.1 top new r.outer.items operand q here phase.3 lacks ef ev eo ec' el')

pub not-negation : (f : Function) → (f ≡ function.All) ⊎ (f ≡ function.Any) → f ≡ function.Not → ⊥
not-negation f (inl e) n = let same : function.All ≡ function.Not = sym e ∙ n in cc same
not-negation f (inr e) n = let same : function.Any ≡ function.Not = sym e ∙ n in cc same

-- ---- the end of a function

-- the predicate t ended, and the functions around it are open
closed-at : (known : AnswerMap) (frames : OpenFunctions) (t : Tree) (value : Bool) (outer : List Open) (q : Reader) → IsStack known frames outer → IsValue known t value
    → outer ≡ q.outer.items ++ option_to_list q.current → (q.current ≡ None → q.outer.items ≡ []) → q.last ≡ last.Value value
    → KeepsState known q (At frames (Ended t))
closed-at known frames t value outer q st v eo en el = record {
  phase = subst (λ (z : Last). IsStage known z (At frames (Ended t))) (sym el) (frames, t, refl, v);
  stack = subst (λ (z : List Open). IsStack known frames z) eo st;
  outermost = en;
}

-- after an operand
operand-closed : (known : AnswerMap) (frames : OpenFunctions) (t : Tree) (top : Open) (operand : Bool) (outer : List Open) (q : Reader)
    → IsStack known frames (outer ++ top ∷ []) → IsValue known t operand
    → outer ≡ q.outer.items ++ option_to_list q.current → (q.current ≡ None → q.outer.items ≡ []) → q.last ≡ last.Value (added top.function top.value operand)
    → NextState known (after_predicate frames t (Plain Close)) true q
operand-closed known Bottom t top operand outer q st v eo en el = absurd (some-open outer top st)
operand-closed known (InNot frames) t top operand outer q st v eo en el =
    let same = last-open outer st.0 top st.1 st.2 in
    let fun : top.function ≡ function.Not = ap (λ (z : Open). z.function) same.1 ∙ st.3 in (
      refl,
      closed-at known frames (NotOf t) (not operand) outer q (subst (λ (z : List Open). IsStack known frames z) (sym same.0) st.4) (not-value known t operand v) eo en
          (el ∙ ap (λ (z : Function). last.Value (added z top.value operand)) fun),
    )
operand-closed known (InGroup j ts frames) t top operand outer q st v eo en el =
    let same = last-open outer st.0 top st.1 st.2 in
    let fun : top.function ≡ function_of j = ap (λ (z : Open). z.function) same.1 ∙ st.3 in
    let before = subst (λ (z : Open). IsValue known (group j ts) z.value) (sym same.1) st.4 in (
      refl,
      closed-at known frames (group j (snoc ts t)) (added (function_of j) top.value operand) outer q (subst (λ (z : List Open). IsStack known frames z) (sym same.0) st.5)
          (group-more known j ts t top.value operand before v) eo en (el ∙ ap (λ (z : Function). last.Value (added z top.value operand)) fun),
    )

flag-allowed : (s : ReaderState) (frames : OpenFunctions) → flag_ended s ≡ At frames Allowed → s ≡ At frames Allowed
flag-allowed (At fs (Keyed w)) frames e = cc e
flag-allowed s frames e = e

some-same : (x y : Bool) → Some x ≡ Some y → x ≡ y
some-same x y e = cc e

none-value : (x : Bool) → None ≡ Some x → ⊥
none-value x e = cc e

close-at : (known : AnswerMap) (s : ReaderState) (l : Last) (current : Option Open) (outer : List Open) (value : Bool) (q : Reader)
    → IsStage known l (flag_ended s) → IsStack known (frames_of (flag_ended s)) (outer ++ option_to_list current) → ending l current ≡ Some value
    → outer ≡ q.outer.items ++ option_to_list q.current → (q.current ≡ None → q.outer.items ≡ []) → q.last ≡ last.Value value
    → NextState known (next_state s (Plain Close)) true q
close-at known s (last.Value operand) (Some top) outer value q ph st e eo en el =
    let here = subst (λ (z : ReaderState). IsStack known (frames_of z) (outer ++ top ∷ [])) ph.2 st in
    subst (λ (z : Option ReaderState). NextState known z true q) (sym (flag-close s ph.0 ph.1 ph.2))
    (operand-closed known ph.0 ph.1 top operand outer q here ph.3 eo en (el ∙ ap (λ (z : Bool). last.Value z) (sym (some-same _ value e))))
close-at known s last.Allowed (Some top) outer value q ph st e eo en el =
    let here = subst (λ (z : ReaderState). IsStack known (frames_of z) (outer ++ top ∷ [])) ph.3 st in
    let same = last-open outer here.0 top here.1 here.2 in
    let v = subst (λ (z : Bool). IsValue known (group ph.0 ph.1) z) (ap (λ (z : Open). z.value) (sym same.1) ∙ some-same top.value value e) here.4 in
    subst (λ (z : ReaderState). NextState known (next_state z (Plain Close)) true q) (sym (flag-allowed s (InGroup ph.0 ph.1 ph.2) ph.3))
    (refl, closed-at known ph.2 (group ph.0 ph.1) value outer q (subst (λ (z : List Open). IsStack known ph.2 z) (sym same.0) here.5) v eo en el)
close-at known s l current outer value q ph st e eo en el = absurd (none-value value e)

pub close-step : (known : AnswerMap) (s : ReaderState) (r q : Reader) (value : Bool) → KeepsState known r (flag_ended s) → ending r.last r.current ≡ Some value
    → r.outer.items ≡ q.outer.items ++ option_to_list q.current → (q.current ≡ None → q.outer.items ≡ []) → q.last ≡ last.Value value
    → NextState known (next_state s (Plain Close)) true q
close-step known s r q value rep e eo en el = close-at known s r.last r.current r.outer.items value q rep.phase rep.stack e eo en el

length-none : (xs : List Open) → length xs ≡ 0 → xs ≡ []
length-none [] e = refl
length-none (x ∷ xs) e = absurd (omega (arith, e))

-- where nothing was popped, nothing is left
pub popped-none : (o : Option Open) (v : Vec Open Global) (A : Type 0) (P : Open → Type 0) → MatchOption o (A × (vec_len v ≡ 0)) P → o ≡ None → v.items ≡ []
popped-none None v A P m e = length-none v.items (omega (arith, m.1, v.ok.0))
popped-none (Some x) v A P m e = absurd (none-some x (sym e))

-- ---- what the steps' clauses say

pub stepped-true : (o : Option ReaderState) (b : Bool) (q : Reader) → NextState None o b q → b ≡ true → (u : ReaderState) × (o ≡ Some u)
stepped-true None b q h e = cc (sym h ∙ e)
stepped-true (Some u) b q h e = (u, refl)

pub stepped-false : (o : Option ReaderState) (b : Bool) (q : Reader) → NextState None o b q → b ≡ false → o ≡ None
stepped-false None b q h e = refl
stepped-false (Some u) b q h e = cc (sym h.0 ∙ e)

pub stepped-to : (known : AnswerMap) (o : Option ReaderState) (u : ReaderState) (b : Bool) (q : Reader) → o ≡ Some u → NextState known o b q → KeepsState known q u
stepped-to known o u b q e h = (subst (λ (z : Option ReaderState). NextState known z b q) e h).1
