-- At most one token is at the front of a text, and what spaces before it change.
use Rattle.std.proofs.Common.{◌≡◌, ◌≢◌, ℕ, ◌<◌, ◌&&◌, Bool, true, false, List, [], ◌∷◌, ◌++◌, length, get_or, refl, sym, ap, ◌∙◌, arith, subst}
use Rattle.std.specs.Prelude.{codes}
use Rattle.std.specs.List.{list_all}
use Rattle.std.proofs.lemmas.Bool.{both_ways}
use Rattle.cc2_cfg.specs.Tokens.{Lexeme, is_word_start, is_word_byte, IsRun, NoWordByteFirst}
use Rattle.cc2_cfg.proofs.Words.{fronts-same as plain-same, no-front as no-plain, no-value}
use Rattle.cc2_cargo.specs.Grammar.{CargoToken, Raw, Plain, IsFront, IsSpaces, TokenFirst, SpellsTokens}

and-both : (x y : Bool) → (x && y) ≡ true → (x ≡ true) × (y ≡ true)
and-both true y h = (refl, h)
and-both false y h = cc h

tail-same : (a b : ℕ) (x y : List ℕ) → a ∷ x ≡ b ∷ y → x ≡ y
tail-same a b x y e = cc e

-- two runs of word characters that can't go on are one
bytes-same : (v w x y : List ℕ) → list_all is_word_byte v ≡ true → list_all is_word_byte w ≡ true → NoWordByteFirst x → NoWordByteFirst y → v ++ x ≡ w ++ y
    → (v ≡ w) × (x ≡ y)
bytes-same [] [] x y h k p q e = (refl, e)
bytes-same [] (b ∷ w) [] y h k p q e = cc e
bytes-same [] (b ∷ w) (c ∷ x) y h k p q e =
    let same : c ≡ b = cc e in
    absurd (both_ways (is_word_byte c) p (ap is_word_byte same ∙ (and-both (is_word_byte b) (list_all is_word_byte w) k).0))
bytes-same (b ∷ v) [] x [] h k p q e = cc e
bytes-same (b ∷ v) [] x (c ∷ y) h k p q e =
    let same : c ≡ b = cc e in
    absurd (both_ways (is_word_byte c) q (ap is_word_byte same ∙ (and-both (is_word_byte b) (list_all is_word_byte v) h).0))
bytes-same (b ∷ v) (c ∷ w) x y h k p q e =
    let rest = bytes-same v w x y (and-both (is_word_byte b) (list_all is_word_byte v) h).1 (and-both (is_word_byte c) (list_all is_word_byte w) k).1 p q
    (tail-same b c (v ++ x) (w ++ y) e) in
    let same : b ≡ c = cc e in
    (cc (same, rest.0), rest.1)

start-byte : (b : ℕ) → is_word_start b ≡ true → is_word_byte b ≡ true
start-byte b h = rw h refl

run-bytes : (w : List ℕ) → IsRun w → list_all is_word_byte w ≡ true
run-bytes [] h = absurd h
run-bytes (b ∷ w) h = rw (start-byte b h.0) h.1

prefix-same : (x y : List ℕ) → codes "r#" ++ x ≡ codes "r#" ++ y → x ≡ y
prefix-same x y e = cc e

-- at most one token is at the front of a text
pub front-same : (text : List ℕ) (t u : CargoToken) (x y : List ℕ) → IsFront text t x → IsFront text u y → (t ≡ u) × (x ≡ y)
front-same text (Plain t) (Plain u) x y f g =
    let s = plain-same text t u x y f.shared g.shared in
    (ap (λ (z : Lexeme). Plain z) s.0, s.1)
front-same text (Plain t) (Raw w) x y f g = absurd (f.not_raw (w ++ y) g.whole)
front-same text (Raw v) (Plain u) x y f g = absurd (g.not_raw (v ++ x) f.whole)
front-same text (Raw v) (Raw w) x y f g =
    let s = bytes-same v w x y (run-bytes v f.valid) (run-bytes w g.valid) f.ends g.ends (prefix-same (v ++ x) (w ++ y) (sym f.whole ∙ g.whole)) in
    (ap (λ (z : List ℕ). Raw z) s.0, s.1)

-- two texts with another first byte
apart : (a b : ℕ) (x y : List ℕ) → a ≢ b → a ∷ x ≢ b ∷ y
apart a b x y differ e = differ (ap (λ (z : List ℕ). get_or z 0 0) e)

-- a text that begins with a space begins with no token
pub space-no-front : (r : List ℕ) (t : CargoToken) (x : List ℕ) → IsFront (32 ∷ r) t x → ⊥
space-no-front r (Plain t) x f =
    no-plain (32 ∷ r) (λ z. apart 32 61 r z (λ e. absurd (omega (arith, e)))) (λ z. apart 32 40 r z (λ e. absurd (omega (arith, e))))
    (λ z. apart 32 41 r z (λ e. absurd (omega (arith, e)))) (λ z. apart 32 44 r z (λ e. absurd (omega (arith, e))))
    (λ v z. apart 32 34 r (v ++ 34 ∷ z) (λ e. absurd (omega (arith, e)))) (λ some. refl) t x f.shared
space-no-front r (Raw w) x f = apart 32 114 r (35 ∷ (w ++ x)) (λ e. absurd (omega (arith, e))) f.whole

-- nor does one that is empty
pub empty-no-front : (t : CargoToken) (x : List ℕ) → IsFront [] t x → ⊥
empty-no-front (Plain t) x f =
    no-plain [] (λ z e. absurd (omega (arith, ap length e))) (λ z e. absurd (omega (arith, ap length e))) (λ z e. absurd (omega (arith, ap length e)))
    (λ z e. absurd (omega (arith, ap length e))) (λ v z e. absurd (omega (arith, ap length e))) (λ some. absurd (omega arith)) t x f.shared
empty-no-front (Raw w) x f = let e = ap length f.whole in absurd (omega (arith, e))

-- nor one that begins with a quote that isn't closed
pub unclosed-no-front : (text body : List ℕ) → text ≡ 34 ∷ body → ((v r : List ℕ) → body ≢ v ++ 34 ∷ r) → (t : CargoToken) (x : List ℕ) → IsFront text t x → ⊥
unclosed-no-front text body e h (Plain t) x f = no-value text body e h t x f.shared
unclosed-no-front text body e h (Raw w) x f = apart 34 114 body (35 ∷ (w ++ x)) (λ d. absurd (omega (arith, d))) (sym e ∙ f.whole)

-- nor one with `r#` before no word
pub prefix-no-front : (text name : List ℕ) → text ≡ codes "r#" ++ name → (0 < length name → is_word_start (get_or name 0 0) ≡ false) → (t : CargoToken) (x : List ℕ) → IsFront text t x → ⊥
prefix-no-front text name e h (Plain t) x f = f.not_raw name e
prefix-no-front text name e h (Raw []) x f = f.valid
prefix-no-front text name e h (Raw (b ∷ w)) x f =
    let same : name ≡ b ∷ (w ++ x) = prefix-same name (b ∷ (w ++ x)) (sym e ∙ f.whole) in
    let some : 0 < length name = rw same (omega arith) in
    both_ways (is_word_start (get_or name 0 0)) (h some) (ap (λ (z : List ℕ). is_word_start (get_or z 0 0)) same ∙ f.valid.0)

-- nor one that begins as no token does
pub other-no-front : (text : List ℕ) → ((r : List ℕ) → text ≢ 61 ∷ r) → ((r : List ℕ) → text ≢ 40 ∷ r) → ((r : List ℕ) → text ≢ 41 ∷ r) → ((r : List ℕ) → text ≢ 44 ∷ r)
    → ((r : List ℕ) → text ≢ 34 ∷ r) → ((r : List ℕ) → text ≢ codes "r#" ++ r) → (0 < length text → is_word_start (get_or text 0 0) ≡ false)
    → (t : CargoToken) (x : List ℕ) → IsFront text t x → ⊥
other-no-front text eq op cl co qu pr wo (Plain t) x f = no-plain text eq op cl co (λ v r. qu (v ++ 34 ∷ r)) wo t x f.shared
other-no-front text eq op cl co qu pr wo (Raw w) x f = pr (w ++ x) f.whole

spaces-no-front : (text : List ℕ) (t : CargoToken) (x : List ℕ) → IsSpaces text → IsFront text t x → ⊥
spaces-no-front [] t x s f = empty-no-front t x f
spaces-no-front (b ∷ text) t x s f = space-no-front text t x (subst (λ (k : ℕ). IsFront (k ∷ text) t x) s.0 f)

-- ---- spaces before a token

begins-cut : (space front r : List ℕ) (t : CargoToken) (x : List ℕ) → IsSpaces space → 32 ∷ r ≡ space ++ front → IsFront front t x → TokenFirst r t x
begins-cut [] front r t x s e f = absurd (space-no-front r t x (subst (λ (z : List ℕ). IsFront z t x) (sym e) f))
begins-cut (b ∷ space) front r t x s e f = record { space = space; front = front; spaces = s.1; whole = tail-same 32 b r (space ++ front) e; first = f }

-- what a text spells after a space
pub spells-cut : (r : List ℕ) (ts : List CargoToken) → SpellsTokens (32 ∷ r) ts → SpellsTokens r ts
spells-cut r [] h = h.1
spells-cut r (t ∷ ts) h = (h.0, begins-cut h.1.space h.1.front r t h.0 h.1.spaces h.1.whole h.1.first, h.2)

pub spells-more : (r : List ℕ) (ts : List CargoToken) → SpellsTokens r ts → SpellsTokens (32 ∷ r) ts
spells-more r [] h = (refl, h)
spells-more r (t ∷ ts) h = (
  h.0,
  record {
    space = 32 ∷ h.1.space;
    front = h.1.front;
    spaces = (refl, h.1.spaces);
    whole = ap (λ (z : List ℕ). 32 ∷ z) h.1.whole;
    first = h.1.first;
  },
  h.2,
)

-- a text that begins with no space begins with the token
begins-at : (space front text : List ℕ) (t : CargoToken) (x : List ℕ) → ((r : List ℕ) → text ≢ 32 ∷ r) → IsSpaces space → text ≡ space ++ front → IsFront front t x → IsFront text t x
begins-at [] front text t x lacks s e f = subst (λ (z : List ℕ). IsFront z t x) (sym e) f
begins-at (b ∷ space) front text t x lacks s e f = absurd (lacks (space ++ front) (e ∙ ap (λ (k : ℕ). k ∷ (space ++ front)) s.0))

front-no-space : (text : List ℕ) (t : CargoToken) (x : List ℕ) → IsFront text t x → (r : List ℕ) → text ≢ 32 ∷ r
front-no-space text t x f r e = space-no-front r t x (subst (λ (z : List ℕ). IsFront z t x) e f)

-- the tokens of a text with a token at its front
pub spells-front : (text : List ℕ) (t : CargoToken) (rest : List ℕ) (ts : List CargoToken) → IsFront text t rest → SpellsTokens text ts
    → (us : List CargoToken) × (ts ≡ t ∷ us) × SpellsTokens rest us
spells-front text t rest [] f h = absurd (spaces-no-front text t rest h f)
spells-front text t rest (u ∷ us) f h =
    let g = begins-at h.1.space h.1.front text u h.0 (front-no-space text t rest f) h.1.spaces h.1.whole h.1.first in
    let same = front-same text u t h.0 rest g f in
    (us, ap (λ (z : CargoToken). z ∷ us) same.0, subst (λ (z : List ℕ). SpellsTokens z us) same.1 h.2)

pub front-spells : (text : List ℕ) (t : CargoToken) (rest : List ℕ) (us : List CargoToken) → IsFront text t rest → SpellsTokens rest us → SpellsTokens text (t ∷ us)
front-spells text t rest us f h = (rest, record { space = []; front = text; spaces = tt; whole = refl; first = f }, h)

-- a text that isn't empty and begins with neither a space nor a token has no tokens
pub spells-stuck : (text : List ℕ) (ts : List CargoToken) → 0 < length text → ((r : List ℕ) → text ≢ 32 ∷ r) → ((t : CargoToken) (x : List ℕ) → IsFront text t x → ⊥) → SpellsTokens text ts → ⊥
spells-stuck [] [] some lacks none h = absurd (omega arith)
spells-stuck (b ∷ text) [] some lacks none h = lacks text (ap (λ (k : ℕ). k ∷ text) h.0)
spells-stuck text (t ∷ ts) some lacks none h = none t h.0 (begins-at h.1.space h.1.front text t h.0 lacks h.1.spaces h.1.whole h.1.first)

nothing-begins : (space front : List ℕ) (t : CargoToken) (x : List ℕ) → [] ≡ space ++ front → IsFront front t x → ⊥
nothing-begins [] front t x e f = empty-no-front t x (subst (λ (z : List ℕ). IsFront z t x) (sym e) f)
nothing-begins (b ∷ space) front t x e f = cc e

-- the empty text has no tokens but the empty list
pub spells-nothing : (ts : List CargoToken) → SpellsTokens [] ts → ts ≡ []
spells-nothing [] h = refl
spells-nothing (t ∷ ts) h = absurd (nothing-begins h.1.space h.1.front t h.0 h.1.whole h.1.first)
