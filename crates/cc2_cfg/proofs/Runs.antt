-- A run of the lexer, step by step.
use Rattle.std.proofs.Common.{◌≡◌, ℕ, ◌+◌, ◌-◌, ◌<◌, ◌≤◌, List, [], ◌∷◌, ◌++◌, length, take, drop, refl, sym, ap, ◌∙◌, arith, subst, append_assoc, append-nil, length-append, length-drop}
use Rattle.std.specs.Prelude.{Result, Ok, Err, Bool, true, false, slice_range}
use Rattle.std.specs.Iterator.{Yields}
use Rattle.std.specs.Str.{IsCharBoundary}
use Rattle.std.proofs.lemmas.List.{take_at, take-append-drop, length-take-le}
use Rattle.cc2_cfg.specs.Tokens.{Lexeme, Word, Quoted, Fun, Equals, Open, Close, Comma, spelling, IsBlank, NoWordByteFirst, EndsBefore, Begins, Spells}
use Rattle.cc2_cfg.specs.Lexing.{lexeme_of}
use Rattle.cc2_cfg.specs.Steps.{lexer_gives, GivesToken, GivesFault, GivesEnd}
use Rattle.cc2_cfg.specs.Runs.{StandsAt, FaultsAt, IsLexed, IsTheListOf, GivesFronts, GivesWhole}
use Rattle.cc2_cfg.specs.declared.lexer.Lexer.{Lexer}
use Rattle.cc2_cfg.specs.declared.lexer.LexerToken.{LexerToken}
use Rattle.cc2_error.specs.declared.cfg_error.LexFault.{LexFault}
use Rattle.cc2_cfg.proofs.Accepting.{begins-same, begins-not-blank, spelling-some, spells-unique}

-- these tokens begin the text, and rest follows them
abbrev pub Reads : List ℕ → List Lexeme → List ℕ → Type 0
Reads text [] rest = text ≡ rest
Reads text (t ∷ ts) rest = (next : List ℕ) × Begins text t next × Reads next ts rest

pub reads-snoc : (text rest next : List ℕ) (ts : List Lexeme) (t : Lexeme) → Reads text ts rest → Begins rest t next → Reads text (ts ++ t ∷ []) next
reads-snoc text rest next [] t r b = (next, subst (λ (z : List ℕ). Begins z t next) (sym r) b, refl)
reads-snoc text rest next (u ∷ ts) t r b = (r.0, r.1, reads-snoc r.0 rest next ts t r.2 b)

-- with the tokens of the rest
pub reads-spells : (text rest : List ℕ) (ts us : List Lexeme) → Reads text ts rest → Spells rest us → Spells text (ts ++ us)
reads-spells text rest [] us r s = subst (λ (z : List ℕ). Spells z us) (sym r) s
reads-spells text rest (t ∷ ts) us r s = (r.0, r.1, reads-spells r.0 rest ts us r.2 s)

-- the tokens of the text begin with those
pub reads-split : (text rest : List ℕ) (ts all : List Lexeme) → Reads text ts rest → Spells text all → (us : List Lexeme) × Spells rest us
reads-split text rest [] all r s = (all, subst (λ (z : List ℕ). Spells z all) r s)
reads-split text rest (t ∷ ts) [] r s = absurd (begins-not-blank text t r.0 r.1 s)
reads-split text rest (t ∷ ts) (u ∷ all) r s =
    let same = begins-same text u t s.0 r.0 s.1 r.1 in
    reads-split r.0 rest ts all r.2 (subst (λ (z : List ℕ). Spells z all) same.1 s.2)

cut-word : (a b : List ℕ) → NoWordByteFirst (a ++ b) → NoWordByteFirst a
cut-word [] b h = tt
cut-word (x ∷ a) b h = h

cut-ends : (t : Lexeme) (a b : List ℕ) → EndsBefore t (a ++ b) → EndsBefore t a
cut-ends (Word w) a b h = cut-word a b h
cut-ends (Fun f) a b h = cut-word a b h
cut-ends (Quoted v) a b h = tt
cut-ends Equals a b h = tt
cut-ends Open a b h = tt
cut-ends Close a b h = tt
cut-ends Comma a b h = tt

-- what precedes the rest and some white space spells those tokens
pub reads-front : (text rest space tail : List ℕ) (ts : List Lexeme) → Reads text ts rest → rest ≡ space ++ tail → IsBlank space → (front : List ℕ) × (text ≡ front ++ tail) × Spells front ts
reads-front text rest space tail [] r e blank = (space, r ∙ e, blank)
reads-front text rest space tail (t ∷ ts) r e blank =
    let b = r.1 in
    let inner = reads-front r.0 rest space tail ts r.2 e blank in
    let ends = cut-ends t inner.0 tail (subst (λ (z : List ℕ). EndsBefore t z) inner.1 b.ends) in (
      b.space ++ (spelling t ++ inner.0),
      b.whole ∙ ap (λ (z : List ℕ). b.space ++ (spelling t ++ z)) inner.1 ∙ ap (λ (z : List ℕ). b.space ++ z) (sym (append_assoc (spelling t) inner.0 tail))
          ∙ sym (append_assoc b.space (spelling t ++ inner.0) tail),
      (inner.0, record { space = b.space; blank = b.blank; valid = b.valid; ends = ends; whole = refl }, inner.2),
    )

-- the front of a text, by the length of what follows
front-take : (text front : List ℕ) (n : ℕ) → text ≡ front ++ drop n text → n ≤ length text → front ≡ take n text
front-take text front n e le =
    let whole = take-append-drop n text in
    let size : length front ≡ n = omega (arith, ap length e, length-append front (drop n text), ap length whole, length-append (take n text) (drop n text), length-take-le n text le) in
    sym (ap (λ (z : List ℕ). take n z) e ∙ take_at front (drop n text) n size)

-- these tokens were given, the last up to the place at, and the lexer goes on
pub record GoesOn (text : List ℕ) (given : List Lexeme) (at : ℕ) (s : Lexer) : Type 0 where
  pub running : s.ended ≡ false
  pub original : s.original.now ≡ text
  pub reads : Reads text given s.rest.now
  pub place : at + length s.rest.now ≡ length text

begins-length : (text rest : List ℕ) (t : Lexeme) → Begins text t rest → (length (spelling t) + length rest ≤ length text) × (0 < length (spelling t))
begins-length text rest t b =
    let some = spelling-some t [] b.valid in
    let size : length (spelling t ++ []) ≡ length (spelling t) = ap length (append-nil (spelling t)) in
    (omega (arith, ap length b.whole, length-append b.space (spelling t ++ rest), length-append (spelling t) rest), omega (arith, some, size))

token-stands : (text : List ℕ) (given : List Lexeme) (at : ℕ) (s t : Lexer) (x : LexerToken) → GoesOn text given at s → GivesToken s x t → StandsAt text at x
token-stands text given at s t x on gives =
    let size = begins-length s.rest.now t.rest.now (lexeme_of x.token) gives.begins in
    let long : length s.original.now ≡ length text = ap length on.original in
    record {
      behind = omega (arith, size.0, size.1, gives.start, gives.end, on.place, long);
      ordered = omega (arith, size.1, gives.start);
      within = omega (arith, gives.end, long);
      slice = ap (λ (z : List ℕ). slice_range z x.span.start x.span.end) (sym on.original) ∙ gives.slice;
    }

token-on : (text : List ℕ) (given : List Lexeme) (at : ℕ) (s t : Lexer) (x : LexerToken) → GoesOn text given at s → GivesToken s x t
    → GoesOn text (given ++ lexeme_of x.token ∷ []) x.span.end t
token-on text given at s t x on gives = record {
  running = gives.running.1;
  original = gives.original ∙ on.original;
  reads = reads-snoc text s.rest.now t.rest.now given (lexeme_of x.token) on.reads gives.begins;
  place = gives.end ∙ ap length on.original;
}

fault-stands : (text : List ℕ) (given : List Lexeme) (at : ℕ) (s t : Lexer) (f : LexFault) → GoesOn text given at s → GivesFault s f t → FaultsAt text given at f
fault-stands text given at s t f on gives =
    let tail = drop f.span.start s.original.now in
    let long : length s.original.now ≡ length text = ap length on.original in
    let le : f.span.start ≤ length text = omega (arith, gives.ordered, gives.within, long) in
    let left : length tail ≡ length text - f.span.start = length-drop f.span.start s.original.now ∙ ap (λ (n : ℕ). n - f.span.start) long in
    let size : length s.rest.now ≡ length gives.space + length tail = ap length gives.before ∙ length-append gives.space tail in
    let front = reads-front text s.rest.now gives.space tail given on.reads gives.before gives.blank in
    let same = front-take text front.0 f.span.start (front.1 ∙ ap (λ (z : List ℕ). front.0 ++ drop f.span.start z) on.original) le in
    record {
      behind = omega (arith, left, size, on.place, le);
      ordered = gives.ordered;
      within = omega (arith, gives.within, long);
      first = subst (λ (z : List ℕ). IsCharBoundary z f.span.start) on.original gives.first;
      last = subst (λ (z : List ℕ). IsCharBoundary z f.span.end) on.original gives.last;
      stuck = λ tokens h. let q = reads-split text s.rest.now given tokens on.reads h in gives.stuck q.0 q.1;
      before = subst (λ (z : List ℕ). Spells z given) same front.2;
    }

both-ways : (b : Bool) → b ≡ true → b ≡ false → ⊥
both-ways b p q = cc (sym p ∙ q)

-- nothing follows a fault
fault-last : (s t : Lexer) (items : List (Result LexerToken LexFault)) → s.ended ≡ true → Yields lexer_gives s items t → items ≡ []
fault-last s t [] e y = refl
fault-last s t (Ok x ∷ items) e y = absurd (both-ways s.ended e y.1.running.0)
fault-last s t (Err f ∷ items) e y = absurd (both-ways s.ended e y.1.running)

lexed : (text : List ℕ) (Ended : List Lexeme → Type 0) (t : Lexer) → ((given : List Lexeme) (at : ℕ) → GoesOn text given at t → Ended given)
    → (given : List Lexeme) (at : ℕ) (s : Lexer) (items : List (Result LexerToken LexFault)) → GoesOn text given at s → Yields lexer_gives s items t → IsLexed text Ended given at items
lexed text Ended t end given at s [] on y = end given at (subst (λ (z : Lexer). GoesOn text given at z) y on)
lexed text Ended t end given at s (Ok x ∷ items) on y =
    (token-stands text given at s y.0 x on y.1, lexed text Ended t end (given ++ lexeme_of x.token ∷ []) x.span.end y.0 items (token-on text given at s y.0 x on y.1) y.2)
lexed text Ended t end given at s (Err f ∷ items) on y =
    (fault-stands text given at s y.0 f on y.1, fault-last y.0 t items y.1.ended y.2)

starts : (s : Lexer) → s.ended ≡ false → s.rest.now ≡ s.original.now → GoesOn s.original.now [] 0 s
starts s running whole = record { running = running; original = refl; reads = sym whole; place = omega (arith, ap length whole) }

pub gives-fronts : (s : Lexer) → s.ended ≡ false → s.rest.now ≡ s.original.now → GivesFronts s
gives-fronts s running whole = λ items later y. lexed s.original.now (λ given. Unit {0}) later (λ given at on. tt) [] 0 s items (starts s running whole) y

whole-end : (text : List ℕ) (t u : Lexer) → GivesEnd t u → (given : List Lexeme) (at : ℕ) → GoesOn text given at t → IsTheListOf text given
whole-end text t u gives given at on =
    let spelled = subst (λ (z : List Lexeme). Spells text z) (append-nil given) (reads-spells text t.rest.now given [] on.reads (gives.blank on.running)) in
    record { spelled = spelled; only = λ others h. spells-unique text others given h spelled }

pub gives-whole : (s : Lexer) → s.ended ≡ false → s.rest.now ≡ s.original.now → GivesWhole s
gives-whole s running whole = λ items later y. lexed s.original.now (λ given. IsTheListOf s.original.now given) y.0 (whole-end s.original.now y.0 later y.2) [] 0 s items (starts s running whole) y.1
