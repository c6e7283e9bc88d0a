-- Flags in one text, and what is read back from it.
use Rattle.std.proofs.Common.{◌≡◌, ℕ, ◌+◌, ◌<◌, zero, suc, List, [], ◌∷◌, ◌++◌, length, get_or, take, map, filter, cond, eqb, Bool, true, false, Result}
use Rattle.std.proofs.Common.{Ok, Err, IfOk, String, Global, string_bytes, refl, sym, ap, ◌∙◌, ne_eqb, eq-eqb, arith, append_assoc}
use Rattle.std.specs.List.{slice_split, onto_first, join_with_byte}
use Rattle.std.specs.Str.{trim, trim_start, trim_end, chars}
use Rattle.std.proofs.lemmas.Bool.{or_parts, or_left, or_right}
use Rattle.std.proofs.lemmas.List.{take_more, map-append}
use Rattle.std.proofs.lemmas.List.Splits.{join_with_byte-slice_split}
use Rattle.cc2_error.specs.Causes.{Refusal, plain, separator_cause}
use Rattle.cc2_error.specs.Outcomes.{Gives}
use Rattle.cc2_error.specs.declared.error.Error.{Error}
use Rattle.cc2_error.specs.declared.error.Separator.{Separator}
use Rattle.cc2_error.specs.declared.error.Separator.TheVariants as between
use Rattle.cc2_leaf.specs.Pieces.{encoded, spaced, has_bytes}
use Rattle.cc2_resolved.specs.Texts.{holds, any_holds, texts_of}
use Rattle.cc2_resolved.specs.Encodings.{separator_byte, without_leading_empty, encoding, with_flag, encoded_with}

-- one text more
pub texts_more : (texts : List (String Global)) (i : ℕ) (text : String Global) → i < length texts → text ≡ get_or texts i text
    → texts_of (take (i + 1) texts) ≡ texts_of (take i texts) ++ string_bytes text ∷ []
texts_more texts i text l is =
    ap texts_of (take_more texts i text l)
    ∙ map-append string_bytes (take i texts) (get_or texts i text ∷ [])
    ∙ ap (λ t. texts_of (take i texts) ++ string_bytes t ∷ []) (sym is)

-- where a text holds the byte, one of the list does
pub any_holds_at : (byte : ℕ) (texts : List (String Global)) (i : ℕ) (text : String Global) → i < length texts → text ≡ get_or texts i text
    → holds byte (string_bytes text) ≡ true → any_holds byte (texts_of texts) ≡ true
any_holds_at byte [] i text l is h = absurd (omega arith)
any_holds_at byte (t ∷ texts) zero text l is h = or_left _ _ (ap (λ s. holds byte (string_bytes s)) (sym is) ∙ h)
any_holds_at byte (t ∷ texts) (suc i) text l is h = or_right _ _ (any_holds_at byte texts i text (omega arith) is h)

join_behind : (c : ℕ) (x y : List ℕ) (ys : List (List ℕ)) → join_with_byte c ((y ∷ ys) ++ x ∷ []) ≡ join_with_byte c (y ∷ ys) ++ c ∷ x
join_behind c x y [] = refl
join_behind c x y (z ∷ zs) = ap (λ t. y ++ (c ∷ t)) (join_behind c x z zs) ∙ sym (append_assoc y (c ∷ join_with_byte c (z ∷ zs)) (c ∷ x))

join_some : (c b : ℕ) (t : List ℕ) (texts : List (List ℕ)) → eqb (length (join_with_byte c ((b ∷ t) ∷ texts))) 0 ≡ false
join_some c b t [] = ne_eqb _ 0 (λ z. omega arith)
join_some c b t (x ∷ texts) = ne_eqb _ 0 (λ z. omega arith)

-- one flag more follows the others
pub encoding-push : (c : ℕ) (flags : List (List ℕ)) (flag : List ℕ) → encoding c (flags ++ flag ∷ []) ≡ with_flag c (encoding c flags) flag
encoding-push c [] [] = refl
encoding-push c [] (b ∷ t) = refl
encoding-push c ([] ∷ flags) flag = encoding-push c flags flag
encoding-push c ((b ∷ t) ∷ flags) flag =
    let front = join_with_byte c ((b ∷ t) ∷ flags) in
    join_behind c flag (b ∷ t) flags ∙ ap (λ (none : Bool). cond none flag (front ++ c ∷ flag)) (sym (join_some c b t flags))

-- a text that doesn't hold the byte is one piece
piece_alone : (c : ℕ) (x : List ℕ) → holds c x ≡ false → slice_split (λ b. eqb b c) x ≡ x ∷ []
piece_alone c [] h = refl
piece_alone c (b ∷ x) h =
    let parts = or_parts (eqb b c) (holds c x) h in
    ap (λ (t : Bool). cond t ([] ∷ slice_split (λ d. eqb d c) x) (onto_first b (slice_split (λ d. eqb d c) x))) parts.0 ∙ ap (onto_first b) (piece_alone c x parts.1)

piece_before : (c : ℕ) (x ys : List ℕ) → holds c x ≡ false → slice_split (λ b. eqb b c) (x ++ c ∷ ys) ≡ x ∷ slice_split (λ b. eqb b c) ys
piece_before c [] ys h = ap (λ (t : Bool). cond t ([] ∷ slice_split (λ d. eqb d c) ys) (onto_first c (slice_split (λ d. eqb d c) ys))) (eq-eqb c c refl)
piece_before c (b ∷ x) ys h =
    let parts = or_parts (eqb b c) (holds c x) h in
    let rest = x ++ c ∷ ys in
    ap (λ (t : Bool). cond t ([] ∷ slice_split (λ d. eqb d c) rest) (onto_first b (slice_split (λ d. eqb d c) rest))) parts.0
    ∙ ap (onto_first b) (piece_before c x ys parts.1)

-- texts that don't hold the byte are what is between it
split_joined : (c : ℕ) (x : List ℕ) (xs : List (List ℕ)) → any_holds c (x ∷ xs) ≡ false → slice_split (λ b. eqb b c) (join_with_byte c (x ∷ xs)) ≡ x ∷ xs
split_joined c x [] h = piece_alone c x (or_parts (holds c x) false h).0
split_joined c x (y ∷ ys) h =
    let parts = or_parts (holds c x) (any_holds c (y ∷ ys)) h in
    piece_before c x (join_with_byte c (y ∷ ys)) parts.0 ∙ ap (λ texts. x ∷ texts) (split_joined c y ys parts.1)

encoded_joined : (b : ℕ) (t : List ℕ) (flags : List (List ℕ)) → encoded (join_with_byte 31 ((b ∷ t) ∷ flags)) ≡ slice_split (λ d. eqb d 31) (join_with_byte 31 ((b ∷ t) ∷ flags))
encoded_joined b t [] = refl
encoded_joined b t (x ∷ flags) = refl

encoded-encoding : (flags : List (List ℕ)) → any_holds 31 flags ≡ false → encoded (encoding 31 flags) ≡ without_leading_empty flags
encoded-encoding [] h = refl
encoded-encoding ([] ∷ flags) h = encoded-encoding flags h
encoded-encoding ((b ∷ t) ∷ flags) h = encoded_joined b t flags ∙ split_joined 31 (b ∷ t) flags h

-- the flags of a text, with the separator between them, are the text
pub pieces_joined_back : (text : List ℕ) → join_with_byte 31 (encoded text) ≡ text
pieces_joined_back [] = refl
pieces_joined_back (b ∷ text) = join_with_byte-slice_split 31 (b ∷ text)

trim-nil : trim [] ≡ []
unfolding trim_start trim_end chars
trim-nil = refl

-- the texts, each trimmed, without the empty ones
abbrev trimmed : List (List ℕ) → List (List ℕ)
trimmed texts = filter has_bytes (map trim texts)

spaced-encoding : (flags : List (List ℕ)) → any_holds 32 flags ≡ false → spaced (encoding 32 flags) ≡ trimmed flags
spaced-encoding [] h = ap (λ t. filter has_bytes (t ∷ [])) trim-nil
spaced-encoding ([] ∷ flags) h = spaced-encoding flags h ∙ sym (ap (λ t. filter has_bytes (t ∷ map trim flags)) trim-nil)
spaced-encoding ((b ∷ t) ∷ flags) h = ap trimmed (split_joined 32 (b ∷ t) flags h)

-- what is encoded holds no separator but those between the flags
is_encoding : (s : Separator) (flags : List (List ℕ)) (text : List ℕ) → encoded_with s flags ≡ Ok text
    → (any_holds (separator_byte s) flags ≡ false) × (text ≡ encoding (separator_byte s) flags)
is_encoding s flags text is = by (any_holds (separator_byte s) flags) refl
  where
    stated : Bool → Result (List ℕ) Refusal
    stated t = cond t (Err (plain (separator_cause s))) (Ok (encoding (separator_byte s) flags))

    by : (t : Bool) → any_holds (separator_byte s) flags ≡ t → (any_holds (separator_byte s) flags ≡ false) × (text ≡ encoding (separator_byte s) flags)
    by true e = let no : Err (plain (separator_cause s)) ≡ Ok text = ap stated (sym e) ∙ is in absurd (cc)
    by false e = let same : Ok (encoding (separator_byte s) flags) ≡ Ok text = ap stated (sym e) ∙ is in (e, cc)

pub encoded_read_back : (flags : List (List ℕ)) (r : Result (String Global) Error) → Gives string_bytes r (encoded_with between.Unit flags)
    → IfOk r (λ text. encoded (string_bytes text) ≡ without_leading_empty flags)
encoded_read_back flags (Err e) h = tt
encoded_read_back flags (Ok text) h = let parts = is_encoding between.Unit flags (string_bytes text) h in ap encoded parts.1 ∙ encoded-encoding flags parts.0

pub spaced_read_back : (flags : List (List ℕ)) (r : Result (String Global) Error) → Gives string_bytes r (encoded_with between.Space flags)
    → IfOk r (λ text. spaced (string_bytes text) ≡ filter has_bytes (map trim flags))
spaced_read_back flags (Err e) h = tt
spaced_read_back flags (Ok text) h = let parts = is_encoding between.Space flags (string_bytes text) h in ap spaced parts.1 ∙ spaced-encoding flags parts.0
