-- What a look shows at the keys of tokens.
use Rattle.std.proofs.Common.{◌≡◌, ℕ, Bool, true, false, List, [], ◌∷◌, ◌++◌, Option, Some, None, BTreeMap, String, Global, refl, sym, ap, ◌∙◌, subst, true≢false, bytes_eq}
use Rattle.std.specs.Prelude.{codes, if◌then◌else◌}
use Rattle.std.proofs.lemmas.Slice.Eq.{bytes_eq-Decides}
use Rattle.std.specs.BTreeMap.{get_by_text}
use Rattle.cc2_value.specs.Cells.{Key, field, name, KeyPath, Cell, Single, Text, Items, Joined, Entry, Undecoded, Marks}
use Rattle.cc2_value.specs.Rows.{part_at, keys_of_fields, looks_of_fields}
use Rattle.cc2_value.specs.Shown.{Field, field_at, option_at, map_at, table_at}
use Rattle.cc2_value.specs.Visits.{Look}
use Rattle.cc2_json.specs.Reader.{is_token}
use Rattle.cc2_json.proofs.Trees.{same_part}

-- nothing is below it
pub record IsFlat (look : Look) : Type 0 where
  pub flat : (l : Key) (r : KeyPath) → look (l ∷ r) ≡ None

abbrev pub is_array : Option Cell → Bool
is_array None = false
is_array (Some (Single s)) = false
is_array (Some (Text ws)) = false
is_array (Some (Items ws)) = true
is_array (Some (Joined ss)) = true
is_array (Some Entry) = false
is_array (Some Undecoded) = false
is_array (Some (Marks flags doc_flags)) = false

-- one value, which is no array
pub record IsSingle (look : Look) : Type 0 where
  pub flat : (l : Key) (r : KeyPath) → look (l ∷ r) ≡ None
  pub no_array : is_array (look []) ≡ false

-- a token isn't an array
abbrev pub TokensAreNoArrays : Look → Type 0
TokensAreNoArrays look = (p : KeyPath) (k : Key) → is_token k ≡ true → is_array (look (p ++ k ∷ [])) ≡ false

module _ (Good : Look → Type 0) (empty : (look : Look) → ((r : KeyPath) → look r ≡ None) → Good look) where
  -- what is shown at each token is good
  abbrev pub GoodTokens : Look → Type 0
  GoodTokens look = (p : KeyPath) (k : Key) → is_token k ≡ true → Good (λ r. look (p ++ k ∷ r))

  -- so it is below the key, and at the key where it is that of a token
  pub record Suits (k : List ℕ) (look : Look) : Type 0 where
    pub below : GoodTokens look
    pub here : bytes_eq k (codes "token") ≡ true → Good look

  pub flat_tokens : (look : Look) → IsFlat look → GoodTokens look
  flat_tokens look h [] k is = empty (λ r. look (k ∷ r)) (λ r. h.flat k r)
  flat_tokens look h (m ∷ p) k is = empty (λ r. look (m ∷ p ++ k ∷ r)) (λ r. h.flat m (p ++ k ∷ r))

  -- a value
  pub value_suits : {k : List ℕ} {look : Look} → IsFlat look → Good look → Suits k look
  value_suits {look = look} flat good = record { below = flat_tokens look flat; here = λ is. good }

  -- a value or a table at a key that isn't that of a token
  pub other_suits : {k : List ℕ} {look : Look} → bytes_eq k (codes "token") ≡ false → GoodTokens look → Suits k look
  other_suits other below = record { below = below; here = λ is. absurd (true≢false (sym is ∙ other)) }

  abbrev pub AllSuit : List (List ℕ) → List Look → Type 0
  AllSuit [] ls = Unit {0}
  AllSuit (k ∷ ks) [] = Unit {0}
  AllSuit (k ∷ ks) (l ∷ ls) = Suits k l × AllSuit ks ls

  pub part_below : (ks : List (List ℕ)) (ls : List Look) → AllSuit ks ls → (q : List ℕ) (p : KeyPath) (k : Key) → is_token k ≡ true
      → Good (λ r. part_at ks ls q (p ++ k ∷ r))
  part_below [] ls h q p k is = empty _ (λ r. refl)
  part_below (j ∷ ks) [] h q p k is = empty _ (λ r. refl)
  part_below (j ∷ ks) (m ∷ ls) h q p k is = go (bytes_eq j q) (part_below ks ls h.1 q p k is)
    where
      go : (b : Bool) → Good (λ r. part_at ks ls q (p ++ k ∷ r)) → Good (λ r. if b then m (p ++ k ∷ r) else part_at ks ls q (p ++ k ∷ r))
      go true rest = h.0.below p k is
      go false rest = rest

  pub part_here : (ks : List (List ℕ)) (ls : List Look) → AllSuit ks ls → (q : List ℕ) → bytes_eq q (codes "token") ≡ true → Good (λ r. part_at ks ls q r)
  part_here [] ls h q is = empty _ (λ r. refl)
  part_here (j ∷ ks) [] h q is = empty _ (λ r. refl)
  part_here (j ∷ ks) (m ∷ ls) h q is = go (bytes_eq j q) refl (part_here ks ls h.1 q is)
    where
      go : (b : Bool) → bytes_eq j q ≡ b → Good (λ r. part_at ks ls q r) → Good (λ r. if b then m r else part_at ks ls q r)
      go true same rest = h.0.here (ap (λ t. bytes_eq t (codes "token")) ((bytes_eq-Decides j q).0 same) ∙ is)
      go false same rest = rest

  -- the fields of a table
  abbrev pub FieldsSuit : {A : Type 0} → List (Field A) → A → Type 0
  FieldsSuit fs a = AllSuit (keys_of_fields fs) (looks_of_fields fs a)

  parts : {A : Type 0} (fs : List (Field A)) (a : A) (q : List ℕ) → part_at (keys_of_fields fs) (looks_of_fields fs a) q ≡ field_at fs a q
  parts fs a q = λ i p. sym (same_part fs a q p) i

  pub field_below : {A : Type 0} (fs : List (Field A)) (a : A) → FieldsSuit fs a → (q : List ℕ) (p : KeyPath) (k : Key) → is_token k ≡ true
      → Good (λ r. field_at fs a q (p ++ k ∷ r))
  field_below fs a h q p k is =
      subst (λ look. Good (λ r. look (p ++ k ∷ r))) (parts fs a q) (part_below (keys_of_fields fs) (looks_of_fields fs a) h q p k is)

  pub field_here : {A : Type 0} (fs : List (Field A)) (a : A) → FieldsSuit fs a → (q : List ℕ) → bytes_eq q (codes "token") ≡ true → Good (λ r. field_at fs a q r)
  field_here fs a h q is = subst (λ look. Good (λ r. look r)) (parts fs a q) (part_here (keys_of_fields fs) (looks_of_fields fs a) h q is)

  -- a table of such fields
  pub table_tokens : {A : Type 0} (member : Bool) (fs : List (Field A)) (a : A) → FieldsSuit fs a → GoodTokens (table_at member fs a)
  table_tokens member fs a h [] (field q) is = field_here fs a h q is
  table_tokens member fs a h [] (name q) is = absurd (true≢false (sym is))
  table_tokens member fs a h (field q ∷ p) k is = field_below fs a h q p k is
  table_tokens member fs a h (name q ∷ p) k is = empty _ (λ r. refl)

  option_tokens : {A : Type 0} (look : A → Look) → ((a : A) → GoodTokens (look a)) → (o : Option A) (p : KeyPath) (k : Key) → is_token k ≡ true
      → Good (λ r. option_at look o (p ++ k ∷ r))
  option_tokens look h None p k is = empty _ (λ r. refl)
  option_tokens look h (Some a) p k is = h a p k is

  -- a map of such values
  pub map_tokens : {V : Type 0} (look : V → Look) → ((v : V) → GoodTokens (look v)) → (m : BTreeMap (String Global) V) → GoodTokens (map_at look m)
  map_tokens look h m [] (field q) is = empty _ (λ r. refl)
  map_tokens look h m [] (name q) is = absurd (true≢false (sym is))
  map_tokens look h m (field q ∷ p) k is = empty _ (λ r. refl)
  map_tokens look h m (name q ∷ p) k is = option_tokens look h (get_by_text m q) p k is

-- nothing is flat, and one value that is no array
pub empty_flat : (look : Look) → ((r : KeyPath) → look r ≡ None) → IsFlat look
empty_flat look h = record { flat = λ l r. h (l ∷ r) }

pub empty_single : (look : Look) → ((r : KeyPath) → look r ≡ None) → IsSingle look
empty_single look h = record { flat = λ l r. h (l ∷ r); no_array = ap is_array (h []) }

pub single_flat : {look : Look} → IsSingle look → IsFlat look
single_flat h = record { flat = h.flat }
