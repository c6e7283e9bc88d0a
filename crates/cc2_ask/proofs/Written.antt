-- What is appended piece by piece is read as the pieces.
use Rattle.std.proofs.Common.{arith, ◌≡◌, ◌≤◌, ℕ, zero, suc, List, [], ◌∷◌, ◌++◌, length, take, drop, append_assoc}
use Rattle.std.proofs.Common.{Option, Some, None, true, Bool, Result, Ok, Err, OnOk, refl, sym, ap, subst, ◌∙◌}
use Rattle.std.specs.Prelude.{option_map, option_and_then, nat_le, if◌then◌else◌}
use Rattle.std.specs.Str.{is_utf8}
use Rattle.std.proofs.lemmas.Nat.{from_le_bytes-to_le_bytes_4}
use Rattle.std.proofs.lemmas.Bool.{le-leb}
use Rattle.std.proofs.lemmas.List.{append-nil, length-append}
use Rattle.std.proofs.lemmas.Option.{none-some}
use Rattle.std.proofs.Math.Seq.{take-append_seam, drop-append_seam}
use Rattle.cc2_ask.specs.Fields.{Front, number_at, number_bytes, field_at, field_bytes, fields_bytes, list_bytes, text_at, where_text, bytes_at}
use Rattle.cc2_ask.specs.Fields.{IsSmall, AreShort, IsShortList}
use Rattle.cc2_ask.specs.Written.{byte_at, IsReadAs, IsAppended, AreReadAs, AreAppended, many_at, listed_at, both_at, made_at, judged_at}
use Rattle.cc2_ask.specs.Written.{all_within, all_at}

-- bytes that are read as a value are appended as they are
pub appended : {A : Type 0} (at : List ℕ → Front A) (a : A) (was now bytes : List ℕ) → now ≡ was ++ bytes → IsReadAs at bytes a
    → IsAppended at a was now
appended at a was now bytes is read = (bytes, is, read)

pub one_byte : (b : ℕ) → IsReadAs byte_at (b ∷ []) b
one_byte b rest = refl

module _ {A B : Type 0} where
  pub both_read : (first : List ℕ → Front A) (second : List ℕ → Front B) (xs ys : List ℕ) (a : A) (b : B)
      → IsReadAs first xs a → IsReadAs second ys b → IsReadAs (both_at first second) (xs ++ ys) (a, b)
  both_read first second xs ys a b is_first is_second rest =
      ap (both_at first second) (append_assoc xs ys rest)
      ∙ ap (λ (front : Front A). option_and_then (λ f. option_map (λ s. ((f.0, s.0), s.1)) (second f.1)) front) (is_first (ys ++ rest))
      ∙ ap (λ (front : Front B). option_map (λ s. ((a, s.0), s.1)) front) (is_second rest)

  pub both : (first : List ℕ → Front A) (second : List ℕ → Front B) (a : A) (b : B) (was mid now : List ℕ)
      → IsAppended first a was mid → IsAppended second b mid now → IsAppended (both_at first second) (a, b) was now
  both first second a b was mid now (xs, is_mid, is_first) (ys, is_now, is_second) =
      (xs ++ ys, is_now ∙ ap (λ m. m ++ ys) is_mid ∙ append_assoc was xs ys, both_read first second xs ys a b is_first is_second)

  pub made_read : (make : A → B) (at : List ℕ → Front A) (xs : List ℕ) (a : A) → IsReadAs at xs a → IsReadAs (made_at make at) xs (make a)
  made_read make at xs a read rest = ap (λ (front : Front A). option_map (λ f. (make f.0, f.1)) front) (read rest)

  pub made : (make : A → B) (at : List ℕ → Front A) (a : A) (was now : List ℕ) → IsAppended at a was now
      → IsAppended (made_at make at) (make a) was now
  made make at a was now (xs, is, read) = (xs, is, made_read make at xs a read)

  pub judged : (make : A → Option B) (at : List ℕ → Front A) (a : A) (b : B) (was now : List ℕ) → make a ≡ Some b
      → IsAppended at a was now → IsAppended (judged_at make at) b was now
  judged make at a b was now makes (xs, is, read) = (
    xs,
    is,
    λ rest. ap (λ (front : Front A). option_and_then (λ f. option_map (λ s. (s, f.1)) (make f.0)) front) (read rest)
        ∙ ap (λ (found : Option B). option_map (λ s. (s, rest)) found) makes,
  )

module _ {A : Type 0} (at : List ℕ → Front A) where
  one_behind : (all : List A) (a : A) (bytes own : List ℕ) → AreReadAs at all bytes → IsReadAs at own a
      → AreReadAs at (all ++ a ∷ []) (bytes ++ own)
  one_behind [] a bytes own none is =
      (own, [], ap (λ xs. xs ++ own) none ∙ sym (append-nil own), is, refl)
  one_behind (b ∷ all) a bytes own (xs, others, parts, is_first, are) is =
      (xs, others ++ own, ap (λ ys. ys ++ own) parts ∙ append_assoc xs others own, is_first, one_behind all a others own are is)

  pub none_yet : (was : List ℕ) → AreAppended at [] was was
  none_yet was = ([], sym (append-nil was), refl)

  pub one_more : (all : List A) (a : A) (was mid now : List ℕ) → AreAppended at all was mid → IsAppended at a mid now
      → AreAppended at (all ++ a ∷ []) was now
  one_more all a was mid now (bytes, is_mid, are) (own, is_now, is) =
      (bytes ++ own, is_now ∙ ap (λ m. m ++ own) is_mid ∙ append_assoc was bytes own, one_behind all a bytes own are is)

  -- a value, and then others
  pub one_first : (a : A) (all : List A) (was mid now : List ℕ) → IsAppended at a was mid → AreAppended at all mid now
      → AreAppended at (a ∷ all) was now
  one_first a all was mid now (own, is_mid, is) (bytes, is_now, are) =
      (own ++ bytes, is_now ∙ ap (λ m. m ++ bytes) is_mid ∙ append_assoc was own bytes, (own, bytes, refl, is, are))

  many_read : (all : List A) (bytes rest : List ℕ) → AreReadAs at all bytes → many_at at (length all) (bytes ++ rest) ≡ Some (all, rest)
  many_read [] bytes rest none = ap (λ xs. many_at at zero (xs ++ rest)) none
  many_read (a ∷ all) bytes rest (own, others, parts, is, are) =
      ap (λ xs. many_at at (suc (length all)) (xs ++ rest)) parts
      ∙ ap (many_at at (suc (length all))) (append_assoc own others rest)
      ∙ ap (λ (front : Front A). option_and_then (λ f. option_map (λ fs. (f.0 ∷ fs.0, fs.1)) (many_at at (length all) f.1)) front) (is (others ++ rest))
      ∙ ap (λ (front : Front (List A)). option_map (λ fs. (a ∷ fs.0, fs.1)) front) (many_read all others rest are)

  -- a number, and so many values after it
  pub listed_read : (all : List A) (xs ys : List ℕ) → IsReadAs number_at xs (length all) → AreReadAs at all ys
      → IsReadAs (listed_at at) (xs ++ ys) all
  listed_read all xs ys is_number are rest =
      ap (listed_at at) (append_assoc xs ys rest)
      ∙ ap (λ (front : Front ℕ). option_and_then (λ n. many_at at n.0 n.1) front) (is_number (ys ++ rest))
      ∙ many_read all ys rest are

  pub listed : (all : List A) (was mid now : List ℕ) → IsAppended number_at (length all) was mid → AreAppended at all mid now
      → IsAppended (listed_at at) all was now
  listed all was mid now (xs, is_mid, is_number) (ys, is_now, are) =
      (xs ++ ys, is_now ∙ ap (λ m. m ++ ys) is_mid ∙ append_assoc was xs ys, listed_read all xs ys is_number are)

  -- values with nothing after them, where nothing is read from no bytes
  within : at [] ≡ None → (n : ℕ) (all : List A) (bytes : List ℕ) → length bytes ≤ n → AreReadAs at all bytes
      → all_within at n bytes ≡ Some all
  within none n [] bytes enough is = ap (all_within at n) is
  within none n (a ∷ all) bytes enough ([], others, parts, is, are) = absurd (none-some (a, []) (sym none ∙ is []))
  within none zero (a ∷ all) bytes enough (b ∷ own, others, parts, is, are) = absurd (omega (arith, enough, ap length parts))
  within none (suc n) (a ∷ all) bytes enough (b ∷ own, others, parts, is, are) =
      let left : length others ≤ n = omega (arith, enough, ap length parts, length-append own others) in
      ap (all_within at (suc n)) parts
      ∙ ap (λ (front : Front A). option_and_then (λ f. option_map (λ fs. f.0 ∷ fs) (all_within at n f.1)) front) (is others)
      ∙ ap (λ (found : Option (List A)). option_map (λ fs. a ∷ fs) found) (within none n all others left are)

  pub all_read : at [] ≡ None → (all : List A) (bytes : List ℕ) → AreReadAs at all bytes → all_at at bytes ≡ Some all
  all_read none all bytes are = within none (length bytes) all bytes (omega arith) are

-- a number below 2 to the power of 32 is read from its bytes
pub number_back : (n : ℕ) → IsSmall n → IsReadAs number_at (number_bytes n) n
number_back n short rest = ap (λ m. Some (m, rest)) (from_le_bytes-to_le_bytes_4 n short)

fits : (xs rest : List ℕ) → nat_le (length xs) (length (xs ++ rest)) ≡ true
fits xs rest = le-leb (length xs) (length (xs ++ rest)) (omega (arith, length-append xs rest))

bytes_back : (xs rest : List ℕ) → bytes_at (length xs) (xs ++ rest) ≡ Some (xs, rest)
bytes_back xs rest =
    ap (λ (b : Bool). if b then Some (take (length xs) (xs ++ rest), drop (length xs) (xs ++ rest)) else None) (fits xs rest)
    ∙ ap (λ ys. Some (ys, drop (length xs) (xs ++ rest))) (take-append_seam xs rest)
    ∙ ap (λ ys. Some (xs, ys)) (drop-append_seam xs rest)

-- and so is a field
pub field_back : (xs : List ℕ) → IsSmall (length xs) → IsReadAs field_at (field_bytes xs) xs
field_back xs short rest =
    ap field_at (append_assoc (number_bytes (length xs)) xs rest)
    ∙ ap (λ (front : Front ℕ). option_and_then (λ n. bytes_at n.0 n.1) front) (number_back (length xs) short (xs ++ rest))
    ∙ bytes_back xs rest

-- fields, one after the other
pub fields_back : (fields : List (List ℕ)) → AreShort fields → AreReadAs field_at fields (fields_bytes fields)
fields_back [] short = refl
fields_back (field ∷ fields) short =
    (field_bytes field, fields_bytes fields, refl, field_back field short.0, fields_back fields short.1)

-- a list
pub list_back : (fields : List (List ℕ)) → IsShortList fields → IsReadAs (listed_at field_at) (list_bytes fields) fields
list_back fields short =
    listed_read field_at fields (number_bytes (length fields)) (fields_bytes fields) (number_back (length fields) short.0)
    (fields_back fields short.1)

-- and a field that is UTF-8, as a text
pub text_back : (xs : List ℕ) → IsSmall (length xs) → is_utf8 xs ≡ true → IsReadAs text_at (field_bytes xs) xs
text_back xs short text rest =
    ap (λ (front : Front (List ℕ)). option_and_then where_text front) (field_back xs short rest)
    ∙ ap (λ (b : Bool). if b then Some (xs, rest) else None) text

-- a text was appended, where its field was
pub text_appended : {E : Type 0} (r : Result (Unit {0}) E) (text bytes was now : List ℕ) → bytes ≡ text → is_utf8 text ≡ true
    → OnOk r (now ≡ was ++ field_bytes bytes) → OnOk r (IsSmall (length bytes)) → OnOk r (IsAppended text_at text was now)
text_appended (Ok done) text bytes was now same utf8 is short = (
  field_bytes text,
  is ∙ ap (λ (xs : List ℕ). was ++ field_bytes xs) same,
  text_back text (subst (λ (xs : List ℕ). IsSmall (length xs)) same short) utf8,
)
text_appended (Err e) text bytes was now same utf8 is short = tt

-- values after those that were taken
abbrev pub after : {A : Type 0} → List A → Front (List A) → Front (List A)
after taken front = option_map (λ found. (taken ++ found.0, found.1)) front

module _ {A : Type 0} (at : List ℕ → Front A) where
  abbrev with_many : ℕ → A × List ℕ → Front (List A)
  with_many n a = option_map (λ found. (a.0 ∷ found.0, found.1)) (many_at at n a.1)

  one_taken : (taken : List A) (a : A) (front : Front (List A))
      → after (taken ++ a ∷ []) front ≡ after taken (option_map (λ found. (a ∷ found.0, found.1)) front)
  one_taken taken a None = refl
  one_taken taken a (Some found) = ap (λ all. Some (all, found.1)) (append_assoc taken (a ∷ []) found.0)

  -- one value more was taken
  pub taken_one : (n : ℕ) (taken : List A) (bytes rest : List ℕ) (a : A) → at bytes ≡ Some (a, rest)
      → after (taken ++ a ∷ []) (many_at at n rest) ≡ after taken (many_at at (suc n) bytes)
  taken_one n taken bytes rest a is =
      one_taken taken a (many_at at n rest) ∙ ap (λ front. after taken (option_and_then (with_many n) front)) (sym is)

  -- there is none to take
  pub none_taken : (n : ℕ) (taken : List A) (bytes : List ℕ) → at bytes ≡ None → after taken (many_at at (suc n) bytes) ≡ None
  none_taken n taken bytes is = ap (λ front. after taken (option_and_then (with_many n) front)) is
