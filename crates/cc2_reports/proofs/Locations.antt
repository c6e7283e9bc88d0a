-- The location after a byte is that of the next offset.
use Rattle.std.proofs.Common.{◌≡◌, ◌∙◌, refl, sym, ap, ℕ, suc, ◌+◌, ◌-◌, ◌^◌, ◌<◌, ◌≤◌, Bool, true, false, not, List, [], ◌∷◌, ◌++◌, length, length-drop, take, drop, reverse, get_or, arith, cond, if◌then◌else◌, count_by}
use Rattle.std.proofs.Math.Seq.{take-suc}
use Rattle.std.proofs.lemmas.List.{get_or-drop, length-take, reverse-append, take-take}
use Rattle.std.proofs.lemmas.List.Sums.{sum_by-append, sum_by-cons}
use Rattle.std.specs.List.{prefix_len}
use Rattle.cc2_reports.specs.Locations.{bytes_before, characters, counted, is_first, is_line_feed, IsLocation, line_feeds, mark_of}
use Rattle.cc2_reports.specs.Scanning.{behind}
use Rattle.cc2_reports.specs.declared.location.Location.{Location}

-- one more byte
pub before_more : (text : List ℕ) (o : ℕ) → length (mark_of text) ≤ o → o < length text → bytes_before text (suc o) ≡ bytes_before text o ++ get_or text o 0 ∷ []
before_more text o h less =
    let m = length (mark_of text) in
    let e : suc o - m ≡ suc (o - m) = omega arith in
    let within : o - m < length (drop m text) = omega (arith, length-drop m text) in
    let at : get_or (drop m text) (o - m) 0 ≡ get_or text o 0 = get_or-drop m text (o - m) 0 ∙ ap (λ i. get_or text i 0) (omega arith) in
    ap (λ k. take k (drop m text)) e ∙ take-suc (drop m text) (o - m) 0 within ∙ ap (λ b. take (o - m) (drop m text) ++ b ∷ []) at

pub line_feeds_more : (bytes : List ℕ) (byte : ℕ) → line_feeds (bytes ++ byte ∷ []) ≡ line_feeds bytes + cond (is_line_feed byte) 1 0
line_feeds_more bytes byte = omega (arith, sum_by-append (λ b. cond (is_line_feed b) 1 0) bytes (byte ∷ []))

one_more : (n : ℕ) → 1 + n ≡ suc n
one_more n = omega arith

taken : (is_feed : Bool) (byte n : ℕ) (bytes : List ℕ) → count_by is_first (take (cond (not is_feed) (1 + n) 0) (byte ∷ bytes)) ≡ if is_feed then 0 else count_by is_first (take n bytes) + cond (is_first byte) 1 0
taken true byte n bytes = refl
taken false byte n bytes =
    ap (λ k. count_by is_first (take k (byte ∷ bytes))) (one_more n)
    ∙ omega (arith, sum_by-cons (λ b. cond (is_first b) 1 0) byte (take n bytes))

pub characters_more : (bytes : List ℕ) (byte : ℕ) → characters (bytes ++ byte ∷ []) ≡ if is_line_feed byte then 0 else characters bytes + cond (is_first byte) 1 0
characters_more bytes byte =
    let all : ℕ → Bool = λ b. not (is_line_feed b) in
    ap (λ r. count_by is_first (take (prefix_len all r) r)) (reverse-append bytes (byte ∷ []))
    ∙ taken (is_line_feed byte) byte (prefix_len all (reverse bytes)) (reverse bytes)

pub line_more : (is_feed : Bool) (n line : ℕ) → line ≡ counted (suc n) → (if is_feed then counted (suc line) else line) ≡ counted (suc (n + cond is_feed 1 0))
line_more true n line h = omega (arith, h)
line_more false n line h = omega (arith, h)

pub column_more : (is_feed is_first : Bool) (n column : ℕ) → column ≡ counted (suc n) → (if is_feed then 1 else if is_first then counted (suc column) else column) ≡ counted (suc (if is_feed then 0 else n + cond is_first 1 0))
column_more true b n column h = omega arith
column_more false true n column h = omega (arith, h)
column_more false false n column h = omega (arith, h)

pub location_behind : (text : List ℕ) (l : Location) (byte : ℕ) → length text ≤ 2 ^ 64 - 1 → IsLocation text l → l.offset < length text → get_or text l.offset 0 ≡ byte → IsLocation text (behind l byte)
location_behind text l byte long is less at =
    let e : counted (suc l.offset) ≡ suc l.offset = omega arith in
    let more : bytes_before text (counted (suc l.offset)) ≡ bytes_before text l.offset ++ byte ∷ [] =
    ap (bytes_before text) e ∙ before_more text l.offset is.begins less ∙ ap (λ b. bytes_before text l.offset ++ b ∷ []) at in
    let feeds = line_feeds (bytes_before text l.offset) in
    let count = characters (bytes_before text l.offset) in
    record {
      begins = omega (arith, is.begins);
      ends = omega arith;
      line_is = line_more (is_line_feed byte) feeds l.line is.line_is
          ∙ ap (λ n. counted (suc n)) (sym (ap line_feeds more ∙ line_feeds_more (bytes_before text l.offset) byte));
      column_is = column_more (is_line_feed byte) (is_first byte) count l.column is.column_is
          ∙ ap (λ n. counted (suc n)) (sym (ap characters more ∙ characters_more (bytes_before text l.offset) byte));
    }

-- the beginning of a text, after its byte order mark
pub location_start : (text : List ℕ) → length (mark_of text) ≤ length text → IsLocation text (record { offset = length (mark_of text); line = 1; column = 1 })
location_start text within =
    let m = length (mark_of text) in
    let e : m - m ≡ 0 = omega arith in
    let none : bytes_before text m ≡ [] = ap (λ k. take k (drop m text)) e in
    record {
      begins = omega arith;
      ends = within;
      line_is = ap (λ bytes. counted (suc (line_feeds bytes))) (sym none);
      column_is = ap (λ bytes. counted (suc (characters bytes))) (sym none);
    }

-- the front of a front is a front
pub front_of_front : (xs ys whole : List ℕ) → take (length xs) ys ≡ xs → take (length ys) whole ≡ ys → take (length xs) whole ≡ xs
front_of_front xs ys whole h k =
    let short : length xs ≤ length ys = omega (arith, sym (ap length h), length-take (length xs) ys) in
    sym (take-take (length xs) (length ys) whole short) ∙ ap (take (length xs)) k ∙ h
