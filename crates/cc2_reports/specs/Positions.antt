-- Where a report's piece of its file is: at a key, or at the beginning of the key's value.
-- TOML: keys, https://toml.io/en/v1.0.0#keys; key/value pairs, https://toml.io/en/v1.0.0#keyvalue-pair
use Rattle.std.specs.Prelude.{◌≡◌, ◌≤◌, ◌⊎◌, ◌==◌, ◌||◌, ◌-◌, ◌++◌, ℕ, suc, Bool, true, false, not, List, codes, length, map, slice_get, slice_range, string_bytes, Option, Some, None, option_and_then, IfSome}
use Rattle.std.specs.List.{list_any}
use Rattle.toml.specs.Data.{as_bool, Members, no_members, member, get_member}
use Rattle.toml.specs.Parse.{parse_document}
use Rattle.cc2_reports.specs.Locations.{IsSpan, is_line_feed}
use Rattle.cc2_reports.specs.declared.location.Span.{Span}
use Rattle.cc2_reports.specs.declared.report.Report.{Report}
use Rattle.cc2_reports.specs.declared.source.Source.{Source}

abbrev pub member_count : Members → ℕ
member_count no_members = 0
member_count (member key value more) = suc (member_count more)

-- the boolean at a key, if there is one
abbrev pub boolean_at : List ℕ → Members → Option Bool
boolean_at key table = option_and_then as_bool (get_member key table)

-- a text is TOML that sets this key to this boolean, and nothing else
pub record SetsAlone (key : List ℕ) (is_true : Bool) (text : List ℕ) : Type 0 where
  pub table : Members
  pub parsed : parse_document text ≡ Some table
  pub one : member_count table ≡ 1
  pub value : boolean_at key table ≡ Some is_true

abbrev pub is_blank : ℕ → Bool
is_blank byte = (byte == 32) || (byte == 9)

abbrev pub starts_blank : Option ℕ → Bool
starts_blank None = true
starts_blank (Some byte) = is_blank byte

abbrev pub is_one_line : List ℕ → Bool
is_one_line text = not (list_any is_line_feed text)

-- This is the key, bare or in quotes: with `=` and a boolean after it, it sets the key to that boolean. It is in one
-- line, without blanks around it.
pub record IsKeyText (key text : List ℕ) : Type 0 where
  pub line : is_one_line text ≡ true
  pub first : starts_blank (slice_get text 0) ≡ false
  pub last : starts_blank (slice_get text (length text - 1)) ≡ false
  pub sets_true : SetsAlone key true (text ++ codes "=true")
  pub sets_false : SetsAlone key false (text ++ codes "=false")

-- the piece is between these offsets
abbrev pub IsWithin : ℕ → ℕ → Span → Type 0
IsWithin from to s = (from ≤ s.start.offset) × (s.end.offset ≤ to)

-- This is the key and `=`, up to where its value begins: with a boolean after it, it sets the key to that boolean.
pub record IsKeyAndEquals (key text : List ℕ) : Type 0 where
  pub line : is_one_line text ≡ true
  pub sets_true : SetsAlone key true (text ++ codes "true")
  pub sets_false : SetsAlone key false (text ++ codes "false")

-- the piece begins the value of a key that is spelled from this offset on
pub record BeginsValue (text key : List ℕ) (from : ℕ) (s : Span) : Type 0 where
  pub follows : IsKeyAndEquals key (slice_range text from s.start.offset)
  pub begins : starts_blank (slice_get text s.start.offset) ≡ false

-- The piece is a piece of the text: this key, which is spelled from one offset up to another, a part of it, or the
-- beginning of its value.
pub record IsAtKey (text key : List ℕ) (s : Span) : Type 0 where
  pub piece : IsSpan text s
  pub from : ℕ
  pub to : ℕ
  pub is_key : IsKeyText key (slice_range text from to)
  pub place : IsWithin from to s ⊎ BeginsValue text key from s

-- the last of these keys; none where there are none
abbrev pub last_of : List (List ℕ) → Option (List ℕ)
last_of keys = slice_get keys (length keys - 1)

-- the keys whose last one is what the report is about
abbrev pub position_keys : Report → List (List ℕ)
position_keys r = map string_bytes r.path.items ++ map string_bytes r.below.items

-- the piece is one of the text, and of a report about a key it is at that key or its value
abbrev pub IsPosition : List ℕ → List (List ℕ) → Span → Type 0
IsPosition text keys s = IsSpan text s × IfSome (last_of keys) (λ key. IsAtKey text key s)

-- the report has no position, or it is one of this text
abbrev pub IsPlaced : List ℕ → Report → Type 0
IsPlaced text r = IfSome r.span (IsPosition text (position_keys r))

-- the text of the file
abbrev pub source_text : Source → List ℕ
source_text source = source.locator.text.now
