-- Lines and columns of a text, counted from 1. A line ends with a line feed. A column counts characters of UTF-8, and a
-- byte order mark at the beginning of the text has none.
use Rattle.std.specs.Prelude.{◌≡◌, ◌≤◌, ℕ, suc, ◌-◌, ◌^◌, ◌==◌, ◌&&◌, nat_le, eqb, min, Bool, not, List, [], ◌∷◌, count_by, length, take, drop, reverse, take_while, if◌then◌else◌}
use Rattle.std.specs.List.{starts_with}
use Rattle.cc2_reports.specs.declared.location.Location.{Location}
use Rattle.cc2_reports.specs.declared.location.Span.{Span}

-- a number of lines or columns, as far as the type goes
abbrev pub counted : ℕ → ℕ
counted n = min n (2 ^ 64 - 1)

abbrev pub is_line_feed : ℕ → Bool
is_line_feed byte = byte == 10

-- the byte is the first one of a character
abbrev pub is_first : ℕ → Bool
is_first byte = not (nat_le 128 byte && nat_le byte 191)

-- U+FEFF, the byte order mark
abbrev pub mark : List ℕ
mark = 239 ∷ (187 ∷ (191 ∷ []))

-- that at the beginning of a text, if it has one
abbrev pub mark_of : List ℕ → List ℕ
mark_of text = if starts_with eqb text mark then mark else []

-- how many line feeds are in these bytes
abbrev pub line_feeds : List ℕ → ℕ
line_feeds bytes = count_by is_line_feed bytes

-- how many characters follow the last line feed
abbrev pub characters : List ℕ → ℕ
characters bytes = count_by is_first (take_while (λ byte. not (is_line_feed byte)) (reverse bytes))

-- so many bytes of a text, without its byte order mark
abbrev pub bytes_before : List ℕ → ℕ → List ℕ
bytes_before text offset = take (offset - length (mark_of text)) (drop (length (mark_of text)) text)

-- the line and the column are those of the offset in this text
pub record IsLocation (text : List ℕ) (l : Location) : Type 0 where
  pub begins : length (mark_of text) ≤ l.offset
  pub ends : l.offset ≤ length text
  pub line_is : l.line ≡ counted (suc (line_feeds (bytes_before text l.offset)))
  pub column_is : l.column ≡ counted (suc (characters (bytes_before text l.offset)))

-- both ends of the piece are locations of this text, in this order
pub record IsSpan (text : List ℕ) (s : Span) : Type 0 where
  pub start : IsLocation text s.start
  pub end : IsLocation text s.end
  pub order : s.start.offset ≤ s.end.offset
