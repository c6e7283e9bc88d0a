-- What the scanner keeps of a text is true of it.
use Rattle.std.specs.Prelude.{◌≡◌, ℕ, suc, List, All, Option, IfSome, if◌then◌else◌}
use Rattle.cc2_reports.specs.Locations.{IsLocation, IsSpan, counted, is_first, is_line_feed}
use Rattle.cc2_reports.specs.declared.location.Location.{Location}
use Rattle.cc2_reports.specs.declared.found.Found.{Found}
use Rattle.cc2_reports.specs.declared.found.Place.{Place}
use Rattle.cc2_reports.specs.declared.scanner.Scanner.{Scanner}

-- the locations of a key and of its value are locations of the text
pub record IsPlace (text : List ℕ) (p : Place) : Type 0 where
  pub key : IsSpan text p.key
  pub value : IfSome p.value (IsLocation text)

abbrev pub ArePlaces : List ℕ → Found → Type 0
ArePlaces text found = All (IsPlace text) found.places.items

-- where it is, where the piece of a key began, and what was found
pub record ScannedSoFar (text : List ℕ) (at : Location) (began : Option Location) (places : Found) : Type 0 where
  pub here : IsLocation text at
  pub piece : IfSome began (IsLocation text)
  pub found : ArePlaces text places

abbrev pub IsTrueOf : List ℕ → Scanner → Type 0
IsTrueOf text s = ScannedSoFar text s.here s.piece s.found

-- the location after a byte
abbrev pub behind : Location → ℕ → Location
behind l byte = record {
  offset = counted (suc l.offset);
  line = if is_line_feed byte then counted (suc l.line) else l.line;
  column = if is_line_feed byte then 1 else if is_first byte then counted (suc l.column) else l.column;
}

-- it stays true, and where it is stays the same
abbrev pub KeepsTrue : Scanner → Scanner → Type 0
KeepsTrue was now = (text : List ℕ) → IsTrueOf text was → IsTrueOf text now × (now.here ≡ was.here)

-- the same where this byte is there
abbrev pub KeepsAt : ℕ → Scanner → Scanner → Type 0
KeepsAt byte was now =
    (text : List ℕ) → IsLocation text (behind was.here byte) → IsTrueOf text was → IsTrueOf text now × (now.here ≡ was.here)
