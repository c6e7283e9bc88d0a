-- The characters of a text in UTF-8; and as a terminal gets them: what would move the cursor, colour, end a line or turn the direction of
-- text is written by its number. Unicode Standard, control codes and bidirectional formatting characters.
use Rattle.std.specs.Prelude.{ℕ, ◌/◌, ◌%◌, ◌==◌, nat_le, nat_lt, Bool, false, not, ◌&&◌, ◌||◌, if◌then◌else◌, List, [], ◌∷◌, ◌++◌, codes, filter, flat_map}
use Rattle.std.specs.Char.{encode_utf8}
use Rattle.std.specs.Str.{chars}
use Rattle.cc2_cli.specs.Lines.{hex_digit}

-- the byte goes on with a character that an earlier one began
abbrev pub is_continued : ℕ → Bool
is_continued byte = nat_le 128 byte && nat_lt byte 192

-- the first byte of each character
abbrev pub first_bytes : List ℕ → List ℕ
first_bytes text = filter (λ byte. not (is_continued byte)) text

-- a control character: one below the space but for the tab, or one from U+007F to U+009F
abbrev pub is_control_character : ℕ → Bool
is_control_character c = (nat_lt c 32 && not (c == 9)) || (nat_le 127 c && nat_lt c 160)

-- a mark of direction, or a separator of lines or paragraphs
abbrev pub is_mark : ℕ → Bool
is_mark c = c == 1564 || (nat_le 8206 c && nat_le c 8207 || (nat_le 8232 c && nat_le c 8238 || nat_le 8294 c && nat_le c 8297))

-- a character that a terminal may take for more than text; a line feed, where lines end as they do
abbrev pub acts_on_terminal : Bool → ℕ → Bool
acts_on_terminal keeps_lines c = if c == 10 then not keeps_lines else is_control_character c || is_mark c

-- its number, as TOML and Cargo write it
abbrev pub escape : ℕ → List ℕ
escape c =
    codes "\\u"
    ++ (hex_digit (c / 4096 % 16) ∷ (hex_digit (c / 256 % 16) ∷ (hex_digit (c / 16 % 16) ∷ (hex_digit (c % 16) ∷ []))))

abbrev pub shown_char : Bool → ℕ → List ℕ
shown_char keeps_lines c = if acts_on_terminal keeps_lines c then escape c else encode_utf8 c

-- a text as a terminal gets it
abbrev pub visible_text : Bool → List ℕ → List ℕ
visible_text keeps_lines text = flat_map (shown_char keeps_lines) (chars text)

-- the same in one line
abbrev pub visible_line : List ℕ → List ℕ
visible_line text = visible_text false text
