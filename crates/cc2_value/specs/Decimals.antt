-- Whole numbers as a text writes them: a sign or none, and decimal digits.
use Rattle.std.specs.Prelude.{ℤ, ℕ, pos, neg_ℤ, ◌+◌, ◌-◌, ◌*◌, eqb, List, [], ◌∷◌, Option, Some, None, option_map, if◌then◌else◌}
use Rattle.std.specs.Str.{all_ascii_digits}
use Rattle.cc2_value.specs.Singles.{int32_in, uint32_in}

-- the number that the digits write after those of n
abbrev pub read_on : ℕ → List ℕ → ℕ
read_on n [] = n
read_on n (c ∷ cs) = read_on (n * 10 + (c - 48)) cs

-- the number that digits write, of which there is one at least
abbrev pub digits_read : List ℕ → Option ℕ
digits_read [] = None
digits_read (c ∷ cs) = if all_ascii_digits (c ∷ cs) then Some (read_on 0 (c ∷ cs)) else None

-- digits, which may follow a `+`
abbrev pub unsigned_read : List ℕ → Option ℕ
unsigned_read [] = None
unsigned_read (c ∷ cs) = if eqb c 43 then digits_read cs else digits_read (c ∷ cs)

-- digits, which may follow a `+` or a `-`
abbrev pub signed_read : List ℕ → Option ℤ
signed_read [] = None
signed_read (c ∷ cs) = if eqb c 45 then option_map (λ n. neg_ℤ (pos n)) (digits_read cs) else option_map pos (unsigned_read (c ∷ cs))

-- a whole number from -2147483648 to 2147483647
abbrev pub int32_text : List ℕ → Option ℤ
int32_text text = int32_in (signed_read text)

-- a whole number from 0 to 4294967295
abbrev pub uint32_text : List ℕ → Option ℕ
uint32_text text = uint32_in (option_map pos (unsigned_read text))
