-- Whole numbers in the range of their type.
use Rattle.std.specs.Prelude.{ℤ, ℕ, pos, negsuc, int_le, leb, ◌&&◌, Option, Some, None, if◌then◌else◌}

-- from -2147483648 to 2147483647
abbrev pub int32_of : ℤ → Option ℤ
int32_of z = if (int_le (negsuc 2147483647) z && int_le z (pos 2147483647)) then Some z else None

-- from 0 to 4294967295
abbrev pub uint32_of : ℤ → Option ℕ
uint32_of (pos n) = if leb n 4294967295 then Some n else None
uint32_of (negsuc n) = None
