-- Parts in one line.
use Rattle.std.proofs.Common.{◌≡◌, ◌++◌, ◌==◌, ℕ, List, [], ◌∷◌, false, String, Global, string_bytes, map, length, codes, refl, ap, arith}
use Rattle.std.specs.Prelude.{flat_map}
use Rattle.std.specs.List.{join_by}
use Rattle.cc2_program.specs.Lints.{counted_line}

behind_each : (sep : List ℕ) (parts : List (String Global))
    → flat_map (λ part. sep ++ string_bytes part) parts ≡ flat_map (λ part. sep ++ part) (map string_bytes parts)
behind_each sep [] = refl
behind_each sep (part ∷ parts) = ap (λ rest. (sep ++ string_bytes part) ++ rest) (behind_each sep parts)

pub lined : (parts : List (String Global)) → length parts == 0 ≡ false
    → join_by string_bytes (codes ", ") parts ++ codes "\n" ≡ counted_line (map string_bytes parts)
lined [] some = grind (arith, some)
lined (part ∷ parts) some = ap (λ rest. (string_bytes part ++ rest) ++ codes "\n") (behind_each (codes ", ") parts)
