use Rattle.std.proofs.Common.{◌≡◌, [], length, string_bytes}
use denote.Shadow.{shadow}
use denote.Text.{Utf8}
use Rattle.cc2_cargo.specs.Dotted.{after_part}
use Rattle.cc2_cargo.proofs.dotted.after_part.Given as goal

-- no part ends before what is left
abbrev pub invariant-parts : goal.invariant-parts
invariant-parts l = shadow (Utf8 l.rest) × (after_part l.part [] l.fn.text ≡ after_part l.part (string_bytes l.front) l.rest)

abbrev pub decreases-parts : goal.decreases-parts
decreases-parts l = length l.rest
