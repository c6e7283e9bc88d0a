use Rattle.std.proofs.Common.{◌≡◌, ◌++◌, length, map}
use Rattle.std.specs.List.{slice_split}
use denote.Shadow.{shadow}
use denote.Text.{Utf8}
use Rattle.cc2_base.specs.Paths.{is_dot}
use Rattle.cc2_cargo_target.proofs.flags.push_pieces.Given as goal

-- the pieces so far, and those of the text left
abbrev pub invariant-pieces : goal.invariant-pieces
invariant-pieces l = shadow (Utf8 l.left)
    × (map (λ k. k.now) l.pieces.items ++ slice_split is_dot l.left ≡ map (λ k. k.now) l.fn.pieces.items ++ slice_split is_dot l.fn.text)

abbrev pub decreases-pieces : goal.decreases-pieces
decreases-pieces l = length l.left
