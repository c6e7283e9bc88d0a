-- Parts that were read, in front of those of the words that are left.
use Rattle.std.proofs.Common.{◌≡◌, List, [], ◌∷◌, ◌++◌, Result, Ok, Err, refl, ap, append_assoc}
use Rattle.std.proofs.lemmas.List.{append-nil}
use Rattle.cc2_command_line.specs.Faults.{Fault}
use Rattle.cc2_command_line.specs.Parts.{Part, in_front}

abbrev pub behind : List Part → Result (List Part) Fault → Result (List Part) Fault
behind ps (Err fault) = Err fault
behind ps (Ok qs) = Ok (ps ++ qs)

pub behind_nothing : (qs : Result (List Part) Fault) → behind [] qs ≡ qs
behind_nothing (Err fault) = refl
behind_nothing (Ok qs) = refl

pub behind_all : (ps : List Part) → behind ps (Ok []) ≡ Ok ps
behind_all ps = ap Ok (append-nil ps)

-- one part more was read
pub behind_more : (ps : List Part) (p : Part) (qs : Result (List Part) Fault) → behind (ps ++ p ∷ []) qs ≡ behind ps (in_front (Ok p) qs)
behind_more ps p (Err fault) = refl
behind_more ps p (Ok qs) = ap Ok (append_assoc ps (p ∷ []) qs)
