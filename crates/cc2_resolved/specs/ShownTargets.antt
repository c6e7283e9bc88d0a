-- What a target shows: that of the text which it keeps.
use Rattle.std.specs.Cow.{cow_str_bytes, IsOwnedStr, IsBorrowedStr}
use Rattle.cc2_resolved.specs.Targets.{Target, target_in}
use Rattle.cc2_resolved.specs.declared.target_triple.TargetTripleRef.{TargetTripleRef}

abbrev pub target_at : TargetTripleRef → Target
target_at target = target_in (cow_str_bytes target.text)

-- the target has a text of its own
abbrev pub IsOwned : TargetTripleRef → Type 0
IsOwned target = IsOwnedStr target.text

-- the text is another's
abbrev pub IsBorrowed : TargetTripleRef → Type 0
IsBorrowed target = IsBorrowedStr target.text
