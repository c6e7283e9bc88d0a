use Rattle.std.proofs.Common.{◌≡◌, ◌∷◌, [], ℕ, List, false}
use Rattle.cc2_cargo.specs.Raw.{entries_at, raw_members_at}
use Rattle.cc2_cargo_settings.specs.Found.{is_found, lookup_at}
use Rattle.cc2_cargo_settings.proofs.found.some_has.Given as goal

-- where none of the tables left has the key, none of all has it
abbrev pub invariant-loop-name : goal.invariant-loop-name
invariant-loop-name l =
    (name : List ℕ) → is_found (lookup_at (entries_at l._name-iterator) (name ∷ (l.part ∷ []))) ≡ false
    → is_found (lookup_at (raw_members_at l.tables) (name ∷ (l.part ∷ []))) ≡ false
