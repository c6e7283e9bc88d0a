-- What is made of a kind and its words.
use Rattle.std.specs.Prelude.{◌≡◌, ℕ, List, Option, Some, None, Result, Ok, Err}
use Rattle.cc2_value.specs.Cells.{Word}
use Rattle.cc2_value.specs.Values.{words_of}
use Rattle.cc2_ask.specs.declared.fault.Fault.{Fault}
use Rattle.cc2_ask.specs.declared.fault.Fault.TheVariants as fault
use Rattle.cc2_state.specs.declared.read_slots.Slot.{Slot}

abbrev pub slot_in : Slot → ℕ × List Word
slot_in s = (s.kind, words_of s.words.items)

-- what was made shows what should be made; malformed where nothing is
abbrev pub IsSlotMade : {A B : Type 0} → (A → B) → Option B → Result A Fault → Type 0
IsSlotMade view wanted (Ok a) = wanted ≡ Some (view a)
IsSlotMade view wanted (Err fault.Memory) = ⊥
IsSlotMade view wanted (Err fault.Malformed) = wanted ≡ None
