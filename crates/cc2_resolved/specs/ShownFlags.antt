-- What flags show.
use Rattle.std.specs.Prelude.{ℕ, ◌-◌, List, vec_len, vec_capacity}
use Rattle.cc2_resolved.specs.Texts.{texts_of}
use Rattle.cc2_resolved.specs.declared.flags.Flags.{Flags}

abbrev pub flag_texts : Flags → List (List ℕ)
flag_texts flags = texts_of flags.flags.items

-- how many flags the list takes before it must grow
abbrev pub room_of : Flags → ℕ
room_of flags = vec_capacity flags.flags - vec_len flags.flags
