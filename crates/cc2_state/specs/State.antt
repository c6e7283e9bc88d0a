-- What a load leaves for later queries, as bytes that a caller hands back: the tables below `target`, the marks of
-- overridden flags, and settings of the table `build`.
use Rattle.std.specs.Prelude.{ℕ, Bool, true, false, List, [], ◌∷◌, Option, Some, None, option_and_then, ◌==◌, if◌then◌else◌}
use Rattle.cc2_value.specs.Cells.{Cell, Single, Text, Items, Word, Origin, file, variable, command_line, word}
use Rattle.cc2_leaf.specs.Commands.{command_setting}
use Rattle.cc2_ask.specs.Fields.{Front, text_at, list_at}
use Rattle.cc2_ask.specs.Written.{byte_at, both_at, made_at, judged_at, listed_at}

-- a kind, and the text that belongs to it
abbrev pub tagged_front : List ℕ → Front (ℕ × List ℕ)
tagged_front bytes = both_at byte_at text_at bytes

-- where a value was set: nowhere known, in a file, by a variable, on the command line, in a file of the command line
abbrev pub origin_tagged : ℕ × List ℕ → Option (Option Origin)
origin_tagged t =
    if t.0 == 0 then Some None
    else (if t.0 == 1 then Some (Some (file t.1))
    else (if t.0 == 2 then Some (Some (variable t.1))
    else (if t.0 == 3 then Some (Some (command_line None))
    else (if t.0 == 4 then Some (Some (command_line (Some t.1))) else None))))

abbrev pub origin_front : List ℕ → Front (Option Origin)
origin_front bytes = judged_at origin_tagged tagged_front bytes

abbrev pub word_tagged : List ℕ × Option Origin → Word
word_tagged w = record { text = w.0; origin = w.1 }

-- a text and where it was set
abbrev pub word_front : List ℕ → Front Word
word_front bytes = made_at word_tagged (both_at text_at origin_front) bytes

-- a kind, and the words that belong to it
abbrev pub slot_front : List ℕ → Front (ℕ × List Word)
slot_front bytes = both_at byte_at (listed_at word_front) bytes

-- one text
abbrev pub text_cell : List Word → Option (Option Cell)
text_cell [] = None
text_cell (w ∷ []) = Some (Some (Single (record { payload = word w.text; origin = w.origin })))
text_cell (w ∷ (v ∷ ws)) = None

-- a program, and its arguments
abbrev pub command_cell : Bool → List Word → Option (Option Cell)
command_cell array [] = None
command_cell array (w ∷ ws) = Some (Some (Single (command_setting array w ws)))

-- nothing, or a text
abbrev pub linker_in_slot : ℕ × List Word → Option (Option Cell)
linker_in_slot s = if s.0 == 0 then Some None else (if s.0 == 1 then text_cell s.1 else None)

-- nothing, or a command that came as a text or as an array
abbrev pub runner_in_slot : ℕ × List Word → Option (Option Cell)
runner_in_slot s =
    if s.0 == 0 then Some None
    else (if s.0 == 1 then command_cell false s.1
    else (if s.0 == 2 then command_cell true s.1 else None))

-- nothing, or flags that came as a text or as an array
abbrev pub flags_in_slot : ℕ × List Word → Option (Option Cell)
flags_in_slot s =
    if s.0 == 0 then Some None
    else (if s.0 == 1 then Some (Some (Text s.1))
    else (if s.0 == 2 then Some (Some (Items s.1)) else None))

abbrev pub linker_front : List ℕ → Front (Option Cell)
linker_front bytes = judged_at linker_in_slot slot_front bytes

abbrev pub runner_front : List ℕ → Front (Option Cell)
runner_front bytes = judged_at runner_in_slot slot_front bytes

abbrev pub flags_front : List ℕ → Front (Option Cell)
flags_front bytes = judged_at flags_in_slot slot_front bytes

-- the cells of a table below `target`, where there are any
pub record Table : Type 0 where
  pub linker : Option Cell
  pub runner : Option Cell
  pub rustflags : Option Cell
  pub rustdocflags : Option Cell

abbrev pub table_of_cells : Option Cell × (Option Cell × (Option Cell × Option Cell)) → Table
table_of_cells t = record { linker = t.0; runner = t.1.0; rustflags = t.1.1.0; rustdocflags = t.1.1.1 }

abbrev pub table_front : List ℕ → Front Table
table_front bytes = made_at table_of_cells (both_at linker_front (both_at runner_front (both_at flags_front flags_front))) bytes

-- a table, after its key
abbrev pub entry_front : List ℕ → Front (List ℕ × Table)
entry_front bytes = both_at text_at table_front bytes

-- nothing, or a text
abbrev pub optional_tagged : ℕ × List ℕ → Option (Option (List ℕ))
optional_tagged t = if t.0 == 0 then Some None else (if t.0 == 1 then Some (Some t.1) else None)

abbrev pub optional_front : List ℕ → Front (Option (List ℕ))
optional_front bytes = judged_at optional_tagged tagged_front bytes

-- nothing, or texts
abbrev pub texts_tagged : ℕ × List (List ℕ) → Option (Option (List (List ℕ)))
texts_tagged t = if t.0 == 0 then Some None else (if t.0 == 1 then Some (Some t.1) else None)

abbrev pub texts_front : List ℕ → Front (Option (List (List ℕ)))
texts_front bytes = judged_at texts_tagged (both_at byte_at list_at) bytes

-- false or true
abbrev pub mark_byte : ℕ → Option Bool
mark_byte b = if b == 0 then Some false else (if b == 1 then Some true else None)

abbrev pub mark_front : List ℕ → Front Bool
mark_front bytes = judged_at mark_byte byte_at bytes

-- what queries read of a load
pub record LoadState : Type 0 where
  -- whether variables override the flags of targets
  pub flags_overridden : Bool
  pub doc_flags_overridden : Bool
  -- settings of the table `build`, resolved
  pub rustc : Option (List ℕ)
  pub wrapper : Option (List ℕ)
  pub workspace_wrapper : Option (List ℕ)
  pub rustflags : Option (List (List ℕ))
  pub rustdocflags : Option (List (List ℕ))
  -- the tables below `target`, by their keys
  pub tables : List (List ℕ × Table)

-- the marks, the programs, the flags and the tables, one after the other
abbrev pub Parts : Type 0
Parts = (Bool × Bool) × ((Option (List ℕ) × (Option (List ℕ) × Option (List ℕ)))
    × ((Option (List (List ℕ)) × Option (List (List ℕ))) × List (List ℕ × Table)))

abbrev pub state_of_parts : Parts → LoadState
state_of_parts s = record {
  flags_overridden = s.0.0;
  doc_flags_overridden = s.0.1;
  rustc = s.1.0.0;
  wrapper = s.1.0.1.0;
  workspace_wrapper = s.1.0.1.1;
  rustflags = s.1.1.0.0;
  rustdocflags = s.1.1.0.1;
  tables = s.1.1.1;
}

abbrev pub parts_front : List ℕ → Front Parts
parts_front bytes =
    both_at (both_at mark_front mark_front)
    (both_at (both_at optional_front (both_at optional_front optional_front)) (both_at (both_at texts_front texts_front) (listed_at entry_front))) bytes

-- what was read, if nothing is left
abbrev pub where_whole : LoadState × List ℕ → Option LoadState
where_whole (s, []) = Some s
where_whole (s, b ∷ bytes) = None

-- the state that bytes are; none where they are no state
abbrev pub state_in : List ℕ → Option LoadState
state_in bytes = option_and_then where_whole (made_at state_of_parts parts_front bytes)
