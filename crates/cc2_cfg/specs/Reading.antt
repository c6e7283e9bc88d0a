-- What the parser keeps of a state of the reader: the table so far, the places of the open functions, and the last token.
use Rattle.std.specs.Prelude.{◌≡◌, ℕ, ◌+◌, List, [], ◌∷◌, ◌++◌, map, length, Bool, true, false, Option, Some, None}
use Rattle.cc2_cfg.specs.Tokens.{Operator, OpAll, OpAny, OpNot}
use Rattle.cc2_cfg.specs.Grammar.{Tree, Trees, Flag, NoTrees, MoreTrees}
use Rattle.cc2_cfg.specs.Machine.{Frames, State, Bottom, Above, Start, Named, Opened, Separated, Keyed, Waiting, Ended, Rooted}
use Rattle.cc2_cfg.specs.Table.{Row, Label, Leaf, Group, rows, rows_of, row_of, operator_of, IsTable}
use Rattle.cc2_cfg.specs.declared.parser.Last.{Last}
use Rattle.cc2_cfg.specs.declared.parser.Last.TheVariants as last
use Rattle.cc2_cfg.specs.declared.parser.Frame.{Frame}
use Rattle.cc2_cfg.specs.declared.parser.Parser.{Parser}

abbrev pub frame_place : Frame → ℕ
frame_place frame = frame.place

pub data Phase : Type 0 where
  AtStart : Phase
  AtName : Operator → Phase
  AtOpen : Phase
  AtComma : Phase
  AtKey : List ℕ → Phase
  AtEquals : List ℕ → Phase
  AtEnd : Phase

abbrev pub phase_of : Last → Phase
phase_of last.Start = AtStart
phase_of (last.Name f at) = AtName (operator_of f)
phase_of last.Opening = AtOpen
phase_of last.Comma = AtComma
phase_of (last.Key w) = AtKey w.now
phase_of (last.Equals w) = AtEquals w.now
phase_of last.End = AtEnd

abbrev pub phase_for : State → Phase
phase_for Start = AtStart
phase_for (Named frames f) = AtName f
phase_for (Opened frames f) = AtOpen
phase_for (Separated frames f trees) = AtComma
phase_for (Keyed frames w) = AtKey w
phase_for (Waiting frames w) = AtEquals w
phase_for (Ended frames t) = AtEnd
phase_for (Rooted t) = AtComma

-- the rows of the open functions, whose ends aren't known yet, and of their predicates
abbrev pub front_rows : Frames → List Row
front_rows Bottom = []
front_rows (Above f trees frames) = front_rows frames ++ (record { label = Group f; end = 0 } ∷ rows_of trees (length (front_rows frames) + 1))

abbrev pub places : Frames → List ℕ
places Bottom = []
places (Above f trees frames) = places frames ++ length (front_rows frames) ∷ []

abbrev pub rows_for : State → List Row
rows_for Start = []
rows_for (Named frames f) = front_rows frames
rows_for (Opened frames f) = front_rows (Above f NoTrees frames)
rows_for (Separated frames f trees) = front_rows (Above f trees frames)
rows_for (Keyed frames w) = front_rows frames
rows_for (Waiting frames w) = front_rows frames
rows_for (Ended frames t) = front_rows frames ++ rows t (length (front_rows frames))
rows_for (Rooted t) = rows t 0

abbrev pub places_for : State → List ℕ
places_for Start = []
places_for (Named frames f) = places frames
places_for (Opened frames f) = places (Above f NoTrees frames)
places_for (Separated frames f trees) = places (Above f trees frames)
places_for (Keyed frames w) = places frames
places_for (Waiting frames w) = places frames
places_for (Ended frames t) = places frames
places_for (Rooted t) = []

pub record Represents (p : Parser) (s : State) : Type 0 where
  pub phase : phase_of p.last ≡ phase_for s
  pub table : map row_of p.nodes.items ≡ rows_for s
  pub stack : map frame_place p.stack.items ≡ places_for s

-- fits says whether there is a next state, which q represents
abbrev pub Stepped : Option State → Bool → Parser → Type 0
Stepped None fits q = fits ≡ false
Stepped (Some s) fits q = (fits ≡ true) × Represents q s

-- whether a predicate may begin
abbrev pub may_begin : State → Bool
may_begin Start = true
may_begin (Opened frames f) = true
may_begin (Separated frames f trees) = true
may_begin (Named frames f) = false
may_begin (Keyed frames w) = false
may_begin (Waiting frames w) = false
may_begin (Ended frames t) = false
may_begin (Rooted t) = false

-- a word is a predicate where no `=` follows
abbrev pub settled : State → State
settled Start = Start
settled (Named frames f) = Named frames f
settled (Opened frames f) = Opened frames f
settled (Separated frames f trees) = Separated frames f trees
settled (Keyed frames w) = Ended frames (Flag w)
settled (Waiting frames w) = Waiting frames w
settled (Ended frames t) = Ended frames t
settled (Rooted t) = Rooted t

-- one tree
abbrev pub single : Trees → Bool
single NoTrees = false
single (MoreTrees t NoTrees) = true
single (MoreTrees t (MoreTrees u trees)) = false

-- fits says whether the text may end, and then the nodes are the tree's table
abbrev pub Finished : Option Tree → Bool → Parser → Type 0
Finished None fits q = fits ≡ false
Finished (Some tree) fits q = (fits ≡ true) × IsTable q.nodes.items tree

abbrev pub is_not : Label → Bool
is_not (Leaf a) = false
is_not (Group OpAll) = false
is_not (Group OpAny) = false
is_not (Group OpNot) = true
