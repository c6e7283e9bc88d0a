-- Single values that are made of the words of a list.
use Rattle.std.specs.Prelude.{Bool, true, false, List, [], ◌∷◌, Option, Some, None, Result, Ok, Err}
use Rattle.cc2_value.specs.Cells.{KeyPath, Cell, Single, Setting, Word, Origin}
use Rattle.cc2_value.specs.Ways.{Way, Flaw, Fault, ill_typed}
use Rattle.cc2_leaf.specs.Lists.{Listed, pieces, items, listed, words_at}

-- what words make, and whether they came as an array
abbrev pub Making : Type 0
Making = Bool → List Word → Result Setting Fault

-- what is made of a list that was read, each word with the origin
abbrev pub made_of : Making → Option Origin → Option Listed → Result Setting Fault
made_of make origin None = Err ill_typed
made_of make origin (Some (pieces texts)) = make false (words_at origin texts)
made_of make origin (Some (items texts)) = make true (words_at origin texts)

abbrev pub single_of : Result Setting Fault → KeyPath → Option Cell
single_of (Ok s) [] = Some (Single s)
single_of (Ok s) (k ∷ p) = None
single_of (Err fault) p = None

-- the fault of a value that is none
abbrev pub faults_of : Result Setting Fault → List Flaw
faults_of (Ok s) = []
faults_of (Err fault) = ([], fault) ∷ []

-- a text that is split at spaces, or an array of texts, where its words make a value
abbrev pub made_way : Making → Way
made_way make = record { cells = λ origin d p. single_of (made_of make origin (listed d)) p; faults = λ d. faults_of (made_of make None (listed d)) }
