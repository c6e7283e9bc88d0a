-- Settings by the rank of their environment variables: the first one that is set decides, and no
-- later one is looked at; where none is set, what was there stays.
-- Cargo Reference, Configuration, environment variables.
use Rattle.std.specs.Prelude.{◌≡◌, ◌⊎◌, ℕ, Bool, true, false, if◌then◌else◌, List, [], ◌∷◌, map, flat_map, Contains, Option, Some, None}
use Rattle.std.specs.Str.{bytes_eq, is_utf8}
use Rattle.cc2_error.specs.Causes.{Cause, env_parse, Refusal, refusal_of, plain, in_context}
use Rattle.cc2_base.specs.EnvTexts.{variable_context, not_text_refusal}
use Rattle.cc2_error.specs.Outcomes.{IsWantOfMemory}
use Rattle.cc2_error.specs.declared.error.Error.{Error}
use Rattle.cc2_value.specs.Cells.{field, name, KeyPath, Cell, Entry, variable}
use Rattle.cc2_value.specs.Shown.{Field}
use Rattle.cc2_leaf.specs.TextWays.{TextWay, TextFault, unparsed, unmade, text_cause}
use Rattle.cc2_env.specs.Kept.{Variables}

-- a variable: its name, how its text is read, and whether a line names it where its text isn't in that way
pub record Named : Type 0 where
  pub name : List ℕ
  pub way : TextWay
  pub has_line : Bool

-- the variable and its value, where it is set, else what is found after it
abbrev pub set_or : Named → Option (List ℕ) → Option (Named × List ℕ) → Option (Named × List ℕ)
set_or n None rest = rest
set_or n (Some value) rest = Some (n, value)

-- the first of the variables that is set, and its value
abbrev pub first_set : Variables → List Named → Option (Named × List ℕ)
first_set vars [] = None
first_set vars (n ∷ ns) = set_or n (vars n.name) (first_set vars ns)

-- why a text is refused; a text that isn't in its way of reading has a line that names the variable
abbrev pub text_refusal : List ℕ → TextFault → Refusal
text_refusal n (unparsed must found) = in_context (variable_context n) (plain (text_cause (unparsed must found)))
text_refusal n (unmade fault) = plain (text_cause (unmade fault))

abbrev pub is_unparsed_cause : Cause → Bool
is_unparsed_cause (env_parse must found) = true
is_unparsed_cause other = false

-- why the text of a variable is refused
abbrev pub fault_refusal : Named → TextFault → Refusal
fault_refusal n fault = if n.has_line then text_refusal n.name fault else plain (text_cause fault)

-- why the value of a variable is refused; of one that isn't text a line always names the variable
abbrev pub value_refusals : Named → List ℕ → List Refusal
value_refusals n value =
    if is_utf8 value then map (fault_refusal n) (n.way.faults value)
    else (not_text_refusal n.name value ∷ [])

-- How variables set what is below a place, where `look` is what was there.
pub record Ranking : Type 0 where
  -- the cell at a key path
  pub cells : Variables → (KeyPath → Option Cell) → KeyPath → Option Cell
  -- why the variable that is looked at for a key path is refused
  pub refusals : Variables → (KeyPath → Option Cell) → KeyPath → List Refusal

-- no variable sets it
abbrev pub unset : Ranking
unset = record { cells = λ vars look p. look p; refusals = λ vars look p. [] }

abbrev pub read_cell : Option (Named × List ℕ) → Option Cell → KeyPath → Option Cell
read_cell None was p = was
read_cell (Some f) was p = f.0.way.cells (Some (variable f.0.name)) f.1 p

abbrev pub read_refusals : Option (Named × List ℕ) → List Refusal
read_refusals None = []
read_refusals (Some f) = value_refusals f.0 f.1

-- a setting, by its variables in their rank
abbrev pub by : List Named → Ranking
by ns = record {
  cells = λ vars look p. read_cell (first_set vars ns) (look p) p;
  refusals = λ vars look p. read_refusals (first_set vars ns);
}

-- a field of a table: its key, and how variables set it
abbrev pub Row : Type 0
Row = List ℕ × Ranking

abbrev pub row_at : List Row → List ℕ → Ranking
row_at [] k = unset
row_at (row ∷ rows) k = if bytes_eq row.0 k then row.1 else row_at rows k

abbrev pub rows_cells : List Row → Variables → (KeyPath → Option Cell) → KeyPath → Option Cell
rows_cells rows vars look [] = look []
rows_cells rows vars look (field k ∷ p) = (row_at rows k).cells vars (λ q. look (field k ∷ q)) p
rows_cells rows vars look (name k ∷ p) = look (name k ∷ p)

abbrev pub rows_refusals : List Row → Variables → (KeyPath → Option Cell) → KeyPath → List Refusal
rows_refusals rows vars look [] = []
rows_refusals rows vars look (field k ∷ p) = (row_at rows k).refusals vars (λ q. look (field k ∷ q)) p
rows_refusals rows vars look (name k ∷ p) = []

-- a table, by its fields
abbrev pub by_field : List Row → Ranking
by_field rows = record { cells = rows_cells rows; refusals = rows_refusals rows }

-- a field of a table that is a member of a map: its key, and its variables in their rank
abbrev pub MemberRow : Type 0
MemberRow = List ℕ × List Named

abbrev pub rows_of : List MemberRow → List Row
rows_of rows = map (λ row. (row.0, by row.1)) rows

-- all variables of such a table
abbrev pub named_in : List MemberRow → List Named
named_in rows = flat_map (λ row. row.1) rows

-- an entry where a variable is set
abbrev pub entry_or : Option (Named × List ℕ) → Option Cell → Option Cell
entry_or None was = was
entry_or (Some f) was = Some Entry

abbrev pub member_cells : List MemberRow → Variables → (KeyPath → Option Cell) → KeyPath → Option Cell
member_cells rows vars look [] = entry_or (first_set vars (named_in rows)) (look [])
member_cells rows vars look (k ∷ p) = rows_cells (rows_of rows) vars look (k ∷ p)

-- a table that is a member of a map, by its fields: it is there too where one of its variables is set
abbrev pub by_member : List MemberRow → Ranking
by_member rows = record { cells = member_cells rows; refusals = rows_refusals (rows_of rows) }

abbrev pub names_cells : (List ℕ → Ranking) → Variables → (KeyPath → Option Cell) → KeyPath → Option Cell
names_cells at vars look [] = look []
names_cells at vars look (field k ∷ p) = look (field k ∷ p)
names_cells at vars look (name k ∷ p) = (at k).cells vars (λ q. look (name k ∷ q)) p

abbrev pub names_refusals : (List ℕ → Ranking) → Variables → (KeyPath → Option Cell) → KeyPath → List Refusal
names_refusals at vars look [] = []
names_refusals at vars look (field k ∷ p) = []
names_refusals at vars look (name k ∷ p) = (at k).refusals vars (λ q. look (name k ∷ q)) p

-- a map, name by name
abbrev pub by_name : (List ℕ → Ranking) → Ranking
by_name at = record { cells = names_cells at; refusals = names_refusals at }

abbrev pub ranking_or : Option Cell → Ranking → Ranking
ranking_or None ranking = ranking
ranking_or (Some c) ranking = unset

-- only where there is nothing
abbrev pub where_absent : Ranking → Ranking
where_absent ranking = record {
  cells = λ vars look p. (ranking_or (look []) ranking).cells vars look p;
  refusals = λ vars look p. (ranking_or (look []) ranking).refusals vars look p;
}

-- b shows what the variables make of a, and none that is looked at is refused
abbrev pub IsRanked : {A : Type 0} → (A → KeyPath → Option Cell) → Ranking → Variables → A → A → Type 0
IsRanked look ranking vars a b =
    ((p : KeyPath) → look b p ≡ ranking.cells vars (look a) p)
    × ((p : KeyPath) → ranking.refusals vars (look a) p ≡ [])

-- memory is refused, or a variable that is looked at is
abbrev pub IsRankCause : {A : Type 0} → (A → KeyPath → Option Cell) → Ranking → Variables → A → Error → Type 0
IsRankCause look ranking vars a e =
    IsWantOfMemory e ⊎ ((p : KeyPath) × Contains (ranking.refusals vars (look a) p) (refusal_of e))

-- the row of the field's key, by which the variables make that of b of that of a
pub record IsRowRanked {A : Type 0} (f : Field A) (row : Row) (vars : Variables) (a b : A) : Type 0 where
  pub key : f.key ≡ row.0
  pub ranked : IsRanked f.cells row.1 vars a b

-- row by row, each field of b is what the variables make of that of a
abbrev pub AllRanked : {A : Type 0} → List (Field A) → List Row → Variables → A → A → Type 0
AllRanked [] [] vars a b = Unit {0}
AllRanked [] (row ∷ rows) vars a b = ⊥
AllRanked (f ∷ fs) [] vars a b = ⊥
AllRanked (f ∷ fs) (row ∷ rows) vars a b = IsRowRanked f row vars a b × AllRanked fs rows vars a b

-- the row of this key is refused
abbrev pub IsRankCauseAt : {A : Type 0} → (A → KeyPath → Option Cell) → List Row → Variables → A → List ℕ → Error → Type 0
IsRankCauseAt look rows vars a k e = IsRankCause (λ x q. look x (field k ∷ q)) (row_at rows k) vars a e
