-- How what is below a place is resolved, key path by key path.
use Rattle.std.specs.Prelude.{◌≡◌, ◌⊎◌, ℕ, List, [], ◌∷◌, Option, Some, None, Result, Ok, Err, String, if◌then◌else◌}
use Rattle.std.specs.BTreeMap.{BTreeMap, get_by_text}
use Rattle.std.specs.declared.alloc.Global.{Global}
use Rattle.std.specs.Str.{bytes_eq}
use Rattle.cc2_error.specs.Causes.{Refusal, refusal_of}
use Rattle.cc2_error.specs.Outcomes.{IsWantOfMemory}
use Rattle.cc2_error.specs.declared.error.Error.{Error}
use Rattle.cc2_value.specs.Cells.{field, name, KeyPath, Cell}
use Rattle.cc2_value.specs.Visits.{Look}
use Rattle.cc2_resolved.specs.Answers.{Answer, entry, shown_at}
use Rattle.cc2_resolved.specs.Sites.{Site}

-- what resolution makes at a key path of the cells below a place
abbrev pub Resolving : Type 0
Resolving = Site → Look → KeyPath → Result (Option Answer) Refusal

abbrev pub made_of : (Cell → Result (Option Answer) Refusal) → Option Cell → Result (Option Answer) Refusal
made_of how None = Ok None
made_of how (Some c) = how c

-- cell by cell
abbrev pub by : (Site → Cell → Result (Option Answer) Refusal) → Resolving
by how site look p = made_of (how site) (look p)

-- a field of a resolved table: its key, how it is resolved, and what the table shows there
pub record Row (A : Type 0) : Type 0 where
  pub key : List ℕ
  pub how : Resolving
  pub shows : A → KeyPath → Option Answer

-- the answer of a value that is there
abbrev pub answer_at : {A : Type 0} → (A → Answer) → A → KeyPath → Option Answer
answer_at answer a p = shown_at (Some (answer a)) p

-- a field that is a value, which may be absent
abbrev pub value : {A : Type 0} → List ℕ → (Site → Cell → Result (Option Answer) Refusal) → (A → Option Answer) → Row A
value key how answer = record { key = key; how = by how; shows = λ a. shown_at (answer a) }

abbrev pub how_at : {A : Type 0} → List (Row A) → List ℕ → Resolving
how_at [] k = λ site look p. Ok None
how_at (r ∷ rs) k = if bytes_eq r.key k then r.how else how_at rs k

abbrev pub shown_in : {A : Type 0} → List (Row A) → A → List ℕ → KeyPath → Option Answer
shown_in [] a k p = None
shown_in (r ∷ rs) a k p = if bytes_eq r.key k then r.shows a p else shown_in rs a k p

-- a table, field by field
abbrev pub by_row : {A : Type 0} → List (Row A) → Resolving
by_row rows site look [] = Ok None
by_row rows site look (field k ∷ p) = how_at rows k site (λ q. look (field k ∷ q)) p
by_row rows site look (name k ∷ p) = Ok None

abbrev pub rows_at : {A : Type 0} → List (Row A) → A → KeyPath → Option Answer
rows_at rows a [] = None
rows_at rows a (field k ∷ p) = shown_in rows a k p
rows_at rows a (name k ∷ p) = None

-- at each key path this is what resolution makes of the cells
pub record IsResolved (how : Resolving) (site : Site) (look : Look) (shown : KeyPath → Option Answer) : Type 0 where
  pub is : (p : KeyPath) → how site look p ≡ Ok (shown p)

-- at some key path resolution is refused so
abbrev pub IsRefusedSo : Resolving → Site → Look → Refusal → Type 0
IsRefusedSo how site look refusal = (p : KeyPath) × (how site look p ≡ Err refusal)

abbrev pub IsCause : Resolving → Site → Look → Error → Type 0
IsCause how site look e = IsWantOfMemory e ⊎ IsRefusedSo how site look (refusal_of e)

-- row by row
abbrev pub AllResolved : {A : Type 0} → List (Row A) → Site → Look → A → Type 0
AllResolved [] site look a = Unit {0}
AllResolved (r ∷ rs) site look a = IsResolved r.how site (λ q. look (field r.key ∷ q)) (r.shows a) × AllResolved rs site look a

-- the row of this key is refused
abbrev pub IsCauseAt : {A : Type 0} → List (Row A) → Site → Look → List ℕ → Error → Type 0
IsCauseAt rows site look k e = IsCause (how_at rows k) site (λ q. look (field k ∷ q)) e

abbrev pub option_shown : {A : Type 0} → (A → KeyPath → Option Answer) → Option A → KeyPath → Option Answer
option_shown shows None p = None
option_shown shows (Some a) p = shows a p

-- a map, name by name
abbrev pub by_name : Resolving → Resolving
by_name how site look [] = Ok None
by_name how site look (field k ∷ p) = Ok None
by_name how site look (name k ∷ p) = how site (λ q. look (name k ∷ q)) p

abbrev pub names_at : {A : Type 0} → (A → KeyPath → Option Answer) → BTreeMap (String Global) A → KeyPath → Option Answer
names_at shows m [] = None
names_at shows m (field k ∷ p) = None
names_at shows m (name k ∷ p) = option_shown shows (get_by_text m k) p

-- a table that is a member of a map; nothing where there is none
abbrev pub entry_in : {A : Type 0} → List (Row A) → Option Cell → Resolving
entry_in rows None site look p = Ok None
entry_in rows (Some c) site look [] = Ok (Some entry)
entry_in rows (Some c) site look (field k ∷ p) = how_at rows k site (λ q. look (field k ∷ q)) p
entry_in rows (Some c) site look (name k ∷ p) = Ok None

abbrev pub by_entry : {A : Type 0} → List (Row A) → Resolving
by_entry rows site look p = entry_in rows (look []) site look p

abbrev pub entry_shown : {A : Type 0} → List (Row A) → A → KeyPath → Option Answer
entry_shown rows a [] = Some entry
entry_shown rows a (field k ∷ p) = shown_in rows a k p
entry_shown rows a (name k ∷ p) = None
