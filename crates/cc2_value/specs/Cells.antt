-- What a configuration has at a key path, and what several configurations make of it.
-- Cargo Reference, Configuration, hierarchical structure: of numbers, texts and truth values the
-- nearest file's takes precedence; arrays are joined, the nearest file's items last.
use Rattle.std.specs.Prelude.{◌≡◌, ℤ, ℕ, Bool, true, false, List, [], ◌∷◌, reverse, flat_map, filter_map, find, Option, Some, None, Result, Ok, Err, if◌then◌else◌}
use Rattle.std.specs.List.{list_any}
use Rattle.cc2_error.specs.declared.error.Shape.{Shape}
use Rattle.cc2_error.specs.declared.error.Shape.TheVariants.{String, Array, Table}

-- a key of a table: one of its own fields, or a name that the file picks
pub data Key : Type 0 where
  field : List ℕ → Key
  name : List ℕ → Key

-- the way to a cell, from the value that holds it
abbrev pub KeyPath : Type 0
KeyPath = List Key

abbrev pub key_text : Key → List ℕ
key_text (field k) = k
key_text (name k) = k

-- where a value was set
pub data Origin : Type 0 where
  file : List ℕ → Origin
  variable : List ℕ → Origin
  command_line : Option (List ℕ) → Origin

-- a text and where it was set
pub record Word : Type 0 where
  pub text : List ℕ
  pub origin : Option Origin

-- what a provider of credentials is
pub data Provider : Type 0 where
  builtin : List ℕ → Provider
  -- the program with its arguments, and whether they came as an array
  token_from_stdout : Bool → Word → List Word → Provider
  plugin : Bool → Word → List Word → Provider
  maybe_alias : Word → Provider

pub data Payload : Type 0 where
  number : ℤ → Payload
  truth : Bool → Payload
  word : List ℕ → Payload
  -- a program with its arguments, and whether they came as an array
  command : Bool → Word → List Word → Payload
  provider : Bool → Provider → Payload

-- a single value and where it was set
pub record Setting : Type 0 where
  pub payload : Payload
  pub origin : Option Origin

pub data Cell : Type 0 where
  Single : Setting → Cell
  -- a text, as its words
  Text : List Word → Cell
  -- an array
  Items : List Word → Cell
  -- the providers that all files list
  Joined : List Setting → Cell
  -- there is a table here, as a member of a map
  Entry : Cell
  -- what was here doesn't decode, and isn't kept
  Undecoded : Cell
  -- whether the flags, and the doc flags, of targets are overridden
  Marks : Bool → Bool → Cell

pub data Kind : Type 0 where
  single : Kind
  text : Kind
  items : Kind
  joins : Kind
  table : Kind
  marks : Kind

abbrev pub kind : Cell → Kind
kind (Single s) = single
kind (Text ws) = text
kind (Items ws) = items
kind (Joined ss) = joins
kind Entry = table
kind Undecoded = table
kind (Marks b d) = marks

-- what a refusal calls it
abbrev pub shape : Kind → Shape
shape single = String
shape text = String
shape items = Array
shape joins = Array
shape table = Table
shape marks = Table

-- whether the two can't be joined
abbrev pub differ : Kind → Kind → Bool
differ single single = false
differ text text = false
differ items items = false
differ joins joins = false
differ table table = false
differ marks marks = false
differ _ _ = true

abbrev pub items_of : Cell → List Word
items_of (Items ws) = ws
items_of _ = []

abbrev pub settings_of : Cell → List Setting
settings_of (Joined ss) = ss
settings_of _ = []

abbrev pub is_entry : Cell → Bool
is_entry Entry = true
is_entry _ = false

abbrev pub flags_mark : Cell → Bool
flags_mark (Marks b d) = b
flags_mark _ = false

abbrev pub doc_flags_mark : Cell → Bool
doc_flags_mark (Marks b d) = d
doc_flags_mark _ = false

-- what a cell makes with weaker ones of its kind, the strongest of them first
abbrev pub made : Cell → List Cell → Cell
made (Single s) cs = Single s
made (Text ws) cs = Text ws
made (Items ws) cs = Items (flat_map items_of (reverse (Items ws ∷ cs)))
made (Joined ss) cs = Joined (flat_map settings_of (reverse (Joined ss ∷ cs)))
made Entry cs = Entry
made Undecoded cs = if list_any is_entry cs then Entry else Undecoded
made (Marks b d) cs = Marks (list_any flags_mark (Marks b d ∷ cs)) (list_any doc_flags_mark (Marks b d ∷ cs))

-- the same where one of the weaker ones may be of another kind
abbrev pub judged : Cell → List Cell → Option Cell → Result (Option Cell) (Shape × Shape)
judged c cs None = Ok (Some (made c cs))
judged c cs (Some d) = Err (shape (kind c), shape (kind d))

-- what the cells at one key path make, the strongest first, or the two shapes that meet
abbrev pub joined : List Cell → Result (Option Cell) (Shape × Shape)
joined [] = Ok None
joined (c ∷ cs) = judged c cs (find (λ d. differ (kind c) (kind d)) cs)

-- the cells that are there
abbrev pub present : List (Option Cell) → List Cell
present os = filter_map (λ o. o) os

-- the cells at a key path
abbrev pub cells_at : {A : Type 0} → (A → KeyPath → Option Cell) → KeyPath → List A → List Cell
cells_at look p xs = filter_map (λ x. look x p) xs

-- m is the pointwise map of xs, the strongest first
abbrev pub IsMapOf : {A : Type 0} → (A → KeyPath → Option Cell) → List A → (KeyPath → Option Cell) → Type 0
IsMapOf look xs m = (p : KeyPath) → joined (cells_at look p xs) ≡ Ok (m p)

-- the value c shows the pointwise map of the values xs, the strongest first
abbrev pub IsPointwise : {A : Type 0} → (A → KeyPath → Option Cell) → List A → A → Type 0
IsPointwise look xs c = (p : KeyPath) → joined (cells_at look p xs) ≡ Ok (look c p)

-- two shapes meet at a key path
abbrev pub IsMixedAt : {A : Type 0} → (A → KeyPath → Option Cell) → List A → KeyPath → Type 0
IsMixedAt look xs p = (shapes : Shape × Shape) × (joined (cells_at look p xs) ≡ Err shapes)

-- there is no pointwise map
abbrev pub IsMixed : {A : Type 0} → (A → KeyPath → Option Cell) → List A → Type 0
IsMixed look xs = (p : KeyPath) × IsMixedAt look xs p
