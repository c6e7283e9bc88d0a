-- What the words after `several` ask.
use Rattle.std.specs.Prelude.{◌≡◌, ℕ, Bool, true, false, not, ◌&&◌, List, [], ◌∷◌, codes, bytes_eq, Option, Some, None, if◌then◌else◌}
use Rattle.std.specs.List.{list_any}
use Rattle.cc2_cli.specs.Choices.{Choice, are_pairs, choices_of}

-- one of several questions of a directory
pub data Item : Type 0 where
  -- the table `build`, resolved
  build : Item
  -- the command for rustc
  rustc : Item
  -- the triple of the host
  host : Item
  -- the settings of the target of a text
  target : List ℕ → Item
  -- the values that rustc prints for the target of a text, of a cfg name
  cfg : List ℕ → List ℕ → Item
  -- the version of rustc
  rustc_version : Item
  -- the version of cargo
  cargo_version : Item

-- the item that a word alone is
abbrev pub item_named : List ℕ → Option Item
item_named word =
    if bytes_eq word (codes "build") then Some build
    else (if bytes_eq word (codes "rustc") then Some rustc
    else (if bytes_eq word (codes "host") then Some host
    else (if bytes_eq word (codes "rustc-version") then Some rustc_version
    else (if bytes_eq word (codes "cargo-version") then Some cargo_version else None))))

-- an item in front of what was read
abbrev pub with_item : Item → List Item × List (List ℕ) → List Item × List (List ℕ)
with_item item read = (item ∷ read.0, read.1)

-- the same, or none in front of these words
abbrev pub in_front : Option Item → List Item × List (List ℕ) → List (List ℕ) → List Item × List (List ℕ)
in_front None read words = ([], words)
in_front (Some item) read words = with_item item read

-- The items that words begin with, and the words after them. Of several words are `target` with the text after it, and `cfg`
-- with a target's text and a name.
abbrev pub parted : List (List ℕ) → List Item × List (List ℕ)
parted [] = ([], [])
parted (word ∷ []) = in_front (item_named word) ([], []) (word ∷ [])
parted (word ∷ (text ∷ [])) =
    if bytes_eq word (codes "target") then with_item (target text) ([], [])
    else in_front (item_named word) (parted (text ∷ [])) (word ∷ (text ∷ []))
parted (word ∷ (text ∷ (name ∷ words))) =
    if bytes_eq word (codes "target") then with_item (target text) (parted (name ∷ words))
    else (if bytes_eq word (codes "cfg") then with_item (cfg text name) (parted words)
    else in_front (item_named word) (parted (text ∷ (name ∷ words))) (word ∷ (text ∷ (name ∷ words))))

-- items, and under which choices
pub record Several : Type 0 where
  pub items : List Item
  pub choices : List Choice

-- items with words after them: at least one item, and pairs
abbrev pub several_of : List Item → List (List ℕ) → Option Several
several_of [] words = None
several_of (item ∷ items) words =
    if are_pairs words then Some (record { items = item ∷ items; choices = choices_of words }) else None

-- what words ask; none where they are no question
abbrev pub items_in : List (List ℕ) → Option Several
items_in words = several_of (parted words).0 (parted words).1

-- the items that words begin with
abbrev pub items_of : List (List ℕ) → List Item
items_of words = (parted words).0

-- the item asks for the table `build`
abbrev pub is_build : Item → Bool
is_build build = true
is_build rustc = false
is_build host = false
is_build (target text) = false
is_build (cfg text name) = false
is_build rustc_version = false
is_build cargo_version = false

abbrev pub is_empty : List (List ℕ) → Bool
is_empty [] = true
is_empty (word ∷ words) = false

-- nothing is after the items, and none of them asks for the table `build`
abbrev pub are_alone : List Item × List (List ℕ) → Bool
are_alone read = is_empty read.1 && not (list_any is_build read.0)

-- the items that words are: at least one, and none of them asks for the table `build`
abbrev pub items_alone : List (List ℕ) → Option (List Item)
items_alone words = if are_alone (parted words) && not (is_empty words) then Some (items_of words) else None

-- words ask the items that they begin with under these pairs
abbrev pub AsksUnder : List (List ℕ) → List (List ℕ) → Type 0
AsksUnder words pairs = items_in words ≡ Some (record { items = items_of words; choices = choices_of pairs })
