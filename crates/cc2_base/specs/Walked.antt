-- The configuration files above a directory, nearest first, and then the cargo home's
-- (Cargo Reference, "Hierarchical structure").
use Rattle.std.specs.Prelude.{◌≡◌, ◌+◌, ℕ, length, List, [], ◌∷◌, ◌++◌, Option, Some, None, is_some, String, Result, Ok, Err, option_map, if◌then◌else◌, string_bytes, codes}
use Rattle.std.specs.List.{filter_map, list_any}
use Rattle.std.specs.Option.{option_to_list}
use Rattle.cc2_base.specs.Told.{Tree}
use Rattle.cc2_base.specs.Paths.{joined, same_path, ancestors_of}
use Rattle.cc2_base.specs.PathSteps.{ancestors_left}
use Rattle.cc2_error.specs.Causes.{Refusal}
use Rattle.cc2_error.specs.Outcomes.{IsWantOfMemory}
use Rattle.cc2_error.specs.declared.error.Error.{Error}
use Rattle.cc2_base.specs.declared.walk.Walk.{Walk}

-- a file, where it is there
abbrev pub where_there : Tree → List ℕ → Option (List ℕ)
where_there fs path = if is_some (fs path) then Some path else None

abbrev pub or_else : Option (List ℕ) → Option (List ℕ) → Option (List ℕ)
or_else (Some path) other = Some path
or_else None other = other

-- a folder's configuration file: `config` where it is there, else `config.toml` where it is there
abbrev pub chosen : Tree → List ℕ → Option (List ℕ)
chosen fs folder = or_else (where_there fs (joined folder (codes "config"))) (where_there fs (joined folder (codes "config.toml")))

-- the folder of a directory's configuration
abbrev pub folder_of : List ℕ → List ℕ
folder_of dir = joined dir (codes ".cargo")

abbrev pub chosen_for : Tree → Option (List ℕ) → List (List ℕ)
chosen_for fs None = []
chosen_for fs (Some home) = option_to_list (chosen fs home)

-- the home, unless it is the same path as this folder
abbrev pub home_apart_from : List ℕ → Option (List ℕ) → Option (List ℕ)
home_apart_from folder None = None
home_apart_from folder (Some home) = if same_path folder home then None else Some home

-- the home, unless it is the same path as some directory's own folder
abbrev pub home_apart : List (List ℕ) → Option (List ℕ) → Option (List ℕ)
home_apart dirs None = None
home_apart dirs (Some home) = if list_any (λ dir. same_path (folder_of dir) home) dirs then None else Some home

-- what is chosen for each of these directories, without the nothings, and then for the home
abbrev pub walked_over : Tree → List (List ℕ) → Option (List ℕ) → List (List ℕ)
walked_over fs dirs home = filter_map (λ dir. chosen fs (folder_of dir)) dirs ++ chosen_for fs (home_apart dirs home)

-- the files of a directory, its ancestors and the home
abbrev pub walked : Tree → List ℕ → Option (List ℕ) → List (List ℕ)
walked fs dir home = walked_over fs (ancestors_of dir) home

-- the same with the machine's cargo home, where it is known
abbrev pub walked_with : Tree → List ℕ → Result (Option (List ℕ)) Refusal → Result (List (List ℕ)) Refusal
walked_with fs dir (Ok home) = Ok (walked fs dir home)
walked_with fs dir (Err refusal) = Err refusal

-- what a walk has left
abbrev pub left : {F : Type 0} → Walk F → Tree → List (List ℕ)
left w fs = walked_over fs (ancestors_left w.ancestors) (option_map string_bytes w.home)

-- how many homes there are
abbrev pub home_count : {A : Type 0} → Option A → ℕ
home_count None = 0
home_count (Some home) = 1

-- at most this many items are left: one for each ancestor, and one for the home
abbrev pub most_items : {F : Type 0} → Walk F → ℕ
most_items w = length (ancestors_left w.ancestors) + home_count w.home

-- the files that a walk looks for
abbrev pub files_of : {F : Type 0} → Walk F → F
files_of w = w.files.now

-- the next item is the first of what is left; or memory ran out, and nothing more comes
abbrev pub GivesNext : {A : Type 0} → List (List ℕ) → Option (Result (String A) Error) → List (List ℕ) → Type 0
GivesNext before None after = (before ≡ []) × (after ≡ [])
GivesNext before (Some (Ok path)) after = before ≡ string_bytes path ∷ after
GivesNext before (Some (Err e)) after = IsWantOfMemory e × (after ≡ [])

-- after an item that is none or a refusal nothing more comes, and a refusal is out of memory
abbrev pub Ends : {A F : Type 0} → Option (Result (String A) Error) → Walk F → Type 0
Ends None after = most_items after ≡ 0
Ends (Some (Ok path)) after = Unit
Ends (Some (Err e)) after = IsWantOfMemory e × (most_items after ≡ 0)
