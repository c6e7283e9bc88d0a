-- What has to be known next, and the paths that it may be about.
use Rattle.std.specs.Prelude.{◌≡◌, ◌+◌, ◌||◌, ℕ, Bool, true, false, List, [], ◌∷◌, ◌++◌, flat_map, Option, Some, None, Result, Ok, Err, is_none, string_bytes, codes, bytes_eq, All}
use Rattle.std.specs.Str.{byte}
use Rattle.cc2_error.specs.Causes.{Refusal}
use Rattle.cc2_error.specs.Commands.{Command, command_of}
use Rattle.cc2_base.specs.Homes.{cargo_home_of}
use Rattle.cc2_base.specs.Paths.{ancestors_of, joined}
use Rattle.cc2_base.specs.declared.machine.Machine.{Machine}
use Rattle.cc2_ask.specs.Fields.{field_bytes, list_bytes}
use Rattle.cc2_ask.specs.Records.{Known, reads, unreadable, unread, absent}
use Rattle.cc2_ask.specs.Givens.{Given, KnownPaths}
use Rattle.cc2_ask.specs.declared.need.Need.{Need as CodeNeed}
use Rattle.cc2_ask.specs.declared.need.Need.TheVariants as code

pub data Need : Type 0 where
  -- whether anything is at a path
  exists : List ℕ → Need
  -- what is at a path
  content : List ℕ → Need
  -- what a command answers
  answer : Command → Need

abbrev pub need_view : CodeNeed → Need
need_view (code.Exists path) = exists (string_bytes path)
need_view (code.Content path) = content (string_bytes path)
need_view (code.Answer command) = answer (command_of command)

abbrev pub is_unread : Option Known → Bool
is_unread None = true
is_unread (Some unread) = true
is_unread (Some _) = false

-- the request doesn't give it
abbrev pub is_new : Given → Need → Bool
is_new g (exists path) = is_none (g.paths path)
is_new g (content path) = is_unread (g.paths path)
is_new g (answer c) = is_none (g.runs c.program c.args)

-- the bytes of a need in a reply
abbrev pub need_bytes : Need → List ℕ
need_bytes (exists path) = byte "E" ∷ field_bytes path
need_bytes (content path) = byte "R" ∷ field_bytes path
need_bytes (answer c) = byte "P" ∷ (field_bytes c.program ++ list_bytes c.args)

-- two files of a folder
abbrev pub two_files : List ℕ → List ℕ → List ℕ → List (List ℕ)
two_files first second folder = joined folder first ∷ joined folder second ∷ []

-- the files of configuration below a directory
abbrev pub files_below : List ℕ → List (List ℕ)
files_below dir = two_files (codes ".cargo/config") (codes ".cargo/config.toml") dir

-- a cargo home; none where it is refused
abbrev pub home_unless_refused : Result (Option (List ℕ)) Refusal → Option (List ℕ)
home_unless_refused (Ok home) = home
home_unless_refused (Err refusal) = None

abbrev pub files_in_home : Option (List ℕ) → List (List ℕ)
files_in_home None = []
files_in_home (Some home) = two_files (codes "config") (codes "config.toml") home

-- the files at which the walk from a directory looks: those of the directory, of each above it, and of the cargo home
abbrev pub candidates_of : List ℕ → Machine → List (List ℕ)
candidates_of dir machine = flat_map files_below (ancestors_of dir) ++ files_in_home (home_unless_refused (cargo_home_of dir machine))

-- the path is one of these
abbrev pub is_listed : List ℕ → List (List ℕ) → Bool
is_listed path [] = false
is_listed path (p ∷ ps) = bytes_eq path p || is_listed path ps

-- how many replies may still ask about a path: one whether anything is there, and one what
abbrev pub left_of : Option Known → ℕ
left_of None = 2
left_of (Some unread) = 1
left_of (Some (reads bytes)) = 0
left_of (Some unreadable) = 0
left_of (Some absent) = 0

-- how many replies may still ask about some paths
abbrev pub left_in : KnownPaths → List (List ℕ) → ℕ
left_in known [] = 0
left_in known (path ∷ paths) = left_of (known path) + left_in known paths

-- each path is one of these
abbrev pub AreListed : List (List ℕ) → List (List ℕ) → Type 0
AreListed paths qs = All (λ q. is_listed q paths ≡ true) qs

-- a need for a path is for one of these; what a command answers may be needed of any command
abbrev pub is_need_of : List (List ℕ) → Need → Bool
is_need_of paths (exists path) = is_listed path paths
is_need_of paths (content path) = is_listed path paths
is_need_of paths (answer command) = true

abbrev pub AreNeedsOf : List (List ℕ) → List Need → Type 0
AreNeedsOf paths ns = All (λ n. is_need_of paths n ≡ true) ns
