-- What a request gives, and the worlds that agree with it: trees of files, and answers of programs. What a request doesn't give
-- may be anything in them.
use Rattle.std.specs.Prelude.{◌≡◌, ℕ, true, List, [], ◌∷◌, ◌++◌, Option, Some, None, is_some, option_map, bytes_eq, if◌then◌else◌}
use Rattle.std.proofs.Common.{refl}
use Rattle.cc2_error.specs.Commands.{Command, is_command}
use Rattle.cc2_base.specs.Told.{Content, Tree}
use Rattle.cc2_base.specs.ToldPrograms.{Answers, Output}
use Rattle.cc2_ask.specs.Records.{Known, reads, unreadable, unread, absent, Record, word, directory, home, variable, path, run, state, records_of}

-- what is known of each path; none where nothing is
abbrev pub KnownPaths : Type 0
KnownPaths = List ℕ → Option Known

-- what is known of each command; none where nothing is
abbrev pub KnownRuns : Type 0
KnownRuns = List ℕ → List (List ℕ) → Option (Option Output)

pub record Given : Type 0 where
  -- the words of the question
  pub words : List (List ℕ)
  -- the directory in which the process is
  pub dir : List ℕ
  -- the variables, each a name and a value
  pub variables : List (List ℕ × List ℕ)
  pub home_dir : Option (List ℕ)
  pub paths : KnownPaths
  pub runs : KnownRuns
  -- the state of a load, which is handed back
  pub state : Option (List ℕ)

-- no record gives nothing
abbrev pub nothing : Given
nothing = record { words = []; dir = []; variables = []; home_dir = None; paths = λ p. None; runs = λ program args. None; state = None }

abbrev pub with_path : List ℕ → Known → KnownPaths → KnownPaths
with_path p known paths q = if bytes_eq p q then Some known else paths q

abbrev pub with_run : Command → Option Output → KnownRuns → KnownRuns
with_run c output runs program args = if is_command c.program c.args program args then Some output else runs program args

-- with one record more: of what is said twice the later record holds, words and variables come after the others
abbrev pub with_record : Given → Record → Given
with_record g (word w) = record g { words = g.words ++ w ∷ [] }
with_record g (directory d) = record g { dir = d }
with_record g (home h) = record g { home_dir = Some h }
with_record g (variable name value) = record g { variables = g.variables ++ (name, value) ∷ [] }
with_record g (path p known) = record g { paths = with_path p known g.paths }
with_record g (run command output) = record g { runs = with_run command output g.runs }
with_record g (state bytes) = record g { state = Some bytes }

abbrev pub with_records : Given → List Record → Given
with_records g [] = g
with_records g (r ∷ rs) = with_records (with_record g r) rs

-- what is given beyond what is known by records, which may be none
abbrev pub given_behind : Given → Option (List Record) → Option Given
given_behind g records = option_map (with_records g) records

-- what the bytes of a request give; none where they are no request
abbrev pub given_of : List ℕ → Option Given
given_of bytes = given_behind nothing (records_of bytes)

-- the content of a path fits what is known of it
abbrev pub IsContentOf : Known → Content → Type 0
IsContentOf (reads bytes) content = content ≡ Some (Some bytes)
IsContentOf unreadable content = content ≡ Some None
IsContentOf unread content = is_some content ≡ true
IsContentOf absent content = content ≡ None

-- where nothing is known, any content fits
abbrev pub IsContentWhereKnown : Option Known → Content → Type 0
IsContentWhereKnown None content = Unit {0}
IsContentWhereKnown (Some known) content = IsContentOf known content

-- the tree has what is known of each path
abbrev pub AgreesOnPaths : KnownPaths → Tree → Type 0
AgreesOnPaths paths tree = (p : List ℕ) → IsContentWhereKnown (paths p) (tree p)

-- where nothing is known, a command may answer anything
abbrev pub IsOutputWhereKnown : Option (Option Output) → Option Output → Type 0
IsOutputWhereKnown None output = Unit {0}
IsOutputWhereKnown (Some known) output = output ≡ known

-- each command answers what is known of it
abbrev pub AgreesOnRuns : KnownRuns → Answers → Type 0
AgreesOnRuns runs answers = (program : List ℕ) (args : List (List ℕ)) → IsOutputWhereKnown (runs program args) (answers program args)

-- a content that fits
abbrev content_of : Known → Content
content_of (reads bytes) = Some (Some bytes)
content_of unreadable = Some None
content_of unread = Some None
content_of absent = None

abbrev known_content : Option Known → Content
known_content None = None
known_content (Some known) = content_of known

abbrev known_output : Option (Option Output) → Option Output
known_output None = None
known_output (Some output) = output

fits : (known : Option Known) → IsContentWhereKnown known (known_content known)
fits None = tt
fits (Some (reads bytes)) = refl
fits (Some unreadable) = refl
fits (Some unread) = refl
fits (Some absent) = refl

is_known : (known : Option (Option Output)) → IsOutputWhereKnown known (known_output known)
is_known None = tt
is_known (Some output) = refl

-- law: whatever is known, some tree agrees with it
pub some_tree_agrees : (paths : KnownPaths) → (tree : Tree) × AgreesOnPaths paths tree
some_tree_agrees paths = (λ p. known_content (paths p), λ p. fits (paths p))

-- law: whatever is known, some answers agree with it
pub some_answers_agree : (runs : KnownRuns) → (answers : Answers) × AgreesOnRuns runs answers
some_answers_agree runs = (λ program args. known_output (runs program args), λ program args. is_known (runs program args))
