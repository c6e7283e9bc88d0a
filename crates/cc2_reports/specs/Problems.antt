-- A problem as it is reported.
use Rattle.std.specs.Prelude.{◌≡◌, ℕ, Bool, true, false, ◌&&◌, List, [], ◌∷◌, bytes_eq, map, Option, option_map, string_bytes}
use Rattle.cc2_reports.specs.declared.location.Span.{Span}
use Rattle.cc2_reports.specs.Lints.{name_of}
use Rattle.cc2_reports.specs.declared.lint.Lint.{Lint}
use Rattle.cc2_reports.specs.declared.report.Report.{Report}

pub record Problem : Type 0 where
  -- the path of the file
  pub file : List ℕ
  pub lint : Lint
  -- the keys that lead to it; none where it is the file's
  pub path : List (List ℕ)
  -- the piece of the file that it is about, if that is found
  pub span : Option Span
  -- the line of that piece, where it may be quoted
  pub line : Option (List ℕ)
  pub message : List ℕ
  pub help : Option (List ℕ)

abbrev pub problem_of : Report → Problem
problem_of r = record {
  file = string_bytes r.file;
  lint = r.lint;
  path = map string_bytes r.path.items;
  span = r.span;
  line = option_map string_bytes r.line;
  message = string_bytes r.message;
  help = option_map string_bytes r.help;
}

abbrev pub are_same_keys : List (List ℕ) → List (List ℕ) → Bool
are_same_keys [] [] = true
are_same_keys (k ∷ ks) (l ∷ ls) = bytes_eq k l && are_same_keys ks ls
are_same_keys ks ls = false

abbrev pub problems_of : List Report → List Problem
problems_of reports = map problem_of reports

-- it says the same of the same key of the same file
abbrev pub says_same : Problem → Problem → Bool
says_same p q =
    bytes_eq p.message q.message && are_same_keys p.path q.path && bytes_eq (name_of p.lint) (name_of q.lint)
    && bytes_eq p.file q.file

-- what a problem is about: the file, the lint, and the keys that lead to it; none where it is the file's
pub record Subject : Type 0 where
  pub file : List ℕ
  pub lint : Lint
  pub keys : List (List ℕ)

abbrev pub subject_of : Report → Subject
subject_of r = record { file = string_bytes r.file; lint = r.lint; keys = map string_bytes r.path.items }

abbrev pub subjects_of : List Report → List Subject
subjects_of reports = map subject_of reports

-- the report is about this
abbrev pub IsAbout : Subject → Report → Type 0
IsAbout s r = subject_of r ≡ s

-- of a file this lint at these keys
abbrev pub subject_at : List ℕ → Lint → List (List ℕ) → Subject
subject_at file l keys = record { file = file; lint = l; keys = keys }

-- the same lint and file at these keys
abbrev pub with_keys : List (List ℕ) → Subject → Subject
with_keys keys s = record { file = s.file; lint = s.lint; keys = keys }

-- the report is about this, with this message and help
pub record Says (s : Subject) (message : List ℕ) (help : Option (List ℕ)) (r : Report) : Type 0 where
  pub subject : subject_of r ≡ s
  pub message_is : string_bytes r.message ≡ message
  pub help_is : option_map string_bytes r.help ≡ help

-- the report is that of another one at these keys
abbrev pub IsAt : List (List ℕ) → Report → Report → Type 0
IsAt keys was r =
    Says (with_keys keys (subject_of was)) (string_bytes was.message) (option_map string_bytes was.help) r

-- it says the same of the same
abbrev pub SaysTheSame : Report → Report → Type 0
SaysTheSame was r = Says (subject_of was) (string_bytes was.message) (option_map string_bytes was.help) r
