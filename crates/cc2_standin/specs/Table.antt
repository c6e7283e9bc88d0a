-- What the stand-in answers to its words: the first line of a table that fits them.
-- rustc, Command-line Arguments: -vV, and --print cfg --target; Cargo Reference, cargo: -vV.
use Rattle.std.specs.Prelude.{ℕ, Bool, true, false, if◌then◌else◌, ◌&&◌, List, [], ◌∷◌, ◌-◌, length, drop, codes, bytes_eq, nat_eq}
use Rattle.std.specs.List.{list_any, ends_with}

-- what is written on standard output and on standard error, and the status
pub record Answer : Type 0 where
  pub stdout : List ℕ
  pub stderr : List ℕ
  pub status : ℕ

abbrev pub Words : Type 0
Words = List (List ℕ)

abbrev pub prints : List ℕ → Answer
prints text = record { stdout = text; stderr = []; status = 0 }

abbrev pub fails : List ℕ → ℕ → Answer
fails text status = record { stdout = []; stderr = text; status = status }

abbrev pub asks_word : List ℕ → Words → Bool
asks_word word words = list_any (λ w. bytes_eq w word) words

-- these four words are `--print cfg --target T`, and T passes the test
abbrev pub four_ask : (List ℕ → Bool) → Words → Bool
four_ask test (print ∷ (cfg ∷ (option ∷ (target ∷ [])))) =
    bytes_eq print (codes "--print") && (bytes_eq cfg (codes "cfg") && (bytes_eq option (codes "--target") && test target))
four_ask test (print ∷ (cfg ∷ (option ∷ (target ∷ (more ∷ words))))) = false
four_ask test (print ∷ (cfg ∷ (option ∷ []))) = false
four_ask test (print ∷ (cfg ∷ [])) = false
four_ask test (print ∷ []) = false
four_ask test [] = false

-- the words end so
abbrev pub ask_cfg : (List ℕ → Bool) → Words → Bool
ask_cfg test words = four_ask test (drop (length words - 4) words)

abbrev pub is_none_said : Words → Bool
is_none_said [] = true
is_none_said (word ∷ words) = false

-- a line: which words it fits, and what is answered
abbrev pub Line : Type 0
Line = (Words → Bool) × Answer

abbrev pub table : List Line
table =
    (asks_word (codes "-vV"), prints (codes "release: 1.70.0-nightly\nhost: x86_64-unknown-linux-gnu\n"))
    ∷ (ask_cfg (λ target. bytes_eq target (codes "fail")), fails (codes "bad") 3)
    ∷ (ask_cfg (λ target. bytes_eq target (codes "bytes")), prints (255 ∷ []))
    ∷ (ask_cfg (λ target. ends_with nat_eq target (codes "b/x.json")), prints (codes "windows\n"))
    ∷ (ask_cfg (λ target. true), prints (codes "unix\ntarget_os=\"linux\"\ntarget_arch=\"x86_64\"\npanic=\"unwind\"\n"))
    ∷ (is_none_said, prints [])
    ∷ []

-- the first line that fits; where none does, nothing and 2
abbrev pub answer_by : List Line → Words → Answer
answer_by [] words = fails [] 2
answer_by (line ∷ lines) words = if line.0 words then line.1 else answer_by lines words

abbrev pub answer : Words → Answer
answer words = answer_by table words
