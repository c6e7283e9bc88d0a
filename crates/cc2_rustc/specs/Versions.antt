-- The version and the host in what `rustc -vV` and `cargo -vV` say.
use Rattle.std.specs.Prelude.{ℕ, ◌==◌, ◌||◌, ◌&&◌, not, Bool, if◌then◌else◌, eqb, List, [], ◌∷◌, map, length, drop, codes, bytes_eq, Option, Some, None, option_map}
use Rattle.std.specs.List.{position_or_len, before_first, after_first, starts_with}
use Rattle.std.specs.Option.{option_to_list}
use Rattle.std.specs.Str.Lines.{lines}
use Rattle.cc2_value.specs.Decimals.{uint32_text}

-- two or three numbers, and whether it is one of the nightly channel or of a build from source
pub record Version : Type 0 where
  pub major : ℕ
  pub minor : ℕ
  pub patch : Option ℕ
  pub nightly : Bool

abbrev pub option_or : {A : Type 0} → Option A → Option A → Option A
option_or None other = other
option_or (Some a) other = Some a

-- what follows the prefix, where the line has it
abbrev pub rest_of : List ℕ → List ℕ → Option (List ℕ)
rest_of prefix line = if starts_with eqb line prefix then Some (drop (length prefix) line) else None

-- the same of the first line that has it
abbrev pub behind : List ℕ → List (List ℕ) → Option (List ℕ)
behind prefix [] = None
behind prefix (line ∷ lines) = option_or (rest_of prefix line) (behind prefix lines)

abbrev pub is_dot : ℕ → Bool
is_dot byte = byte == 46

abbrev pub is_dash : ℕ → Bool
is_dash byte = byte == 45

-- what follows the first dot
abbrev pub behind_dot : List ℕ → Option (List ℕ)
behind_dot text = if position_or_len is_dot text == length text then None else Some (after_first is_dot text)

-- the pieces of a text that is cut at its first dot
abbrev pub cut_once : List ℕ → List (List ℕ)
cut_once text = before_first is_dot text ∷ option_to_list (behind_dot text)

abbrev pub cut_rest : Option (List ℕ) → List (List ℕ)
cut_rest None = []
cut_rest (Some rest) = cut_once rest

-- at its first two dots
abbrev pub cut_twice : List ℕ → List (List ℕ)
cut_twice text = before_first is_dot text ∷ cut_rest (behind_dot text)

abbrev pub is_nightly : List ℕ → Bool
is_nightly channel = bytes_eq channel (codes "nightly") || bytes_eq channel (codes "dev")

-- two or three numbers
abbrev pub numbered : Bool → List (Option ℕ) → Option Version
numbered nightly (Some major ∷ (Some minor ∷ [])) =
    Some (record { major = major; minor = minor; patch = None; nightly = nightly })
numbered nightly (Some major ∷ (Some minor ∷ (Some patch ∷ []))) =
    Some (record { major = major; minor = minor; patch = Some patch; nightly = nightly })
numbered nightly pieces = None

-- the same of their text, with dots between them
abbrev pub numbered_text : Bool → List ℕ → Option Version
numbered_text nightly text = numbered nightly (map uint32_text (cut_twice text))

-- a release: its numbers, and after the first `-` its channel
abbrev pub release : List ℕ → Option Version
release text = numbered_text (is_nightly (after_first is_dash text)) (before_first is_dash text)

abbrev pub option_then : {A B : Type 0} → Option A → (A → Option B) → Option B
option_then None f = None
option_then (Some a) f = f a

abbrev pub release_in : List ℕ → Option Version
release_in text = option_then (behind (codes "release: ") (lines text)) release

abbrev pub host_in : List ℕ → Option (List ℕ)
host_in text = behind (codes "host: ") (lines text)

-- as a stable one where `RUSTC_BOOTSTRAP` says so
abbrev pub stable_if : Bool → Version → Version
stable_if stable v = record { major = v.major; minor = v.minor; patch = v.patch; nightly = not stable && v.nightly }

abbrev pub rustc_version_in : Bool → List ℕ → Option Version
rustc_version_in stable text = option_map (stable_if stable) (release_in text)

-- of three numbers alone
abbrev pub whole : Version → Option Version
whole v = option_map (λ _. v) v.patch

abbrev pub cargo_version_in : List ℕ → Option Version
cargo_version_in text = option_then (release_in text) whole
