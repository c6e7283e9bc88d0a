-- What cargo and rustc answer to the questions for their versions and for the host, and what may be kept.
use Rattle.std.specs.Prelude.{◌≡◌, ℕ, Bool, is_some, if◌then◌else◌, List, Option, Some, None, option_map, Result, Ok, Err, ok_or, string_bytes, IsSome}
use Rattle.std.specs.Option.{option_copied}
use Rattle.cc2_error.specs.Causes.{Refusal, plain, version_output}
use Rattle.cc2_error.specs.Commands.{Command, command_of}
use Rattle.cc2_base.specs.ToldPrograms.{Answers}
use Rattle.cc2_rustc.specs.Said.{said, verbose}
use Rattle.cc2_rustc.specs.Shown.{of_rustc, of_cargo}
use Rattle.cc2_rustc.specs.Versions.{Version, host_in, rustc_version_in, cargo_version_in}
use Rattle.cc2_rustc.specs.declared.kept_versions.Asked.{Asked as CodeAsked}
use Rattle.cc2_rustc.specs.declared.kept_versions.Versions.{Versions}

-- who is asked
pub record Asked : Type 0 where
  -- the triple of the host that the caller chose
  pub host : Option (List ℕ)
  pub cargo : Command
  pub rustc : Command
  -- `RUSTC_BOOTSTRAP` is `-1`
  pub stable : Bool

-- what it said, where a version can be read in it
abbrev pub with_version : (List ℕ → Option Version) → Command → Result (List ℕ) Refusal → Result (List ℕ) Refusal
with_version read c (Ok text) = if is_some (read text) then Ok text else Err (plain (version_output c text))
with_version read c (Err refusal) = Err refusal

-- the answer of a program of whose version this is the way of reading
abbrev pub answered : (List ℕ → Option Version) → Answers → Command → Result (List ℕ) Refusal
answered read answers c = with_version read (verbose c) (said answers (verbose c))

abbrev pub version_or : (List ℕ → Option Version) → Command → Result (List ℕ) Refusal → Result Version Refusal
version_or read c (Ok text) = ok_or (read text) (plain (version_output c text))
version_or read c (Err refusal) = Err refusal

-- its version
abbrev pub version_said : (List ℕ → Option Version) → Answers → Command → Result Version Refusal
version_said read answers c = version_or read (verbose c) (said answers (verbose c))

-- the host in an answer
abbrev pub host_or_none : Result (List ℕ) Refusal → Option (List ℕ)
host_or_none (Ok text) = host_in text
host_or_none (Err refusal) = None

abbrev pub host_or : Command → Result (List ℕ) Refusal → Result (List ℕ) Refusal
host_or c (Ok text) = ok_or (host_in text) (plain (version_output c text))
host_or c (Err refusal) = Err refusal

abbrev pub cargo_host : Answers → Command → Option (List ℕ)
cargo_host answers cargo = host_or_none (answered cargo_version_in answers cargo)

abbrev pub rustc_host : Bool → Answers → Command → Result (List ℕ) Refusal
rustc_host stable answers rustc = host_or (verbose rustc) (answered (rustc_version_in stable) answers rustc)

abbrev pub host_unless : Option (List ℕ) → Result (List ℕ) Refusal → Result (List ℕ) Refusal
host_unless (Some host) other = Ok host
host_unless None other = other

-- the host that is reported: cargo's, where it answers, with a version and a host; else rustc's
abbrev pub told_host : Asked → Answers → Result (List ℕ) Refusal
told_host s answers = host_unless (cargo_host answers s.cargo) (rustc_host s.stable answers s.rustc)

-- the host: the chosen one, else the one that is reported
abbrev pub host_said : Asked → Answers → Result (List ℕ) Refusal
host_said s answers = host_unless s.host (told_host s answers)

abbrev pub rustc_version_said : Asked → Answers → Result Version Refusal
rustc_version_said s answers = version_said (rustc_version_in s.stable) answers s.rustc

abbrev pub cargo_version_said : Asked → Answers → Result Version Refusal
cargo_version_said s answers = version_said cargo_version_in answers s.cargo

-- ---- what is kept of the answers

abbrev pub IsKept : {A : Type 0} → Option A → Result A Refusal → Type 0
IsKept {A} kept stated = (a : A) → kept ≡ Some a → stated ≡ Ok a

-- the first that is found stays
abbrev pub kept_or : {T : Type 0} → Option T → T → Option T
kept_or None found = Some found
kept_or (Some kept) found = Some kept

-- what is kept is what these programs answer; so nothing is
pub record AgreesOnVersions (s : Asked) (answers : Answers) (kept : Versions) : Type 0 where
  pub host : IsKept (option_map string_bytes kept.host) (told_host s answers)
  pub rustc : IsKept (option_map of_rustc kept.rustc) (rustc_version_said s answers)
  pub cargo : IsKept (option_map of_cargo kept.cargo) (cargo_version_said s answers)

-- what was kept is kept
pub record KeepsVersions (was kept : Versions) : Type 0 where
  pub host : IsSome was.host → kept.host ≡ was.host
  pub rustc : IsSome was.rustc → kept.rustc ≡ was.rustc
  pub cargo : IsSome was.cargo → kept.cargo ≡ was.cargo

-- the same is kept
pub record IsSameVersions (was kept : Versions) : Type 0 where
  pub host : option_map string_bytes kept.host ≡ option_map string_bytes was.host
  pub rustc : kept.rustc ≡ was.rustc
  pub cargo : kept.cargo ≡ was.cargo

-- who the code asks
abbrev pub asked_of : CodeAsked → Asked
asked_of s = record {
  host = option_copied s.host;
  cargo = command_of s.cargo.now;
  rustc = command_of s.rustc.now;
  stable = s.is_stable;
}

-- the triple of the host, chosen or kept
abbrev pub known_host : Option (List ℕ) → Versions → Option (List ℕ)
known_host (Some host) kept = Some host
known_host None kept = option_map string_bytes kept.host
