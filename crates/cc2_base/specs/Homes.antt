-- The homes of Cargo and of rustup: what their variable says, else a folder of the home.
use Rattle.std.specs.Prelude.{ℕ, List, [], ◌∷◌, Option, Some, None, option_map, Result, Ok, Err, codes}
use Rattle.cc2_error.specs.Causes.{Refusal}
use Rattle.cc2_base.specs.Paths.{joined}
use Rattle.cc2_base.specs.EnvTexts.{env_text_of}
use Rattle.cc2_base.specs.Machines.{variable_of, home_of}
use Rattle.cc2_base.specs.declared.machine.Machine.{Machine}

-- the text of the variable, seen from the directory
abbrev pub seen_from : List ℕ → Result (List ℕ) Refusal → Result (Option (List ℕ)) Refusal
seen_from cwd (Ok text) = Ok (Some (joined cwd text))
seen_from cwd (Err refusal) = Err refusal

-- by the value of the variable of this name: none and the empty one say nothing
abbrev pub home_by : List ℕ → List ℕ → List ℕ → Option (List ℕ) → Option (List ℕ) → Result (Option (List ℕ)) Refusal
home_by name folder cwd home None = Ok (option_map (λ h. joined h folder) home)
home_by name folder cwd home (Some []) = Ok (option_map (λ h. joined h folder) home)
home_by name folder cwd home (Some (b ∷ rest)) = seen_from cwd (env_text_of name (b ∷ rest))

abbrev pub home_at : List ℕ → List ℕ → List ℕ → Machine → Result (Option (List ℕ)) Refusal
home_at name folder cwd m = home_by name folder cwd (home_of m) (variable_of m name)

-- Cargo's: `CARGO_HOME` joined to the directory, else `.cargo` of the home
unfoldable pub cargo_home_of : List ℕ → Machine → Result (Option (List ℕ)) Refusal
cargo_home_of = home_at (codes "CARGO_HOME") (codes ".cargo")

-- rustup's: `RUSTUP_HOME` joined to the directory, else `.rustup` of the home
unfoldable pub rustup_home_of : List ℕ → Machine → Result (Option (List ℕ)) Refusal
rustup_home_of = home_at (codes "RUSTUP_HOME") (codes ".rustup")
