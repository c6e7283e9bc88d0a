-- The overrides of `--config`: a file where there is one at the path, else a TOML text.
use Rattle.std.specs.Prelude.{ℕ, List, [], ◌∷◌, codes, length, ◌==◌, is_some, if◌then◌else◌}
use Rattle.cc2_base.specs.Paths.{joined}
use Rattle.cc2_base.specs.Told.{Tree}
use Rattle.cc2_cli.specs.Choices.{Choice, choice_of}

-- the name of the pair that an override is
abbrev pub name_by : Tree → List ℕ → List ℕ → List ℕ
name_by fs dir config =
    if length config == 0 then codes "--config"
    else if is_some (fs (joined dir config)) then codes "--config-file"
    else codes "--config"

-- a file, where something is at the path, looked up from the directory; else a TOML text
abbrev pub choice_by : Tree → List ℕ → List ℕ → Choice
choice_by fs dir config = choice_of (name_by fs dir config) config

-- the words of its pair
abbrev pub pair_by : Tree → List ℕ → List ℕ → List (List ℕ)
pair_by fs dir config = name_by fs dir config ∷ (config ∷ [])
