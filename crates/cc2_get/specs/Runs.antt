-- What a run writes, and the status that it ends with, where its words are no question.
use Rattle.std.specs.Prelude.{◌≡◌, ℕ, List, codes}
use Rattle.cc2_cli.specs.GetWords.{Task, nothing, build, rustc, host, target, unknown}

abbrev pub usage : List ℕ
usage = codes "usage: cc2_get DIR (build | target T | rustc | host) [--config TEXT | --config-file PATH]...\n"

-- the status after the usage line
abbrev pub usage_status : Task → ℕ
usage_status nothing = 0
usage_status (build dir) = 2
usage_status (rustc dir) = 2
usage_status (host dir) = 2
usage_status (target dir word) = 2
usage_status unknown = 2

-- whatever files there are, no words write the usage line and end with 0, and words that are no question with 2
abbrev pub GivesUsage : Task → List ℕ → ℕ → Type 0
GivesUsage nothing text status = (text ≡ usage) × (status ≡ 0)
GivesUsage (build dir) text status = Unit {0}
GivesUsage (rustc dir) text status = Unit {0}
GivesUsage (host dir) text status = Unit {0}
GivesUsage (target dir word) text status = Unit {0}
GivesUsage unknown text status = (text ≡ usage) × (status ≡ 2)
