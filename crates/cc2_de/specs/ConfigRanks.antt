-- What variables make of a configuration: of its tables, by their ranks, and of its marks.
-- Cargo Reference, Configuration, environment variables.
use Rattle.std.specs.Prelude.{[], ◌∷◌, Option}
use Rattle.cc2_value.specs.Cells.{KeyPath, Cell}
use Rattle.cc2_env.specs.Kept.{Variables}
use Rattle.cc2_env.specs.Ranked.{Ranking, rows_cells, rows_refusals}
use Rattle.cc2_env.specs.Overrides.{is_overridden}
use Rattle.cc2_env.specs.Ranks.{config_ranks}
use Rattle.cc2_de.specs.Config.{marks_at}

-- the marks are those of the variables, whatever was there
abbrev pub config_rank_cells : Variables → (KeyPath → Option Cell) → KeyPath → Option Cell
config_rank_cells vars look [] = marks_at (is_overridden vars).0 (is_overridden vars).1
config_rank_cells vars look (k ∷ p) = rows_cells config_ranks vars look (k ∷ p)

-- how variables set a configuration
abbrev pub config_rank : Ranking
config_rank = record { cells = config_rank_cells; refusals = rows_refusals config_ranks }
