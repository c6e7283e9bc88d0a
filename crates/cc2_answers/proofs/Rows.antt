-- A worked example, computed on the definitions: the lines of two files.
use Rattle.std.proofs.Common.{◌≡◌, [], ◌∷◌, ◌++◌, Option, Some, None, Result, Ok, Err, codes, bytes_eq, cond, refl}
use Rattle.toml.proofs.OnLiterals.{toml_on_literals}
use Rattle.cc2_base.specs.Told.{Tree}
use Rattle.cc2_value.specs.Cells.{KeyPath, Cell, joined, cells_at}
use Rattle.cc2_de.specs.ConfigFile.{file_at}
use Rattle.cc2_cli.specs.Lines.{build_lines}

abbrev two : Tree
two path =
    cond (bytes_eq path (codes "/p/q/.cargo/config.toml")) (Some (Some (codes "[build]\nrustflags = []\n")))
    (cond (bytes_eq path (codes "/p/.cargo/config.toml")) (Some (Some (codes "[build]\ntarget-dir = \"a\\\"b\"\nrustflags = []\n"))) None)

abbrev cell_of : {E : Type 0} → Result (Option Cell) E → Option Cell
cell_of (Ok cell) = cell
cell_of (Err e) = None

-- the cells of both files
abbrev merged : KeyPath → Option Cell
merged p = cell_of (joined (cells_at (file_at two) p (codes "/p/q/.cargo/config.toml" ∷ codes "/p/.cargo/config.toml" ∷ [])))

pub lines_of_two_files : build_lines merged ≡ codes "build.target-dir = \"a\\\"b\" # /p/.cargo/config.toml\n" ++ codes "build.rustflags = []\n"
unfolding toml_on_literals
lines_of_two_files = refl
