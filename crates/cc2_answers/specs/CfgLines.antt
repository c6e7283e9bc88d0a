-- How the values of a cfg name are printed.
use Rattle.std.specs.Prelude.{ℕ, List, codes}
use Rattle.cc2_cfg.specs.Meaning.{Atom}
use Rattle.cc2_rustc.specs.Values.{values_of}
use Rattle.cc2_cli.specs.CommandLines.{texts_lines}

-- a line for each value of the name that rustc printed, or one that says that there is none
abbrev pub cfg_lines : List ℕ → List Atom → List ℕ
cfg_lines name atoms = texts_lines (codes "cfg") (values_of name atoms)
