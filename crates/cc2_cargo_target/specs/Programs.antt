-- A program as Cargo 1.95 runs it on Linux. Cargo Reference, Configuration, executable paths with arguments.
use Rattle.std.specs.Prelude.{ℕ, if◌then◌else◌, List, Result, Ok}
use Rattle.cc2_error.specs.Causes.{Refusal}
use Rattle.cc2_value.specs.Cells.{Word}
use Rattle.cc2_resolved.specs.Roots.{resolved}
use Rattle.cc2_resolved.specs.Texts.{holds}
use Rattle.cc2_resolved.specs.declared.roots.Meant.TheVariants.{Program}

-- a text with a slash is a path, relative to where it is set; any other text stays as it is
abbrev pub program_path : List ℕ → Word → Result (List ℕ) Refusal
program_path dir w = if holds 47 w.text then resolved Program dir w else Ok w.text
