-- What relative values are resolved from, and what they resolve to.
-- Cargo Reference, Configuration, config-relative paths.
use Rattle.std.specs.Prelude.{ℕ, Bool, not, ◌||◌, nat_eq, List, codes, Option, Some, None, option_and_then, Result, Ok, Err, if◌then◌else◌}
use Rattle.std.specs.List.{starts_with}
use Rattle.cc2_error.specs.Causes.{Refusal, plain, no_root}
use Rattle.cc2_base.specs.Paths.{begins_at_root, joined, parent_of}
use Rattle.cc2_value.specs.Cells.{Origin, file, variable, command_line, Word}
use Rattle.cc2_resolved.specs.Texts.{holds}
use Rattle.cc2_resolved.specs.Turns.{map_ok}
use Rattle.cc2_resolved.specs.declared.roots.Meant.{Meant}
use Rattle.cc2_resolved.specs.declared.roots.Meant.TheVariants.{Path, BuildDir, Program}

-- the folder that holds the folder of a file, where there is one
abbrev pub above_file : List ℕ → Option (List ℕ)
above_file path = option_and_then parent_of (parent_of path)

-- the folder that a relative value of this origin is resolved from
abbrev pub root_of : List ℕ → Origin → Option (List ℕ)
root_of directory (file path) = above_file path
root_of directory (variable name) = Some directory
root_of directory (command_line None) = Some directory
root_of directory (command_line (Some path)) = above_file path

-- the file that may have no root
abbrev pub file_of : Origin → List ℕ
file_of (file path) = path
file_of (variable name) = codes ""
file_of (command_line None) = codes ""
file_of (command_line (Some path)) = path

-- `/` or `\` occurs in the text
abbrev pub has_separator : List ℕ → Bool
has_separator text = holds 47 text || holds 92 text

-- the text begins with a place that Cargo puts in
abbrev pub begins_with_place : List ℕ → Bool
begins_with_place text = starts_with nat_eq text (codes "{workspace-root}") || starts_with nat_eq text (codes "{cargo-cache-home}")

-- whether a text that is meant so stays as it is
abbrev pub stays : Meant → List ℕ → Bool
stays Path text = begins_at_root text
stays BuildDir text = begins_at_root text || begins_with_place text
stays Program text = begins_at_root text || not (has_separator text)

-- the root where there is one; a relative text without it is refused
abbrev pub root_or : Origin → List ℕ → Option (List ℕ) → Result (List ℕ) Refusal
root_or origin text None = Err (plain (no_root (file_of origin) text))
root_or origin text (Some root) = Ok root

-- a relative text, from its root
abbrev pub under : Origin → List ℕ → Option (List ℕ) → Result (List ℕ) Refusal
under origin text root = map_ok (λ r. joined r text) (root_or origin text root)

-- a text that is set nowhere stays
abbrev pub rooted : List ℕ → List ℕ → Option Origin → Result (List ℕ) Refusal
rooted directory text None = Ok text
rooted directory text (Some origin) = under origin text (root_of directory origin)

-- a text, from its root where it is relative
abbrev pub resolved : Meant → List ℕ → Word → Result (List ℕ) Refusal
resolved meant directory w = if stays meant w.text then Ok w.text else rooted directory w.text w.origin
