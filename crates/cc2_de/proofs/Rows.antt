-- Worked examples, computed on the definitions: the texts of files, read, walked and merged.
use Rattle.std.proofs.Common.{◌≡◌, ℕ, List, [], ◌∷◌, Option, Some, None, Ok, Err, pos, codes, bytes_eq, cond, refl}
use lib.Utf8.{encode}
use Rattle.std.specs.Str.{trim_start, trim_end, chars}
use Rattle.toml.proofs.OnLiterals.{toml_on_literals}
use Rattle.toml.specs.Data.{Members}
use Rattle.toml.specs.Parse.{parse_document}
use Rattle.cc2_error.specs.declared.error.Shape.TheVariants.{String, Array}
use Rattle.cc2_base.specs.Told.{Tree}
use Rattle.cc2_value.specs.Cells.{field, KeyPath, Single, Text, Items, Word, number, word, file, joined, present, cells_at}
use Rattle.cc2_value.specs.Ways.{Flaw, ill_typed}
use Rattle.cc2_leaf.specs.Pieces.{spaced}
use Rattle.cc2_de.specs.Config.{config_faults}
use Rattle.cc2_de.specs.ConfigFile.{file_at}

-- two files, the nearer one and the farther one, with these texts
abbrev two : List ℕ → List ℕ → Tree
two a b path = cond (bytes_eq path (codes "/p/q/.cargo/config.toml")) (Some (Some a)) (cond (bytes_eq path (codes "/p/.cargo/config.toml")) (Some (Some b)) None)

abbrev both : List (List ℕ)
both = codes "/p/q/.cargo/config.toml" ∷ codes "/p/.cargo/config.toml" ∷ []

abbrev build : List ℕ → KeyPath
build key = field (codes "build") ∷ field key ∷ []

abbrev near : List ℕ → Word
near text = record { text = text; origin = Some (file (codes "/p/q/.cargo/config.toml")) }

abbrev far : List ℕ → Word
far text = record { text = text; origin = Some (file (codes "/p/.cargo/config.toml")) }

-- the nearer number is kept
pub jobs_of_two : joined (cells_at (file_at (two (codes "build.jobs = 4") (codes "[build]\njobs = 8\n"))) (build (codes "jobs")) both)
    ≡ Ok (Some (Single (record { payload = number (pos 4); origin = Some (file (codes "/p/q/.cargo/config.toml")) })))
unfolding toml_on_literals
jobs_of_two = refl

-- the farther text is kept where the nearer file has none
pub directory_of_two : joined (cells_at (file_at (two (codes "build.jobs = 4") (codes "[build]\ntarget-dir = \"t\"\n"))) (build (codes "target-dir")) both)
    ≡ Ok (Some (Single (record { payload = word (codes "t"); origin = Some (file (codes "/p/.cargo/config.toml")) })))
unfolding toml_on_literals
directory_of_two = refl

-- arrays are joined, the farther items first
pub arrays_of_two : joined (cells_at (file_at (two (codes "build.rustflags = [\"a\"]") (codes "build.rustflags = [\"b\"]"))) (build (codes "rustflags")) both)
    ≡ Ok (Some (Items (far (codes "b") ∷ near (codes "a") ∷ [])))
unfolding toml_on_literals
arrays_of_two = refl

-- a text and an array don't join
pub text_and_array : joined (cells_at (file_at (two (codes "build.rustflags = \"a\"") (codes "build.rustflags = [\"b\"]"))) (build (codes "rustflags")) both)
    ≡ Err (String, Array)
unfolding toml_on_literals trim_start trim_end chars
text_and_array = refl

-- an absent value before them changes nothing
pub absent_text_and_array : joined (present (None ∷ Some (Text (near (codes "s") ∷ [])) ∷ Some (Items (far (codes "t") ∷ [])) ∷ [])) ≡ Err (String, Array)
absent_text_and_array = refl

-- the pieces of a text
pub pieces_of_flags : spaced (codes "  -C  opt-level=3 ") ≡ codes "-C" ∷ codes "opt-level=3" ∷ []
unfolding trim_start trim_end chars encode
pieces_of_flags = refl

-- what is wrong with a text's table, and where
abbrev faults_in_table : Option Members → Option (List Flaw)
faults_in_table None = None
faults_in_table (Some members) = Some (config_faults members)

pub jobs_that_are_a_text : faults_in_table (parse_document (codes "build.jobs = \"default\"")) ≡ Some ((build (codes "jobs"), ill_typed) ∷ [])
unfolding toml_on_literals
jobs_that_are_a_text = refl

pub build_that_is_a_number : faults_in_table (parse_document (codes "build = 3")) ≡ Some ((field (codes "build") ∷ [], ill_typed) ∷ [])
unfolding toml_on_literals
build_that_is_a_number = refl

pub item_that_is_a_number : faults_in_table (parse_document (codes "build.rustflags = [\"a\", 1]")) ≡ Some ((build (codes "rustflags"), ill_typed) ∷ [])
unfolding toml_on_literals
item_that_is_a_number = refl

pub unknown_keys : faults_in_table (parse_document (codes "other = 1\nbuild.more = []\nbuild.jobs = -2147483648")) ≡ Some []
unfolding toml_on_literals
unknown_keys = refl

pub header_that_ends : parse_document (codes "[build") ≡ None
unfolding toml_on_literals
header_that_ends = refl
