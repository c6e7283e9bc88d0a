-- Which values Cargo 1.95 takes of those that have a setting's type: of numbers those in a range, of texts some words.
-- Cargo Reference, Configuration, configuration keys.
use Rattle.std.specs.Prelude.{ℤ, ℕ, pos, int_le, Bool, not, ◌&&◌, ◌||◌, codes, if◌then◌else◌, List, [], Option}
use Rattle.std.specs.Str.{bytes_eq}
use Rattle.cc2_error.specs.Causes.{Refusal, env_parse, in_context, plain, wrong_type}
use Rattle.cc2_base.specs.EnvTexts.{variable_context}
use Rattle.cc2_value.specs.Cells.{Origin}
use Rattle.cc2_cargo.specs.Raw.{Path, is_of_override}
use Rattle.cc2_cargo_settings.specs.Variables.{Given, set_to}
use Rattle.cc2_cargo_settings.specs.declared.check.Check.{Check}
use Rattle.cc2_cargo_settings.specs.declared.check.Check.TheVariants as check
use Rattle.cc2_cargo_settings.specs.declared.check.Width.{Width}
use Rattle.cc2_cargo_settings.specs.declared.check.Width.TheVariants as width

-- the texts that a setting takes
abbrev pub accepts : Check → List ℕ → Bool
accepts check.Color text = bytes_eq text (codes "auto") || (bytes_eq text (codes "always") || bytes_eq text (codes "never"))
accepts check.Progress text = bytes_eq text (codes "auto") || (bytes_eq text (codes "never") || bytes_eq text (codes "always"))
accepts check.RustVersions text = bytes_eq text (codes "allow") || bytes_eq text (codes "fallback")
accepts check.VersionControl text =
    bytes_eq text (codes "git")
    || (bytes_eq text (codes "hg")
    || (bytes_eq text (codes "pijul") || (bytes_eq text (codes "fossil") || bytes_eq text (codes "none"))))
accepts check.Panic text = bytes_eq text (codes "unwind") || (bytes_eq text (codes "abort") || bytes_eq text (codes "immediate-abort"))
accepts check.Directory text = not (bytes_eq text [])

-- the line that says which texts these are
abbrev pub must_of : Check → List ℕ
must_of check.Color = codes "must be auto, always or never"
must_of check.Progress = codes "must be auto, never or always"
must_of check.RustVersions = codes "must be allow or fallback"
must_of check.VersionControl = codes "must be git, hg, pijul, fossil or none"
must_of check.Panic = codes "must be unwind, abort or immediate-abort"
must_of check.Directory = codes "must not be empty"

-- the largest number of a setting, the smallest of which is 0
abbrev pub largest : Width → ℤ
largest width.Short = pos 4294967295
largest width.Long = pos 9223372036854775807

abbrev pub in_width : Width → ℤ → Bool
in_width w z = int_le (pos 0) z && int_le z (largest w)

abbrev pub number_must : Width → List ℕ
number_must width.Short = codes "must be a whole number from 0 to 4294967295"
number_must width.Long = codes "must be a whole number from 0 to 9223372036854775807"

-- the refusal of a variable's text
abbrev pub wrong_text : List ℕ → List ℕ → List ℕ → Refusal
wrong_text name must t = in_context (variable_context name) (plain (env_parse must t))

-- the refusal of a value: of a variable's text, or of what files and the command line have
abbrev pub misfit : Path → List ℕ → List ℕ → Given → Option Origin → Refusal
misfit path name must (set_to t) origin = if is_of_override origin then plain (wrong_type path) else wrong_text name must t
misfit path name must g origin = plain (wrong_type path)
