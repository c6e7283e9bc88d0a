-- Values that a load refuses and Cargo 1.95 accepts, as tests/lists compares with Cargo.
-- Cargo Reference, Configuration, `build.jobs`, `http.timeout`, `[env]`, hierarchical structure.
use Rattle.std.specs.Prelude.{ℕ, ℤ, pos, int_lt, Bool, true, false, not, ◌&&◌, ◌||◌, List, [], ◌∷◌, map, codes, bytes_eq, string_bytes, is_some, Option, Some, None, option_and_then}
use Rattle.std.specs.List.{list_any}
use Rattle.toml.specs.Data.{Data, as_str, as_integer, as_bool, as_table, Members, get, get_member}
use Rattle.cc2_error.specs.Causes.{Cause, provider_args, refusal_of}
use Rattle.cc2_findings.specs.Clashes.{Clash}
use Rattle.cc2_findings.specs.declared.alone.ValueFault.{ValueFault}
use Rattle.cc2_reports.specs.Problems.{are_same_keys}
use Rattle.cc2_lint.specs.Subjects.{are_same}

-- Cargo ignores the arguments of a built-in credential provider
abbrev pub is_of_provider : Cause → Bool
is_of_provider (provider_args provider) = true
is_of_provider cause = false

-- a single value of a nearer file takes the place of that at these keys, so that Cargo doesn't read it
abbrev pub is_replaced : List (List ℕ) → List Clash → Bool
is_replaced keys clashes = list_any (λ c. are_same c.form c.nearer && are_same_keys c.path keys) clashes

abbrev pub is_the_word : List ℕ → Option (List ℕ) → Bool
is_the_word word None = false
is_the_word word (Some text) = bytes_eq text word

abbrev pub is_word : List ℕ → Data → Bool
is_word word d = is_the_word word (as_str d)

-- the greatest number that a load takes for `http.timeout`
abbrev pub most_seconds : ℤ
most_seconds = pos 4294967295

abbrev pub is_above : Option ℤ → Bool
is_above None = false
is_above (Some number) = int_lt most_seconds number

abbrev pub is_long_timeout : Data → Bool
is_long_timeout d = is_above (as_integer d)

-- a boolean, where it is there
abbrev pub is_boolean : Option Data → Bool
is_boolean None = true
is_boolean (Some d) = is_some (as_bool d)

abbrev pub has_flags_alone : Option Members → Bool
has_flags_alone None = false
has_flags_alone (Some ms) =
    not (is_some (get_member (codes "value") ms)) && is_boolean (get_member (codes "force") ms) && is_boolean (get_member (codes "relative") ms)

-- an entry of `env` that lacks nothing but its `value`
abbrev pub lacks_value : Data → Bool
lacks_value d = has_flags_alone (as_table d)

-- the value at a key of a table of a file
abbrev pub file_value : List ℕ → List ℕ → Members → Option Data
file_value section key ms = option_and_then (get key) (get_member section ms)

-- the file has a table with a `value` for this entry of `env`
abbrev pub has_entry : List ℕ → Members → Bool
has_entry key ms = is_some (option_and_then (get (codes "value")) (file_value (codes "env") key ms))

-- Cargo accepts this value at a key of a table: by itself, or since another of the files has the `value` of the entry
abbrev pub is_fine : List ℕ → List ℕ → List Members → Data → Bool
is_fine section key files d =
    (bytes_eq section (codes "build") && bytes_eq key (codes "jobs") && is_word (codes "default") d)
    || ((bytes_eq section (codes "http") && bytes_eq key (codes "timeout") && is_long_timeout d)
    || ((bytes_eq section (codes "future-incompat-report") && bytes_eq key (codes "frequency"))
    || (bytes_eq section (codes "env") && lacks_value d && list_any (has_entry key) files)))

abbrev pub is_fine_there : List ℕ → List ℕ → List Members → Option Data → Bool
is_fine_there section key files None = false
is_fine_there section key files (Some d) = is_fine section key files d

abbrev pub is_fine_at : Members → List Members → List (List ℕ) → Bool
is_fine_at ms files (section ∷ (key ∷ [])) = is_fine_there section key files (file_value section key ms)
is_fine_at ms files keys = false

-- Cargo accepts the value in a file of this table, among these files, that clashes so with the nearer ones
abbrev pub is_accepted : Members → List Members → List Clash → ValueFault → Bool
is_accepted ms files clashes f =
    is_of_provider (refusal_of f.error).cause
    || (is_replaced (map string_bytes f.path.items) clashes || is_fine_at ms files (map string_bytes f.path.items))
