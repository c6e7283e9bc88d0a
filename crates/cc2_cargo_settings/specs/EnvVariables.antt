-- The variables that Cargo sets for the programs that it runs: those of the table `env`.
-- Cargo Reference, Configuration, `[env]`.
use Rattle.std.specs.Prelude.{◌≡◌, ℕ, Bool, true, false, ◌||◌, bytes_eq, codes, is_none, is_some, List, [], ◌∷◌, ◌++◌, map, Option, Some, None, option_map, Result, Ok, Err, String, Vec, string_bytes, if◌then◌else◌}
use Rattle.std.specs.Cmp.Lexicographic.{slice_cmp}
use Rattle.std.specs.List.{find, list_any}
use Rattle.std.specs.List.Sorted.{IsStrictlySortedBy}
use Rattle.std.specs.Option.{option_to_list}
use Rattle.std.specs.Ordering.{nat_cmp}
use Rattle.std.specs.declared.alloc.Global.{Global}
use Rattle.cc2_error.specs.Causes.{Refusal, plain, refused_text}
use Rattle.cc2_base.specs.Machines.{variable_of}
use Rattle.cc2_base.specs.declared.machine.Machine.{Machine}
use Rattle.cc2_cargo.specs.Raw.{Path, RawCell, single, array, table}
use Rattle.cc2_cargo_settings.specs.EnvEntries.{EnvEntry, entry_at, entry_path, then_ok, wrong_at}
use Rattle.cc2_cargo_settings.specs.Found.{Lookup, nowhere, at, blocked, lookup_at}

-- a variable: its name and its text
abbrev pub EnvVariable : Type 0
EnvVariable = List ℕ × List ℕ

abbrev pub variable_view : String Global × String Global → EnvVariable
variable_view e = (string_bytes e.0, string_bytes e.1)

abbrev pub variables_view : Vec (String Global × String Global) Global → List EnvVariable
variables_view v = map variable_view v.items

abbrev pub is_there : Lookup → Bool
is_there nowhere = false
is_there (at c) = true
is_there blocked = true

-- the names that no entry may have
abbrev pub reserved_names : List (List ℕ)
reserved_names = codes "CARGO_HOME" ∷ (codes "RUSTUP_HOME" ∷ (codes "RUSTUP_TOOLCHAIN" ∷ []))

-- why such an entry is refused
abbrev pub reserved_text : List ℕ → List ℕ
reserved_text name = codes "setting the `" ++ (name ++ codes "` environment variable is not supported in the `[env]` configuration table")

-- the names of the table, in the order of their bytes
pub record AreNames (look : Path → Option RawCell) (names : List (List ℕ)) : Type 0 where
  pub ascending : IsStrictlySortedBy (slice_cmp nat_cmp) names
  pub listed : (name : List ℕ) → list_any (bytes_eq name) names ≡ is_some (look (entry_path name))

module _ (look : Path → Option RawCell) where
  abbrev pub is_entry : List ℕ → Bool
  is_entry name = is_there (lookup_at look (entry_path name))

  -- the first of these names that an entry has
  abbrev pub reserved_entry : List (List ℕ) → Option (List ℕ)
  reserved_entry names = find is_entry names

-- there are such variables, unless an entry has a reserved name
abbrev pub unless_reserved : Option (List ℕ) → List EnvVariable → Result (List EnvVariable) Refusal
unless_reserved None variables = Ok variables
unless_reserved (Some name) variables = Err (plain (refused_text (reserved_text name)))

-- an entry's text, unless the process has the variable and the entry doesn't replace it
abbrev pub text_set : Machine → List ℕ → Option EnvEntry → Option (List ℕ)
text_set machine name None = None
text_set machine name (Some e) = if e.force || is_none (variable_of machine name) then Some e.text else None

abbrev pub variables_from : List ℕ → Option (List ℕ) → List EnvVariable
variables_from name set = option_to_list (option_map (λ text. (name, text)) set)

module _ (look : Path → Option RawCell) (machine : Machine) (dir : List ℕ) where
  -- what the entry of a name sets the variable to
  abbrev pub variable_at : List ℕ → Result (Option (List ℕ)) Refusal
  variable_at name = then_ok (entry_at look machine dir name) (λ e. Ok (text_set machine name e))

  -- the variables of these names, or why the first entry that is refused is
  abbrev pub variables_at : List (List ℕ) → Result (List EnvVariable) Refusal
  variables_at [] = Ok []
  variables_at (name ∷ names) =
      then_ok (variable_at name) (λ set. then_ok (variables_at names) (λ others. Ok (variables_from name set ++ others)))

  -- the variables of a table with these names
  abbrev pub table_variables : List (List ℕ) → Result (List EnvVariable) Refusal
  table_variables names = then_ok (variables_at names) (unless_reserved (reserved_entry look reserved_names))

  abbrev pub variables_in : Option RawCell → List (List ℕ) → Result (List EnvVariable) Refusal
  variables_in None names = Ok []
  variables_in (Some table) names = table_variables names
  variables_in (Some (single s)) names = wrong_at (codes "env" ∷ [])
  variables_in (Some (array from ss)) names = wrong_at (codes "env" ∷ [])

  -- the variables of the table, by the names that it has
  abbrev pub env_variables : List (List ℕ) → Result (List EnvVariable) Refusal
  env_variables names = variables_in (look (codes "env" ∷ [])) names
