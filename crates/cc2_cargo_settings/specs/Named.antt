-- The settings below tables whose keys are names that users choose, as those of aliases and registries.
-- Cargo Reference, Configuration, configuration keys.
use Rattle.std.specs.Prelude.{◌≡◌, ℕ, codes, if◌then◌else◌, List, [], ◌∷◌, ◌++◌, map, flat_map, Option, Some, None, option_map, String, string_bytes}
use Rattle.std.specs.BTreeMap.{BTreeMap, get_by_text}
use Rattle.std.specs.Str.{bytes_eq}
use Rattle.std.specs.declared.alloc.Global.{Global}
use Rattle.cc2_cargo.specs.Raw.{Path}
use Rattle.cc2_cargo.specs.declared.raw.Raw.{Raw, out-Raw}
use Rattle.cc2_cargo.specs.declared.raw.Raw.TheOpen.{Raw-F}
use Rattle.cc2_cargo_settings.specs.Names.{key_variable}
use Rattle.cc2_cargo_settings.specs.Settings.{Row, plain_row}
use Rattle.cc2_cargo_settings.specs.declared.named_tables.Below.{Below as CodeBelow}
use Rattle.cc2_cargo_settings.specs.declared.named_tables.NamedTable.{NamedTable as CodeNamedTable}
use Rattle.cc2_cargo_settings.specs.declared.check.Check.TheVariants.{Panic}
use Rattle.cc2_cargo_settings.specs.declared.check.Width.TheVariants.{Short}
use Rattle.cc2_cargo_settings.specs.declared.mixed.Mixed.TheVariants.{Debug, Lto, OptLevel, Strip}
use Rattle.cc2_cargo_settings.specs.declared.setting.Kind.{Kind}
use Rattle.cc2_cargo_settings.specs.declared.setting.Kind.TheVariants.{Text, Checked, Flag, Number, Words, Command, TextOrWords, Mixed}

-- what is read below a name: at which key, or at the name itself, and as what
pub record Below : Type 0 where
  pub key : Option (List ℕ)
  pub kind : Kind

abbrev pub below_view : CodeBelow → Below
below_view b = record { key = option_map (λ k. k.now) b.key; kind = b.kind }

-- the variables of what is below the table begin so
abbrev pub HasFront : CodeNamedTable → Type 0
HasFront n = n.front.now ≡ key_variable (n.table.now ∷ []) ++ codes "_"

-- a table of names, those that there always are, and what is read below each
pub record NamedTable : Type 0 where
  pub table : List ℕ
  pub always : List (List ℕ)
  pub below : List Below

abbrev pub named_table_view : CodeNamedTable → NamedTable
named_table_view n = record { table = n.table.now; always = map (λ name. name.now) n.always.now; below = map below_view n.below.now }

abbrev itself : Kind → Below
itself kind = record { key = None; kind = kind }

abbrev at_key : Kind → List ℕ → Below
at_key kind key = record { key = Some key; kind = kind }

abbrev pub tables : List NamedTable
tables =
    record { table = codes "alias"; always = []; below = itself TextOrWords ∷ [] }
    ∷ (record { table = codes "credential-alias"; always = []; below = itself Command ∷ [] }
    ∷ (record {
      table = codes "profile";
      always = codes "bench" ∷ (codes "dev" ∷ (codes "release" ∷ (codes "test" ∷ [])));
      below =
          at_key (Number Short) (codes "codegen-units")
          ∷ (at_key (Mixed Debug) (codes "debug")
          ∷ (at_key Flag (codes "debug-assertions")
          ∷ (at_key Flag (codes "incremental")
          ∷ (at_key Text (codes "inherits")
          ∷ (at_key (Mixed Lto) (codes "lto")
          ∷ (at_key (Mixed OptLevel) (codes "opt-level")
          ∷ (at_key Flag (codes "overflow-checks")
          ∷ (at_key (Checked Panic) (codes "panic")
          ∷ (at_key Flag (codes "rpath")
          ∷ (at_key Text (codes "split-debuginfo")
          ∷ (at_key (Mixed Strip) (codes "strip")
          ∷ [])))))))))));
    }
    ∷ (record {
      table = codes "registries";
      always = [];
      below =
          at_key Command (codes "credential-provider")
          ∷ (at_key Text (codes "index")
          ∷ (at_key Text (codes "protocol")
          ∷ (at_key Text (codes "secret-key")
          ∷ (at_key Text (codes "secret-key-subject")
          ∷ (at_key Text (codes "token")
          ∷ [])))));
    }
    ∷ (record {
      table = codes "target";
      always = [];
      below =
          at_key Text (codes "linker")
          ∷ (at_key Command (codes "runner")
          ∷ (at_key Words (codes "rustdocflags")
          ∷ (at_key Words (codes "rustflags")
          ∷ [])));
    }
    ∷ []))))

abbrev pub RawTable : Type 0
RawTable = BTreeMap (String Global) Raw

abbrev pub raw_names : Raw-F Raw → List (List ℕ)
raw_names (Raw-F.Single v) = []
raw_names (Raw-F.Array a) = []
raw_names (Raw-F.Table m) = map (λ e. string_bytes e.0) m.entries

abbrev pub names_if_table : Option Raw → List (List ℕ)
names_if_table None = []
names_if_table (Some r) = raw_names (out-Raw r)

-- the names in a table of the settings, in the order of their bytes
abbrev pub names_set : RawTable → List ℕ → List (List ℕ)
names_set settings table = names_if_table (get_by_text settings table)

-- the name in this table that a key asks for, whether the settings have it or not
abbrev pub name_asked : List ℕ → Path → List (List ℕ)
name_asked table [] = []
name_asked table (k ∷ []) = []
name_asked table (k ∷ (name ∷ path)) = if bytes_eq k table then name ∷ [] else []

abbrev pub path_below : List ℕ → List ℕ → Option (List ℕ) → Path
path_below table name None = table ∷ (name ∷ [])
path_below table name (Some key) = table ∷ (name ∷ (key ∷ []))

abbrev pub row_below : List ℕ → List ℕ → Below → Row
row_below table name b = plain_row b.kind (path_below table name b.key)

abbrev pub rows_of_name : NamedTable → List ℕ → List Row
rows_of_name n name = map (row_below n.table name) n.below

abbrev pub rows_of_table : RawTable → Path → NamedTable → List Row
rows_of_table settings asked n =
    flat_map (rows_of_name n) n.always
    ++ (flat_map (rows_of_name n) (names_set settings n.table) ++ flat_map (rows_of_name n) (name_asked n.table asked))

-- the settings at each name that there always is, that the settings have, or that a key asks for
abbrev pub named_rows : RawTable → Path → List Row
named_rows settings asked = flat_map (rows_of_table settings asked) tables
