-- What resolution looks at beside the cells.
use Rattle.std.specs.Prelude.{ℕ, Bool, List, [], ◌∷◌, codes, Option}
use Rattle.std.specs.Option.{is_some}
use Rattle.std.specs.BTreeMap.{get_by_text}
use Rattle.cc2_value.specs.Cells.{field, name, KeyPath, Cell}
use Rattle.cc2_resolved.specs.declared.place.Place.{Place}

-- the directory, and which names are aliases
pub record Site : Type 0 where
  pub directory : List ℕ
  pub is_alias : List ℕ → Bool

abbrev pub site_of : Place → Site
site_of place = record { directory = place.directory.now; is_alias = λ n. is_some (get_by_text place.aliases.now n) }

-- the aliases are the names of the table `credential-alias`
abbrev pub site_in : List ℕ → (KeyPath → Option Cell) → Site
site_in directory m = record { directory = directory; is_alias = λ n. is_some (m (field (codes "credential-alias") ∷ (name n ∷ []))) }
