-- What is wrong in a file at each of its keys alone.
use Rattle.std.specs.Prelude.{ℕ, List, [], ◌∷◌, map, string_bytes, Option, Some, None}
use Rattle.toml.specs.Data.{Data, table, Members, no_members, member, get, get_member}
use Rattle.cc2_error.specs.declared.error.Error.{Error}
use Rattle.cc2_findings.specs.declared.alone.ValueFault.{ValueFault}
use Rattle.cc2_findings.specs.declared.place.Place.{Place}
use Rattle.cc2_findings.specs.declared.place.Place.TheVariants as at
use Rattle.cc2_findings.specs.Findings.{findings_in}
use Rattle.cc2_findings.specs.Founds.{AreFound}

-- the table that has this key alone, with what the keys after it lead to in its value; empty where it has none
abbrev pub alone_at : List ℕ → List (List ℕ) → Option Data → Members
alone_at k path None = no_members
alone_at k [] (Some d) = member k d no_members
alone_at k (next ∷ rest) (Some d) = member k (table (alone_at next rest (get next d))) no_members

-- the table that sets a path of keys as this one does, and nothing else
abbrev pub alone : List (List ℕ) → Members → Members
alone [] ms = no_members
alone (k ∷ path) ms = alone_at k path (get_member k ms)

-- the keys of a file at which something is found
abbrev pub keys_of : {A : Type 0} → (Place → List ℕ → Data → Option A) → Members → List (List (List ℕ))
keys_of look ms = map (λ f. f.0) (findings_in look at.Config ms)

abbrev pub value_fault : ValueFault → List (List ℕ) × Error
value_fault f = (map string_bytes f.path.items, f.error)

-- of each of these keys in turn whether a file that sets it as this one does, and nothing else, is refused, and why
abbrev pub AreJudged : (List (List ℕ) → Members → Option Error → Type 0) → Members → List (List (List ℕ)) → List ValueFault → Type 0
AreJudged Judges ms keys found = AreFound (λ path e. Judges path (alone path ms) e) keys (map value_fault found)
