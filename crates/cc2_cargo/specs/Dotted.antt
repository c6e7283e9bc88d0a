-- What `--config` takes as text: one dotted key with a value.
-- Cargo Reference, Configuration, command-line overrides; Cargo 1.95 for what it refuses.
use Rattle.std.specs.Prelude.{◌≡◌, ℕ, ◌==◌, suc, Bool, true, false, ◌&&◌, ◌||◌, List, [], ◌∷◌, ◌++◌, codes, Option, Some, None, is_some, if◌then◌else◌}
use Rattle.std.specs.Str.{trim, trim_start}
use Rattle.toml.specs.Data.{Data, string, integer, float, boolean, datetime, array, table, Members, no_members, member, get, get_member}
use Rattle.toml.specs.Parse.{parse_document}
use Rattle.cc2_cargo.specs.declared.dotted.OverrideFault.{OverrideFault}
use Rattle.cc2_cargo.specs.declared.dotted.OverrideFault.TheVariants as fault
use Rattle.cc2_cargo.specs.declared.dotted.Part.{Part}
use Rattle.cc2_cargo.specs.declared.dotted.Part.TheVariants as part
use Rattle.cc2_cargo.specs.declared.dotted.Reason.{Reason}
use Rattle.cc2_cargo.specs.declared.dotted.Reason.TheVariants as reason

-- the text begins with this byte
abbrev pub begins_with : ℕ → List ℕ → Bool
begins_with b [] = false
begins_with b (x ∷ xs) = x == b

-- the text between the others, without blank space around it, is TOML
abbrev pub is_toml_between : List ℕ → List ℕ → List ℕ → Bool
is_toml_between before after text = is_some (parse_document (before ++ (trim text ++ after)))

-- the text is such a part: a dotted key of an inline table, or a value of an array, with no comment after it
abbrev pub is_part : Part → List ℕ → Bool
is_part part.Key text = is_toml_between (codes "v = {") (codes " = 0}") text
is_part part.Value text = is_toml_between (codes "v = [") (codes "]") text

-- the byte that ends such a part: an equals sign, or a line break
abbrev pub end_of : Part → ℕ
end_of part.Key = 61
end_of part.Value = 10

-- what follows the first of these bytes before which the text passes a test; the front comes before the text
abbrev pub after_passing : ℕ → (List ℕ → Bool) → List ℕ → List ℕ → Option (List ℕ)
after_passing b test front [] = None
after_passing b test front (x ∷ xs) = if (x == b) && test front then Some xs else after_passing b test (front ++ x ∷ []) xs

-- what follows the first such part of a text, and the byte that ends it
abbrev pub after_part : Part → List ℕ → List ℕ → Option (List ℕ)
after_part p front text = after_passing (end_of p) (is_part p) front text

-- nothing but blank space follows the value in its line
abbrev pub ends_line : List ℕ → Bool
ends_line value = is_part part.Value value || is_some (after_part part.Value [] value)

-- how many members there are
abbrev pub count : Members → ℕ
count no_members = 0
count (member k d ms) = suc (count ms)

-- each table has one member, down to a value that is no table
abbrev mutual
  pub are_chains : Members → Bool
  are_chains no_members = true
  are_chains (member k d ms) = ends_chain d && are_chains ms

  pub ends_chain : Data → Bool
  ends_chain (string s) = true
  ends_chain (integer z) = true
  ends_chain (float x) = true
  ends_chain (boolean b) = true
  ends_chain (datetime d) = true
  ends_chain (array ds) = true
  ends_chain (table ms) = (count ms == 1) && are_chains ms

abbrev pub is_chain : Members → Bool
is_chain ms = (count ms == 1) && are_chains ms

-- a registry with a `token` or a `secret-key`
abbrev pub holds_secret : Option Data → Bool
holds_secret None = false
holds_secret (Some d) = is_some (get (codes "token") d) || is_some (get (codes "secret-key") d)

abbrev pub one_holds_secret : Members → Bool
one_holds_secret no_members = false
one_holds_secret (member k d ms) = holds_secret (Some d) || one_holds_secret ms

abbrev pub any_holds_secret : Option Data → Bool
any_holds_secret (Some (table ms)) = one_holds_secret ms
any_holds_secret _ = false

-- the key begins with `registry.token`, `registry.secret-key`, `registries.NAME.token` or `registries.NAME.secret-key`
abbrev pub is_secret : Members → Bool
is_secret ms = holds_secret (get_member (codes "registry") ms) || any_holds_secret (get_member (codes "registries") ms)

-- the first reason against a text by its value's text
abbrev pub reason_of_value : List ℕ → Members → Option Reason
reason_of_value value ms =
    if begins_with 123 (trim_start value) then Some reason.InlineTable
    else if is_chain ms then (if ends_line value then (if is_secret ms then Some reason.Secret else None) else Some reason.Comment)
    else Some reason.NoDottedKey

abbrev pub reason_of_parts : Option (List ℕ) → Members → Option Reason
reason_of_parts None ms = Some reason.NoDottedKey
reason_of_parts (Some value) ms = reason_of_value value ms

-- the first reason against a text, which has these members
abbrev pub reason_of : List ℕ → Members → Option Reason
reason_of text ms = if begins_with 35 (trim_start text) then Some reason.Comment else reason_of_parts (after_part part.Key [] text) ms

-- the text is an override with these members
abbrev pub IsAccepted : List ℕ → Members → Type 0
IsAccepted text ms = (parse_document text ≡ Some ms) × (reason_of text ms ≡ None)

-- the text is TOML, but no override for this reason
abbrev pub IsRefused : List ℕ → Reason → Type 0
IsRefused text why = (ms : Members) × (parse_document text ≡ Some ms) × (reason_of text ms ≡ Some why)

-- the fault says why the text is no override
abbrev pub IsOverrideFault : List ℕ → OverrideFault → Type 0
IsOverrideFault text (fault.NoToml message) = parse_document text ≡ None
IsOverrideFault text fault.NoDottedKey = IsRefused text reason.NoDottedKey
IsOverrideFault text fault.Comment = IsRefused text reason.Comment
IsOverrideFault text fault.InlineTable = IsRefused text reason.InlineTable
IsOverrideFault text fault.Secret = IsRefused text reason.Secret
IsOverrideFault text fault.Memory = ⊥
