-- What is wrong with the keys of a file's table `target`.
use Rattle.std.specs.Prelude.{ℕ, List, [], ◌∷◌, codes, string_bytes, Option, Some, None}
use Rattle.toml.specs.Data.{Data, as_table, Members, no_members, member, get_member}
use Rattle.cc2_findings.specs.Founds.{AreFound}
use Rattle.cc2_findings.specs.KeyFaults.{IsJudged}
use Rattle.cc2_findings.specs.declared.cfg_key.KeyFault.{KeyFault}
use Rattle.cc2_findings.specs.declared.cfg_keys.CfgFinding.{CfgFinding}

-- the keys of a table, in its order
abbrev pub names_of : Members → List (List ℕ)
names_of no_members = []
names_of (member k d ms) = k ∷ names_of ms

abbrev pub table_names : Option Members → List (List ℕ)
table_names None = []
table_names (Some ms) = names_of ms

-- the keys of a value; none where it is no table
abbrev pub names_below : Data → List (List ℕ)
names_below d = table_names (as_table d)

abbrev pub names_in : Option Data → List (List ℕ)
names_in None = []
names_in (Some d) = names_below d

-- the keys of a file's table `target`
abbrev pub target_names : Members → List (List ℕ)
target_names ms = names_in (get_member (codes "target") ms)

abbrev pub shown_fault : CfgFinding → List ℕ × KeyFault
shown_fault f = (string_bytes f.key, f.fault)

-- the keys with something wrong are these, each with what is wrong with it, in the order of the keys
abbrev pub AreJudged : List (List ℕ) → List (List ℕ × KeyFault) → Type 0
AreJudged ks found = AreFound IsJudged ks found
