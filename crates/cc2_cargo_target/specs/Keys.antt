-- The keys of `[target]`: whether what Cargo reads below them can be read, and which of them match.
-- Cargo Reference, Configuration, `[target]`.
use Rattle.std.specs.Prelude.{◌≡◌, ℕ, Bool, false, bytes_eq, codes, if◌then◌else◌, List, [], ◌∷◌, map, Option, Some, None, Result, Ok, Err, String, string_bytes}
use Rattle.std.specs.BTreeMap.{BTreeMap, get_by_text}
use Rattle.std.specs.declared.alloc.Global.{Global}
use Rattle.cc2_error.specs.Causes.{Refusal, plain, wrong_type}
use Rattle.cc2_base.specs.declared.machine.Machine.{Machine}
use Rattle.cc2_cfg.specs.Grammar.{Tree}
use Rattle.cc2_cfg.specs.Meaning.{Atom, FlagAtom, PairAtom}
use Rattle.cc2_rustc.specs.Holds.{has}
use Rattle.cc2_cargo.specs.Grammar.{IsCargoTree, NoCargoTree}
use Rattle.cc2_cargo.specs.Meaning.{value_of}
use Rattle.cc2_cargo.specs.Raw.{Path, RawCell}
use Rattle.cc2_cargo.specs.declared.raw.Raw.{Raw, out-Raw}
use Rattle.cc2_cargo.specs.declared.raw.Raw.TheOpen.{Raw-F}
use Rattle.cc2_cargo_target.specs.AtKey.{flags_at, linker_at, runner_at}

-- the keys of a table, in the order of their bytes
abbrev pub table_keys : Raw-F Raw → Result (List (List ℕ)) Refusal
table_keys (Raw-F.Single v) = Err (plain (wrong_type (codes "target" ∷ [])))
table_keys (Raw-F.Array a) = Err (plain (wrong_type (codes "target" ∷ [])))
table_keys (Raw-F.Table m) = Ok (map (λ e. string_bytes e.0) m.entries)

abbrev pub keys_in : Option Raw → Result (List (List ℕ)) Refusal
keys_in None = Ok []
keys_in (Some r) = table_keys (out-Raw r)

-- the keys of `[target]`
abbrev pub target_keys : BTreeMap (String Global) Raw → Result (List (List ℕ)) Refusal
target_keys m = keys_in (get_by_text m (codes "target"))

-- what comes after a value that can be read
abbrev pub checked_then : {A : Type 0} → Result A Refusal → Result (Unit {0}) Refusal → Result (Unit {0}) Refusal
checked_then (Ok a) rest = rest
checked_then (Err refusal) rest = Err refusal

module _ (look : Path → Option RawCell) (machine : Machine) where
  -- the flags at a key can be read
  abbrev pub flags_checked : List ℕ → Result (Unit {0}) Refusal
  flags_checked k = checked_then (flags_at look machine k) (Ok tt)

  -- so can its linker and its runner
  abbrev pub key_checked : List ℕ → Result (Unit {0}) Refusal
  key_checked k = checked_then (linker_at look machine k) (checked_then (runner_at look machine k) (flags_checked k))

  abbrev pub keys_checked : List (List ℕ) → Result (Unit {0}) Refusal
  keys_checked [] = Ok tt
  keys_checked (k ∷ ks) = checked_then (key_checked k) (keys_checked ks)

-- Cargo takes no account of this flag
abbrev pub is_left_out : Atom → Bool
is_left_out (FlagAtom w) = bytes_eq w (codes "proc_macro")
is_left_out (PairAtom key value) = false

-- what rustc printed makes a predicate true
abbrev pub is_set : List Atom → Atom → Bool
is_set atoms atom = if is_left_out atom then false else has atoms atom

-- whether a key matches: its tree is true, or it has none and doesn't
pub record IsMatch (atoms : List Atom) (key : List ℕ) (b : Bool) : Type 0 where
  pub by_tree : (tree : Tree) → IsCargoTree key tree → b ≡ value_of (is_set atoms) tree
  pub without_tree : NoCargoTree key → b ≡ false

-- those of the keys that match, in their order
abbrev pub AreMatching : List Atom → List (List ℕ) → List (List ℕ) → Type 0
AreMatching atoms [] matching = matching ≡ []
AreMatching atoms (k ∷ ks) matching =
    (b : Bool) × (others : List (List ℕ)) × IsMatch atoms k b × AreMatching atoms ks others × (matching ≡ if b then k ∷ others else others)
