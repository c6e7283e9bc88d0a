-- What the code reads as a state, and what it lends as one.
use Rattle.std.specs.Prelude.{◌≡◌, ℕ, Bool, List, map, Option, Some, None, option_map, Result, Ok, Err, String, Vec, string_bytes, if◌then◌else◌}
use Rattle.std.specs.BTreeMap.{BTreeMap, get_by_text, IsOrdered}
use Rattle.std.specs.Str.{bytes_eq}
use Rattle.std.specs.String.{string_cmp}
use Rattle.std.specs.declared.alloc.Global.{Global}
use Rattle.std.specs.Borrow.{Bor}
use Rattle.cc2_ask.specs.Fields.{Front}
use Rattle.cc2_ask.specs.declared.fault.Fault.{Fault}
use Rattle.cc2_ask.specs.declared.fault.Fault.TheVariants as fault
use Rattle.cc2_target_table.specs.declared.target.TargetConfig.{TargetConfig}
use Rattle.cc2_state.specs.Shown.{AreFlatTables, AreFlatAt, IsFlatTable, saved_entry, table_found, saved_table}
use Rattle.cc2_state.specs.State.{LoadState, Table, state_in}
use Rattle.cc2_state.specs.declared.state.State.{State as CodeState}
use Rattle.cc2_state.specs.declared.state.StateParts.{StateParts}

abbrev pub Tables : Type 0
Tables = BTreeMap (String Global) TargetConfig

-- a table that was read holds no other
abbrev pub IsFlatOnOk : Result TargetConfig Fault → Type 0
IsFlatOnOk (Ok t) = IsFlatTable t
IsFlatOnOk (Err f) = Unit {0}

-- the map shows the first table of each key, and each of its tables is flat
pub record ShowsEntries (entries : List (List ℕ × Table)) (tables : Tables) : Type 0 where
  pub shows : (k : List ℕ) → option_map saved_table (get_by_text tables k) ≡ table_found entries k
  pub flat : AreFlatAt tables

-- the map shows what is at the front, in the order of its keys
abbrev pub IsReadMap : Front (List (List ℕ × Table)) → Result Tables Fault → List ℕ → Type 0
IsReadMap front (Ok tables) rest =
    (entries : List (List ℕ × Table)) × (front ≡ Some (entries, rest)) × ShowsEntries entries tables × IsOrdered string_cmp tables
IsReadMap front (Err fault.Memory) rest = Unit {0}
IsReadMap front (Err fault.Malformed) rest = front ≡ None

-- what is there, else this where it is asked for
abbrev pub first_kept : {A : Type 0} → Option A → Bool → A → Option A
first_kept (Some t) is other = Some t
first_kept None is other = if is then Some other else None

-- a table was put at a key that had none; one that had one keeps it
abbrev pub IsPutFirst : Tables → Tables → String Global → TargetConfig → Result (Unit {0}) Fault → Type 0
IsPutFirst was now key table (Ok done) =
    (k : List ℕ) → get_by_text now k ≡ first_kept (get_by_text was k) (bytes_eq k (string_bytes key)) table
IsPutFirst was now key table (Err fault.Memory) = Unit {0}
IsPutFirst was now key table (Err fault.Malformed) = ⊥

-- the parts of a state that are read as they are
pub record IsState (s : LoadState) (c : CodeState) : Type 0 where
  pub flags : c.flags_overridden ≡ s.flags_overridden
  pub doc_flags : c.doc_flags_overridden ≡ s.doc_flags_overridden
  pub rustc : option_map string_bytes c.rustc ≡ s.rustc
  pub wrapper : option_map string_bytes c.rustc_wrapper ≡ s.wrapper
  pub workspace_wrapper : option_map string_bytes c.rustc_workspace_wrapper ≡ s.workspace_wrapper
  pub rustflags : option_map (λ ts. map string_bytes ts.items) c.rustflags ≡ s.rustflags
  pub rustdocflags : option_map (λ ts. map string_bytes ts.items) c.rustdocflags ≡ s.rustdocflags
  pub tables : ShowsEntries s.tables c.target
  pub ordered : IsOrdered string_cmp c.target

-- a state was read from the bytes that are one; they are malformed where they are none
abbrev pub IsReadState : Option LoadState → Result CodeState Fault → Type 0
IsReadState given (Ok c) = (s : LoadState) × (given ≡ Some s) × IsState s c
IsReadState given (Err fault.Memory) = Unit {0}
IsReadState given (Err fault.Malformed) = given ≡ None

abbrev pub texts_lent : Option (Bor (List (String Global))) → Option (List (List ℕ))
texts_lent ts = option_map (λ t. map string_bytes t.now) ts

-- what is lent, as a state
abbrev pub state_view : StateParts → LoadState
state_view p = record {
  flags_overridden = p.flags_overridden;
  doc_flags_overridden = p.doc_flags_overridden;
  rustc = option_map (λ t. t.now) p.rustc;
  wrapper = option_map (λ t. t.now) p.rustc_wrapper;
  workspace_wrapper = option_map (λ t. t.now) p.rustc_workspace_wrapper;
  rustflags = texts_lent p.rustflags;
  rustdocflags = texts_lent p.rustdocflags;
  tables = map saved_entry p.target.now.entries;
}

-- the bytes are read as what was lent, whose tables are in the order of their keys; there are none where some table isn't flat
abbrev pub IsStateWritten : StateParts → Option (Vec ℕ Global) → Type 0
IsStateWritten p None = ¬ (AreFlatTables p.target.now)
IsStateWritten p (Some bytes) = AreFlatTables p.target.now × IsOrdered string_cmp p.target.now × (state_in bytes.items ≡ Some (state_view p))
