-- The state of a configuration, and a configuration of a state.
use Rattle.std.proofs.Common.{◌≡◌, ℕ, List, [], ◌∷◌, Some, None, option_map, Vec, Global, string_bytes, sym, ap, subst, ◌∙◌}
use Rattle.std.specs.BTreeMap.{IsOrdered}
use Rattle.std.specs.String.{string_cmp}
use Rattle.cc2_target_table.specs.Target.{target_at}
use Rattle.cc2_value.specs.Shown.{map_at}
use Rattle.cc2_resolved.specs.ShownFlags.{flag_texts}
use Rattle.cargo_config2.specs.Queried.{IsOfQueried}
use Rattle.cargo_config2.specs.declared.config.Config.{Config}
use Rattle.cargo_config2.specs.declared.queried.Queried.{Queried}
use Rattle.cc2_reply.specs.States.{AreBytesFor, IsLent, IsStateOf}
use Rattle.cc2_state.proofs.Cells.{entries_shown, tables_shown}
use Rattle.cc2_state.specs.Shown.{AreFlatTables}
use Rattle.cc2_state.specs.State.{LoadState, state_in}
use Rattle.cc2_state.specs.Views.{IsStateWritten, ShowsEntries, state_view, Tables}
use Rattle.cc2_state.specs.declared.state.StateParts.{StateParts}

-- what was lent of a configuration with flat tables is its state
lent_state : (c : Config) (p : StateParts) → IsLent c p → AreFlatTables p.target.now → IsOrdered string_cmp p.target.now → IsStateOf c (state_view p)
lent_state c p lent flat ordered = record {
  cells = λ path.
      ap (λ (tables : Tables). map_at target_at tables path) (sym lent.target)
      ∙ tables_shown (state_view p) p.target.now (entries_shown p.target.now flat) path;
  tables = subst (ShowsEntries (state_view p).tables) lent.target (entries_shown p.target.now flat);
  ordered = subst (IsOrdered string_cmp) lent.target ordered;
  flags = sym lent.flags;
  doc_flags = sym lent.doc_flags;
  rustc = sym lent.rustc;
  wrapper = sym lent.wrapper;
  workspace_wrapper = sym lent.workspace_wrapper;
  rustflags = sym lent.rustflags;
  rustdocflags = sym lent.rustdocflags;
}

-- no bytes are a state
read_bytes : (c : Config) (bytes : List ℕ) (s : LoadState) → state_in bytes ≡ Some s → IsStateOf c s → AreBytesFor c bytes
read_bytes c [] s is of = cc
read_bytes c (b ∷ bytes) s is of = (s, is, of)

-- the bytes of what was lent are those of its state
pub state_written : (c : Config) (p : StateParts) (bytes : Vec ℕ Global) → IsLent c p → IsStateWritten p (Some bytes) → AreBytesFor c bytes.items
state_written c p bytes lent (flat, ordered, is) = read_bytes c bytes.items (state_view p) is (lent_state c p lent flat ordered)

-- there are none where a table holds another
pub none_written : (c : Config) (p : StateParts) → IsLent c p → IsStateWritten p None → AreBytesFor c []
none_written c p lent none = λ flat. none (subst AreFlatTables (sym lent.target) flat)

-- the configuration that has a state's parts has the state
pub queried_state : (c : Config) (q : Queried) (s : LoadState) → IsOfQueried q c → ShowsEntries s.tables q.target → IsOrdered string_cmp q.target
    → q.flags_overridden ≡ s.flags_overridden → q.doc_flags_overridden ≡ s.doc_flags_overridden
    → option_map string_bytes q.rustc ≡ s.rustc → option_map string_bytes q.rustc_wrapper ≡ s.wrapper
    → option_map string_bytes q.rustc_workspace_wrapper ≡ s.workspace_wrapper
    → option_map flag_texts q.rustflags ≡ s.rustflags → option_map flag_texts q.rustdocflags ≡ s.rustdocflags → IsStateOf c s
queried_state c q s of tables ordered flags doc_flags rustc wrapper workspace_wrapper rustflags rustdocflags = record {
  cells = λ path. ap (λ (tables : Tables). map_at target_at tables path) of.target ∙ tables_shown s q.target tables path;
  tables = subst (ShowsEntries s.tables) (sym of.target) tables;
  ordered = subst (IsOrdered string_cmp) (sym of.target) ordered;
  flags = of.flags ∙ flags;
  doc_flags = of.doc_flags ∙ doc_flags;
  rustc = ap (option_map string_bytes) of.rustc ∙ rustc;
  wrapper = ap (option_map string_bytes) of.wrapper ∙ wrapper;
  workspace_wrapper = ap (option_map string_bytes) of.workspace_wrapper ∙ workspace_wrapper;
  rustflags = ap (option_map flag_texts) of.rustflags ∙ rustflags;
  rustdocflags = ap (option_map flag_texts) of.rustdocflags ∙ rustdocflags;
}
