-- Two maps that show the entries of a state have the same tables in the same order.
use Rattle.std.proofs.Common.{◌≡◌, map, sym, ◌∙◌}
use Rattle.std.specs.BTreeMap.{IsOrdered}
use Rattle.std.specs.String.{string_cmp}
use Rattle.cc2_state.specs.Shown.{saved_entry, saved_table}
use Rattle.cc2_state.specs.State.{LoadState}
use Rattle.cc2_state.specs.Views.{ShowsEntries, Tables}
use Rattle.cc2_state.proofs.Ordered.{entries_alike}

pub same_tables : (s : LoadState) (m n : Tables) → ShowsEntries s.tables m → IsOrdered string_cmp m → ShowsEntries s.tables n → IsOrdered string_cmp n
    → map saved_entry m.entries ≡ map saved_entry n.entries
same_tables s m n of ordered other also = entries_alike saved_table m n ordered also (λ k. of.shows k ∙ sym (other.shows k))
