use Rattle.std.proofs.Common.{◌≡◌, ◌-◌, ℕ, List}
use Rattle.std.specs.BTreeMap.{IsOrdered}
use Rattle.std.specs.String.{string_cmp}
use Rattle.cc2_ask.specs.Written.{many_at}
use Rattle.cc2_ask.proofs.Written.{after}
use Rattle.cc2_state.specs.State.{entry_front, Table}
use Rattle.cc2_state.specs.Views.{ShowsEntries}
use Rattle.cc2_state.proofs.read.so_many_tables.Given as goal

-- the entries that were read, and the map of them
abbrev pub invariant-loop : goal.invariant-loop
invariant-loop l =
    (entries : List (List ℕ × Table))
    × (after entries (many_at entry_front (l.count - l.counter) l.reader.rest.now) ≡ many_at entry_front l.count l.initial.reader.rest.now)
    × ShowsEntries entries l.tables × IsOrdered string_cmp l.tables
