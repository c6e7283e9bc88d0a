-- What choices, settled flags and targets show.
use Rattle.std.specs.Prelude.{ℕ, List, map, Option, option_map, string_bytes}
use Rattle.cc2_value.specs.Cells.{Word}
use Rattle.cc2_value.specs.Values.{words_of}
use Rattle.cc2_resolved.specs.ShownFlags.{flag_texts}
use Rattle.cc2_cargo_target.specs.Settling.{Settled}
use Rattle.cc2_cargo_target.specs.Targets.{Requested, host, triple}
use Rattle.cc2_cargo_target.specs.declared.program.Choice.{Choice}
use Rattle.cc2_cargo_target.specs.declared.settle.Settled.{Settled as CodeSettled}
use Rattle.cc2_cargo_target.specs.declared.build_targets.Requested.{Requested as CodeRequested}
use Rattle.cc2_cargo_target.specs.declared.build_targets.Requested.TheVariants as code

abbrev pub choice_view : Option Choice → Option (List ℕ × List Word)
choice_view choice = option_map (λ c. (c.key.now, words_of c.words.items)) choice

abbrev pub settled_view : CodeSettled → Settled
settled_view s = record { flags = flag_texts s.flags; matching = map (λ k. k.now) s.matching.items }

abbrev pub requested_view : CodeRequested → Requested
requested_view code.Host = host
requested_view (code.Triple text) = triple (string_bytes text)
