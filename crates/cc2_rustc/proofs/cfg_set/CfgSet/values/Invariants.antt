use Rattle.std.proofs.Common.{◌≡◌, drop}
use Rattle.std.specs.Prelude.{map, filter_map, string_bytes}
use Rattle.std.specs.List.{fold}
use Rattle.cc2_rustc.specs.Printed.{atom_of_printed, atoms_of}
use Rattle.cc2_rustc.specs.Values.{value_at, with_text, values_of}
use Rattle.cc2_rustc.proofs.cfg_set.CfgSet.values.Given as goal

abbrev pub invariant-loop-printed : goal.invariant-loop-printed
invariant-loop-printed l =
    fold with_text (map string_bytes l.values.keys)
    (filter_map (value_at l.name) (map atom_of_printed (drop l.printed-index l.printed-items)))
    ≡ values_of l.name (atoms_of l.self)
