use Rattle.std.proofs.Common.{◌≡◌, ◌++◌, List, String, Global}
use Rattle.cc2_resolved_cells.specs.Cells.{cells_of_map}
use Rattle.cc2_resolved_cells.specs.Writers.{AreWritten}
use Rattle.cc2_resolved_cells.proofs.Names.{AreAll}
use Rattle.cc2_resolved_cells.proofs.put_cells.put_names.Given as goal

-- the entries that are done are written, and the others follow them
abbrev pub invariant-loop-name : goal.invariant-loop-name
invariant-loop-name g l =
    (done : List (String Global × _)) × (l.fn.map.entries ≡ done ++ l.name-iterator)
    × AreWritten (cells_of_map g.V.PutMember.cells done) l.initial.to l.to
    × AreAll g.V.PutMember.cells g.V.PutMember.shown done
