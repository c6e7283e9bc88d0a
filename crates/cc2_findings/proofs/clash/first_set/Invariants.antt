use Rattle.std.proofs.Common.{◌≡◌, map, string_bytes, drop}
use Rattle.cc2_findings.specs.Clashes.{first_set}
use Rattle.cc2_findings.specs.ClashViews.{file_view}
use Rattle.cc2_findings.proofs.clash.first_set.Given as goal

-- the files that are left have the answer
abbrev pub invariant-loop-file : goal.invariant-loop-file
invariant-loop-file l =
    first_set (map string_bytes l.path) (map file_view (drop l.file-index l.files)) ≡ first_set (map string_bytes l.fn.path) (map file_view l.fn.files)
