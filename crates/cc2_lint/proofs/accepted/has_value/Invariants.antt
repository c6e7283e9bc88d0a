use Rattle.std.proofs.Common.{◌≡◌, drop, map}
use Rattle.std.specs.List.{list_any}
use Rattle.cc2_lint_settings.specs.Views.{table_of}
use Rattle.cc2_lint.specs.Accepted.{has_entry}
use Rattle.cc2_lint.proofs.accepted.has_value.Given as goal

abbrev pub invariant-loop-file : goal.invariant-loop-file
invariant-loop-file l =
    list_any (has_entry l.name) (map table_of (drop l.file-index l.files)) ≡ list_any (has_entry l.name) (map table_of l.files)
