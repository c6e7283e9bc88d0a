use Rattle.std.proofs.Common.{◌≡◌, drop, map}
use Rattle.std.specs.List.{list_any}
use Rattle.cc2_value.specs.Rows.{texts_of}
use Rattle.cc2_lint_settings.specs.Givers.{has_below}
use Rattle.cc2_lint_settings.specs.Views.{table_of}
use Rattle.cc2_lint_settings.proofs.givers.is_in_any.Given as goal

-- the files that are left have the answer
abbrev pub invariant-loop-file : goal.invariant-loop-file
invariant-loop-file l =
    list_any (has_below (texts_of l.keys)) (map table_of (drop l.file-index l.linted))
    ≡ list_any (has_below (texts_of l.fn.keys)) (map table_of l.fn.linted)
