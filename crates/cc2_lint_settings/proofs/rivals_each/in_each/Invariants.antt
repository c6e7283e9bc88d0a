use Rattle.std.proofs.Common.{◌≡◌, map, take}
use Rattle.cc2_value.specs.Rows.{texts_of}
use Rattle.cc2_lint_settings.specs.Rivals.{rivals_of}
use Rattle.cc2_lint_settings.specs.Views.{rival_views, table_of}
use Rattle.cc2_lint_settings.proofs.rivals_each.in_each.Given as goal

-- those of the files that are done
abbrev pub invariant-loop-file : goal.invariant-loop-file
invariant-loop-file l =
    rival_views l.all ≡ map (rivals_of (texts_of l.linkers) (texts_of l.runners)) (map table_of (take l.file-index l.linted))
