use Rattle.std.proofs.Common.{◌≡◌, ◌++◌, drop, flat_map, map}
use Rattle.cc2_value.specs.Rows.{texts_of}
use Rattle.cc2_lint_settings.specs.Givers.{givers_of}
use Rattle.cc2_lint_settings.specs.Views.{table_of}
use Rattle.cc2_lint_settings.proofs.givers.givers_of_all.Given as goal

-- what was put, and then the keys of the files that are left
abbrev pub invariant-loop-file : goal.invariant-loop-file
invariant-loop-file l =
    texts_of l.keys.items ++ flat_map (givers_of l.setting) (map table_of (drop l.file-index l.linted))
    ≡ flat_map (givers_of l.fn.setting) (map table_of l.fn.linted)
