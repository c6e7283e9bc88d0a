use Rattle.std.proofs.Common.{◌≡◌, ◌++◌}
use Rattle.toml.specs.View.{members_view}
use Rattle.cc2_value.specs.Rows.{texts_of}
use Rattle.cc2_lint_settings.specs.Givers.{givers_in}
use Rattle.cc2_lint_settings.proofs.givers.givers_in.Given as goal

-- what was put, and then those of the entries that are left
abbrev pub invariant-loop-key : goal.invariant-loop-key
invariant-loop-key l =
    texts_of l.keys.items ++ givers_in l.setting (members_view l.key-iterator) ≡ givers_in l.fn.setting (members_view l.fn.table.entries)
