use Rattle.std.proofs.Common.{◌≡◌, ◌++◌, drop, map}
use Rattle.cc2_value.specs.Rows.{texts_of}
use Rattle.cc2_lint_settings.specs.Rivals.{rivals_among}
use Rattle.cc2_lint_settings.specs.Views.{rival_view}
use Rattle.cc2_lint_settings.proofs.rival.rivals_among.Given as goal

-- what was put, and then those of the keys that are left
abbrev pub invariant-loop-key : goal.invariant-loop-key
invariant-loop-key l =
    map rival_view l.found.items ++ rivals_among l.setting (texts_of l.held) (texts_of (drop l.key-index l.keys))
    ≡ rivals_among l.fn.setting (texts_of l.fn.held) (texts_of l.fn.keys)
