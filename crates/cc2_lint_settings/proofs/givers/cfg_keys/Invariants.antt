use Rattle.std.proofs.Common.{◌≡◌, ◌++◌, drop}
use Rattle.cc2_value.specs.Rows.{texts_of}
use Rattle.cc2_lint_settings.specs.Givers.{cfg_keys}
use Rattle.cc2_lint_settings.proofs.givers.cfg_keys.Given as goal

-- what was put, and then those of the keys that are left
abbrev pub invariant-loop-key : goal.invariant-loop-key
invariant-loop-key l = texts_of l.found.items ++ cfg_keys (texts_of (drop l.key-index l.keys)) ≡ cfg_keys (texts_of l.fn.keys)
