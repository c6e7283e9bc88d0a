use Rattle.std.proofs.Common.{◌≡◌, drop, option_map}
use Rattle.toml.specs.View.{view}
use Rattle.cc2_value.specs.Rows.{texts_of}
use Rattle.cc2_lint_settings.specs.Givers.{has_value}
use Rattle.cc2_lint_settings.proofs.givers.has_value.Given as goal

-- the keys that are left have the answer in what was found
abbrev pub invariant-loop-key : goal.invariant-loop-key
invariant-loop-key l =
    has_value (texts_of (drop l.key-index l.keys)) (option_map (λ v. view v.now) l.found)
    ≡ has_value (texts_of l.fn.keys) (option_map (λ v. view v.now) l.fn.value)
