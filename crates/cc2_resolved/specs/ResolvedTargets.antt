-- What a target comes to: a spec path is joined to its root; its triple, or the refusal of a path that
-- has no file name, goes by the text before.
-- Cargo Reference, Configuration, `build.target`.
use Rattle.std.specs.Prelude.{ℕ, List, Option, Some, None, option_map, Result, Ok, Err}
use Rattle.cc2_error.specs.Causes.{Refusal, plain, spec_name}
use Rattle.cc2_value.specs.Cells.{Origin, Word}
use Rattle.cc2_resolved.specs.Targets.{Target, target_of}
use Rattle.cc2_resolved.specs.Roots.{resolved}
use Rattle.cc2_resolved.specs.Turns.{map_ok}
use Rattle.cc2_resolved.specs.declared.roots.Meant.TheVariants.{Path}

-- the target whose spec path, where it has one, is that
abbrev pub with_path : Target → Option (Result (List ℕ) Refusal) → Result Target Refusal
with_path target None = Ok target
with_path target (Some path) = map_ok (λ p. record { triple = target.triple; spec_path = Some p }) path

abbrev pub placed : List ℕ → Option Origin → Target → Result Target Refusal
placed directory origin target =
    with_path target (option_map (λ path. resolved Path directory (record { text = path; origin = origin })) target.spec_path)

abbrev pub placed_or : List ℕ → Option Origin → Option Target → Result Target Refusal
placed_or directory origin None = Err (plain spec_name)
placed_or directory origin (Some target) = placed directory origin target

abbrev pub target_for : List ℕ → Word → Result Target Refusal
target_for directory w = placed_or directory w.origin (target_of w.text)
