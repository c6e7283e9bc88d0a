-- Which layers of a configuration are shown.
use Rattle.std.specs.Prelude.{ℕ, List, map}
use Rattle.cc2_cargo_answers.specs.declared.layers.Layers.{Layers}
use Rattle.cc2_cargo_answers.specs.declared.layers.Layers.TheVariants as code

-- the files alone; or the files under the variables of the environment and these overrides, the strongest last
pub data LayersShown : Type 0 where
  files : LayersShown
  all : List (List ℕ) → LayersShown

abbrev pub layers_view : Layers → LayersShown
layers_view code.Files = files
layers_view (code.All os) = all (map (λ text. text.now) os.now)
