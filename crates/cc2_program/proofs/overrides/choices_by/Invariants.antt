use Rattle.std.proofs.Common.{◌≡◌, map, take, string_bytes}
use Rattle.std.specs.Prelude.{flat_map}
use Rattle.cc2_base.specs.Told.{WhereTold}
use Rattle.cc2_program.specs.Overrides.{pair_by}
use Rattle.cc2_program.proofs.overrides.choices_by.Given as goal

abbrev pub invariant-loop-config : goal.invariant-loop-config
invariant-loop-config g l =
    WhereTold (g.F.Files.told l.files) (λ fs.
    map string_bytes l.words.items ≡ flat_map (pair_by fs l.dir) (map (λ c. c.now) (take l.config-index l.configs)))
