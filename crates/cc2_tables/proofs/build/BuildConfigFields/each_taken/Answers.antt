use Rattle.std.proofs.Common.{refl}
use Rattle.cc2_tables.specs.Build.{build_fields}
use Rattle.cc2_tables.proofs.Steps.{in_fours, steps}
use Rattle.cc2_tables.proofs.build.BuildConfigFields.each_taken.Goals as goal

pub returns : goal.returns
returns g c =
    in_fours _ _ 5 build_fields _ _
    (search steps, (search steps, (search steps, (search steps, (search steps, refl)))))
