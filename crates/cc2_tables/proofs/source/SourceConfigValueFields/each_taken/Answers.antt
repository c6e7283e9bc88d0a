use Rattle.std.proofs.Common.{refl}
use Rattle.cc2_tables.specs.Source.{source_fields}
use Rattle.cc2_tables.proofs.Steps.{in_fours, steps}
use Rattle.cc2_tables.proofs.source.SourceConfigValueFields.each_taken.Goals as goal

pub returns : goal.returns
returns g c =
    in_fours _ _ 5 source_fields _ _
    (search steps, (search steps, (search steps, (search steps, (search steps, refl)))))
