use Rattle.std.proofs.Common.{refl}
use Rattle.cc2_tables.specs.Http.{http_fields}
use Rattle.cc2_tables.proofs.Steps.{in_fours, steps}
use Rattle.cc2_tables.proofs.http.HttpConfigFields.each_taken.Goals as goal

pub returns : goal.returns
returns g c =
    in_fours _ _ 5 http_fields _ _
    (search steps, (search steps, (search steps, (search steps, (search steps, refl)))))
