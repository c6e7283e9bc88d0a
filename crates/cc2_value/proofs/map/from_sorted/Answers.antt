use Rattle.std.proofs.Common.{subst, ◌∙◌}
use Rattle.std.proofs.IntoIterSteps.{All-taken}
use Rattle.std.proofs.lemmas.Result.{IfOk-weaker}
use Rattle.std.specs.BTreeMap.{IsFromIterResult}
use Rattle.std.specs.String.{string_cmp}
use Rattle.cc2_value.proofs.SortedMaps.{map_of_sorted}
use Rattle.cc2_value.proofs.map.from_sorted.Goals as goal

pub returns : goal.returns
returns g c =
    IfOk-weaker c.from_iter.result _ _
    (λ m h. map_of_sorted c.args.entries.items m c.requires
    (subst (λ es. IsFromIterResult string_cmp es m) (All-taken h.0 h.1 ((h.3.2 tt).0, (h.3.0, h.3.1, (h.3.2 tt).1)) ∙ h.2.0) h.4)) c.from_iter.ensures.ran
