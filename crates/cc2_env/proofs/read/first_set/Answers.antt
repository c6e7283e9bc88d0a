use Rattle.std.proofs.Common.{ℕ, ◌+◌, List, Bor, map, drop, sym, ap, ◌∙◌}
use Rattle.std.proofs.lemmas.List.{drop_more}
use Rattle.cc2_env.specs.Options.{variables_of}
use Rattle.cc2_env.specs.Reads.{first_value}
use Rattle.cc2_env.proofs.Reading.{name_past}
use Rattle.cc2_env.proofs.read.first_set.Goals as goal

pub loop-name-preserved : goal.loop-name-preserved
loop-name-preserved c =
    let vars = variables_of c.args.context.now in
    let names : List (Bor (List ℕ)) = c.args.names.now in
    let left : List (Bor (List ℕ)) = drop (c.loop-name.name-index + 1) names in
    name_past vars _ (map (λ name. name.now) left) c.in_default.ensures
    ∙ (sym (ap (λ (ns : List (Bor (List ℕ))). first_value vars (map (λ name. name.now) ns))
    (drop_more names c.loop-name.name-index _ c.loop-name-test.true))
    ∙ c.loop-name.invariant)
