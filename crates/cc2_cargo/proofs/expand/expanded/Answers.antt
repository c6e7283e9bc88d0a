use Rattle.std.proofs.Common.{◌≡◌, [], ◌∷◌, false, map, reverse, arith, ap, ◌∙◌}
use Rattle.std.proofs.lemmas.Grind.{common_steps}
use Rattle.cc2_cargo.specs.Expanding.{required}
use Rattle.cc2_cargo.specs.Includes.{include_view}
use Rattle.cc2_cargo.proofs.Expansions.{one_ok, one_refused}
use Rattle.cc2_cargo.proofs.expand.expanded.Goals as goal

pub returns-clause-ok : goal.returns-clause-ok
returns-clause-ok g c fs told =
    let one : c.push.new.self.items ≡ record { path = c.in_ok-path.path; optional = false } ∷ [] = grind (arith, common_steps) in
    let next : reverse (map include_view c.push.new.self.items) ≡ required c.args.path.now ∷ [] =
    ap (λ es. reverse (map include_view es)) one ∙ ap (λ p. required p ∷ []) c.in_ok-path.ensures.ok in
    one_ok fs c.args.path.now _ c.expanded_all.result next (c.expanded_all.ensures.ok fs told)

pub returns-clause-refused : goal.returns-clause-refused
returns-clause-refused g c fs told =
    let one : c.push.new.self.items ≡ record { path = c.in_ok-path.path; optional = false } ∷ [] = grind (arith, common_steps) in
    let next : reverse (map include_view c.push.new.self.items) ≡ required c.args.path.now ∷ [] =
    ap (λ es. reverse (map include_view es)) one ∙ ap (λ p. required p ∷ []) c.in_ok-path.ensures.ok in
    one_refused fs c.args.path.now _ c.expanded_all.result next (c.expanded_all.ensures.refused fs told)
