use Rattle.std.proofs.Common.{rules, ◌≡◌, [], ◌∷◌, ◌++◌, map, arith, append_assoc, sym, ap, ◌∙◌, subst}
use Rattle.std.proofs.lemmas.Grind.{common_steps}
use Rattle.std.proofs.lemmas.List.{map-append}
use Rattle.cc2_cargo.specs.Loads.{IsLayerCause, layer_cells, layer_of}
use Rattle.cc2_cargo.specs.Merging.{IsRawMapOf}
use Rattle.cc2_cargo.specs.Raw.{raw_members_at}
use Rattle.cc2_cargo.proofs.Grouping.{of_groups}
use Rattle.cc2_cargo.proofs.Layering.{layer_cause}
use Rattle.cc2_cargo.proofs.layer.merged.Goals as goal

pub returns-in_err-merged-clause-refused : goal.returns-in_err-merged-clause-refused
returns-in_err-merged-clause-refused c =
    let (done, whole, faultless, is) = c.layers.invariant in
    let s = layer_of c.in-Some.layer in
    let before = map layer_of c.pop.new.self.items in
    let popped : c.layers.left.items ≡ c.pop.new.self.items ++ c.in-Some.layer ∷ [] = grind (arith, common_steps) in
    let all : map layer_of c.args.layers.items ≡ before ++ s ∷ done =
    whole ∙ ap (λ ls. map layer_of ls ++ done) popped ∙ ap (λ ss. ss ++ done) (map-append layer_of c.pop.new.self.items (c.in-Some.layer ∷ []))
    ∙ append_assoc before (s ∷ []) done in
    let why = c.in_err-merged.field-0.0 in
    let cause : IsLayerCause (map layer_of c.args.layers.items) why =
    subst (λ ss. IsLayerCause ss why) (sym all) (layer_cause before s done (raw_members_at c.layers.merged) why is c.in_err-merged.ensures.refused) in
    search rules

pub returns-clause-grouped : goal.returns-clause-grouped
returns-clause-grouped c =
    let (done, whole, faultless, is) = c.layers.invariant in
    let layers = map layer_of c.args.layers.items in
    let look = raw_members_at c.layers.merged in
    let empty : c.layers.left.items ≡ [] = grind (arith, common_steps) in
    let all : layers ≡ done = whole ∙ ap (λ ls. map layer_of ls ++ done) empty in
    of_groups layers look (subst (λ ss. IsRawMapOf layer_cells ss look) (sym all) is)
