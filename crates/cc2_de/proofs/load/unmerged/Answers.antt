use Rattle.std.proofs.Common.{◌≡◌, ◌+◌, ◌++◌, [], ◌∷◌, map, take, string_bytes, ap, sym, ◌∙◌, arith}
use Rattle.std.proofs.lemmas.Grind.{common_steps}
use Rattle.std.proofs.lemmas.List.{map-append, take-map}
use Rattle.cc2_de.proofs.load.unmerged.Goals as goal

pub returns : goal.returns
returns c =
    let paths = c.args.paths.now in
    let place = c.args.place in
    let item = c.index-paths-place.result in
    let same : string_bytes item ≡ c.as_str.result.now = grind (arith, common_steps) in
    let at_list : take (place + 1) paths ≡ take place paths ++ item ∷ [] = grind (arith, common_steps, c.requires) in
    let at_place : take (place + 1) (map string_bytes paths) ≡ take place (map string_bytes paths) ++ c.as_str.result.now ∷ [] =
    take-map string_bytes (place + 1) paths ∙ ap (map string_bytes) at_list ∙ map-append string_bytes (take place paths) (item ∷ [])
    ∙ ap (λ ps. ps ++ string_bytes item ∷ []) (sym (take-map string_bytes place paths))
    ∙ ap (λ b. take place (map string_bytes paths) ++ b ∷ []) same in
    let at_first : take 1 (map string_bytes paths) ≡ c.as_str-2.result.now ∷ [] = grind (arith, common_steps, c.requires) in
    record {
      path = c.as_str.result.now;
      nearest = c.as_str-2.result.now;
      first = at_first;
      next = at_place;
      told = c.merging.ensures;
    }
