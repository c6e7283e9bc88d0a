use Rattle.std.proofs.Common.{◌≡◌, ◌+◌, [], ◌∷◌, ◌++◌, false, length, map, drop, string_bytes, append_assoc, refl, sym, ap, ◌∙◌, subst, arith}
use Rattle.std.proofs.lemmas.Grind.{common_steps}
use Rattle.std.proofs.lemmas.List.{length-map}
use Rattle.cc2_cargo.specs.Loads.{AreFileLayers, layer_of, turned}
use Rattle.cc2_cargo.specs.Expanding.{config_file}
use Rattle.cc2_cargo.proofs.Loading.{all_more, path_cause}
use Rattle.cc2_cargo.proofs.load.file_layers.Goals as goal

pub returns-in-Err-clause-refused : goal.returns-in-Err-clause-refused
returns-in-Err-clause-refused g c fs told =
    let (done, whole, so_far) = c.loop-path.invariant in
    let paths = c.args.paths.now in
    let left = map string_bytes (drop (c.loop-path.path-index + 1) paths) in
    let next : map string_bytes (drop c.loop-path.path-index paths) ≡ c.as_str.result.now ∷ left = grind (arith, common_steps) in
    path_cause fs (map string_bytes paths) done c.as_str.result.now left c.in-Err.fault (whole ∙ ap (λ ps. done ++ ps) next)
    (c.in-Err.ensures.refused fs told)

pub loop-path-preserved : goal.loop-path-preserved
loop-path-preserved g c =
    let (done, whole, so_far) = c.loop-path.invariant in
    let paths = c.args.paths.now in
    let path = c.as_str.result.now in
    let left = map string_bytes (drop (c.loop-path.path-index + 1) paths) in
    let next : map string_bytes (drop c.loop-path.path-index paths) ≡ path ∷ left = grind (arith, common_steps) in
    let before = map layer_of c.loop-path.layers.items in
    let more = map config_file c.in-Ok.list.items in
    let layers = c.loop-path.layers.items in
    let len : c.len-first.result ≡ length layers = grind (arith, common_steps) in
    let count : c.len-first.result ≡ length before = len ∙ sym (length-map layers layer_of) in
    let turn : 0 + length before ≡ c.len-first.result = omega arith ∙ sym count in
    let all : before ++ turned false (0 + length before) more ≡ map layer_of c.in_ok-layers-in-Ok.layers.items =
    ap (λ n. before ++ turned false n more) turn ∙ sym c.in_ok-layers-in-Ok.ensures in (
      done ++ path ∷ [],
      whole ∙ ap (λ ps. done ++ ps) next ∙ sym (append_assoc done (path ∷ []) left),
      λ fs told. subst (λ ls. AreFileLayers fs 0 (done ++ path ∷ []) ls) all
          (all_more fs 0 done before path more (so_far fs told) (c.in-Ok.ensures.ok fs told)),
    )
