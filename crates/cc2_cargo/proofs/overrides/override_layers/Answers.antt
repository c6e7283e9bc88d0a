use Rattle.std.proofs.Common.{◌≡◌, ◌+◌, [], ◌∷◌, ◌++◌, map, drop, string_bytes, append_assoc, sym, ap, ◌∙◌, arith}
use Rattle.std.proofs.lemmas.Grind.{common_steps}
use Rattle.cc2_cargo.specs.Overrides.{none_read, read_of}
use Rattle.cc2_cargo.proofs.Overriding.{reads_more}
use Rattle.cc2_cargo.proofs.overrides.override_layers.Goals as goal

pub loop-text-preserved : goal.loop-text-preserved
loop-text-preserved g c =
    let (done, whole, so_far) = c.loop-text.invariant in
    let overrides = c.args.overrides.now in
    let text = c.as_str.result.now in
    let left = map string_bytes (drop (c.loop-text.text-index + 1) overrides) in
    let next : map string_bytes (drop c.loop-text.text-index overrides) ≡ text ∷ left = grind (arith, common_steps) in (
      done ++ text ∷ [],
      whole ∙ ap (λ ps. done ++ ps) next ∙ sym (append_assoc done (text ∷ []) left),
      λ fs told. reads_more fs c.args.dir.now done text none_read (read_of c.loop-text.read) (read_of c.in_ok-read.read) (so_far fs told)
          (c.in_ok-read.ensures.ok fs told),
    )
