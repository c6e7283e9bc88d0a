use Rattle.std.proofs.Common.{◌≡◌, ◌+◌, ◌∷◌, Some, map, drop, string_bytes, arith, sym, ap, ◌∙◌}
use Rattle.std.proofs.lemmas.Grind.{common_steps}
use Rattle.cc2_cargo.specs.Expanding.{config_file}
use Rattle.cc2_cargo.specs.Overrides.{repeated}
use Rattle.cc2_cargo.proofs.Overriding.{repeated_here, repeated_later}
use Rattle.cc2_cargo.proofs.overrides.repeated.Goals as goal

pub returns-then-is_among : goal.returns-then-is_among
returns-then-is_among c =
    let seen = map string_bytes c.args.seen.now in
    let s = config_file c.file-item.result in
    let left = map config_file (drop (c.loop-file.file-index + 1) c.args.files.now) in
    let next : map config_file (drop c.loop-file.file-index c.args.files.now) ≡ s ∷ left = grind (arith, common_steps) in
    let among = sym (rw c.as_str.ensures.value at c.if-is_among.ensures) in
    ap Some c.as_str-then-is_among.ensures.value ∙ sym (repeated_here seen s left among) ∙ ap (repeated seen) (sym next) ∙ c.loop-file.invariant

pub loop-file-preserved : goal.loop-file-preserved
loop-file-preserved c =
    let seen = map string_bytes c.args.seen.now in
    let s = config_file c.file-item.result in
    let left = map config_file (drop (c.loop-file.file-index + 1) c.args.files.now) in
    let next : map config_file (drop c.loop-file.file-index c.args.files.now) ≡ s ∷ left = grind (arith, common_steps) in
    let among = sym (rw c.as_str.ensures.value at c.if-is_among.ensures) in
    sym (repeated_later seen s left among) ∙ ap (repeated seen) (sym next) ∙ c.loop-file.invariant
