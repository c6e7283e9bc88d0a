use Rattle.std.proofs.Common.{◌≡◌, ◌+◌, ◌++◌, [], ◌∷◌, length, map, take, drop, sym, ap, subst, ◌∙◌, arith}
use Rattle.std.proofs.lemmas.Grind.{common_steps}
use Rattle.std.proofs.lemmas.List.{take-append-drop, map-append}
use Rattle.cc2_error.proofs.Refused.{err_exit}
use Rattle.cc2_env.specs.CommandLine.{override_of}
use Rattle.cc2_de.specs.LoadedOverrides.{AreOfOverrides}
use Rattle.cc2_de.proofs.Over.{one_more, one_refused}
use Rattle.cc2_de.proofs.apply_overrides.read_overrides.Goals as goal

pub returns-in_err-load_override-clause-refused : goal.returns-in_err-load_override-clause-refused
returns-in_err-load_override-clause-refused g c fs told =
    let os = c.args.overrides.now in
    let at = c.loop-one.one-index in
    let next : map override_of (drop at os) ≡ override_of c.one-item.result ∷ map override_of (drop (at + 1) os) = grind (arith, common_steps) in
    let split : map override_of os ≡ map override_of (take at os) ++ override_of c.one-item.result ∷ map override_of (drop (at + 1) os) =
    ap (map override_of) (sym (take-append-drop at os)) ∙ map-append override_of (take at os) (drop at os)
    ∙ ap (λ xs. map override_of (take at os) ++ xs) next in
    let counted : c.len-number.result + 1 ≡ 1 + length (map override_of (take at os)) = grind (arith, common_steps, c.loop-one.invariant.counted) in
    err_exit c.from_residual.result _ _ c.from_residual.ensures.1
    (one_refused fs c.args.directory.now (map override_of os) (map override_of (take at os)) (map override_of (drop (at + 1) os))
    (override_of c.one-item.result) (c.len-number.result + 1) _ split counted (c.in_err-load_override.ensures.refused fs told))

pub loop-one-preserved : goal.loop-one-preserved
loop-one-preserved g c =
    let os = c.args.overrides.now in
    let at = c.loop-one.one-index in
    let so_far = c.loop-one.invariant in record {
      counted = grind (arith, common_steps, so_far.counted);
      read = λ fs told.
          let more : map override_of (take (at + 1) os) ≡ map override_of (take at os) ++ override_of c.one-item.result ∷ [] = grind (arith, common_steps) in
          let pushed : c.push.new.self.items ≡ c.loop-one.read.items ++ c.in_ok-load_override.field-0 ∷ [] = grind (arith, common_steps) in
          subst (λ cs. AreOfOverrides fs c.args.directory.now (map override_of (take (at + 1) os)) cs) (sym pushed)
          (subst (λ all. AreOfOverrides fs c.args.directory.now all (c.loop-one.read.items ++ c.in_ok-load_override.field-0 ∷ [])) (sym more)
          (one_more fs c.args.directory.now (map override_of (take at os)) (override_of c.one-item.result) c.loop-one.read.items
          c.in_ok-load_override.field-0 (so_far.read fs told) (c.in_ok-load_override.ensures.ok fs told)));
    }
