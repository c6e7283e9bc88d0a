use Rattle.std.proofs.Common.{◌≡◌, drop, map}
use Rattle.cc2_cargo_target.specs.Settling.{have_cfg}
use Rattle.cc2_cargo_target.proofs.settle.have_cfg.Given as goal

abbrev pub invariant-loop-key : goal.invariant-loop-key
invariant-loop-key l = have_cfg (map (λ k. k.now) (drop l.key-index l.keys)) ≡ have_cfg (map (λ k. k.now) l.keys)
