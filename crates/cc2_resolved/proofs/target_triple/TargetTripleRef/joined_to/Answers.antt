use Rattle.std.proofs.Common.{string_bytes}
use Rattle.std.specs.Cow.{cow_str_bytes}
use Rattle.cc2_resolved.proofs.JoinedTargets.{target_joined}
use Rattle.cc2_resolved.proofs.target_triple.TargetTripleRef.joined_to.Goals as goal

pub invariant_of-result : goal.invariant_of-result
invariant_of-result c = record {
  has_triple = (target_joined c.args.root.now (cow_str_bytes c.args.self.now.text) c.in-Some.path.now
      (string_bytes c.in_ok-join-in-Some.field-0)
      c.args.self.now.has_triple c.in-Some.ensures c.in_ok-join-in-Some.ensures).0;
}

pub returns-in_ok-join-in-Some-clause-joined : goal.returns-in_ok-join-in-Some-clause-joined
returns-in_ok-join-in-Some-clause-joined c =
    (target_joined c.args.root.now (cow_str_bytes c.args.self.now.text) c.in-Some.path.now
    (string_bytes c.in_ok-join-in-Some.field-0) c.args.self.now.has_triple c.in-Some.ensures
    c.in_ok-join-in-Some.ensures).1
