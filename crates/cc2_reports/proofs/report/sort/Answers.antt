use Rattle.std.proofs.Common.{rules}
use Rattle.std.proofs.lemmas.List.Sorted.{answers_always}
use Rattle.cc2_reports.specs.Order.{place_of}
use Rattle.cc2_reports.proofs.report.sort.Goals as goal

pub returns : goal.returns
returns c =
    let sorted = c.in_ok-sort_by_key.ensures in
    record {
      same = sorted.permutation;
      sorted = sorted.sorted (λ r. place_of r.span) (answers_always _ _ _ (λ f a r g h. search rules));
      stable = sorted.stable (λ r. place_of r.span) (answers_always _ _ _ (λ f a r g h. search rules));
    }
