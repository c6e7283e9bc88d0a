use Rattle.std.proofs.Common.{◌≡◌, ◌<◌, ℕ, List, true, string_bytes, sym, ap, subst, ◌∙◌}
use Rattle.std.proofs.lemmas.List.{get_or-map, length-map}
use Rattle.cc2_ask.specs.Needs.{is_listed}
use Rattle.cc2_ask.proofs.needs.push_contents.Goals as goal

pub loop-path-preserved : goal.loop-path-preserved
loop-path-preserved c =
    let paths = c.args.paths.now in
    let at = c.loop-path.path-index in
    let path = c.path-item.result in
    record {
      new = λ h. c.in_ok-push_new.ensures.new (c.loop-path.invariant.new h);
      listed = λ all each h.
          let is_one = subst (λ (p : List ℕ). is_listed p all ≡ true)
          (get_or-map string_bytes paths at path (string_bytes path) c.loop-path-test.true
          ∙ ap string_bytes (sym c.path-item.is) ∙ sym c.in_ok-clone.ensures.cases)
          (each at (string_bytes path) (subst (λ (n : ℕ). at < n) (sym (length-map paths string_bytes)) c.loop-path-test.true)) in
          c.in_ok-push_new.ensures.listed all is_one (c.loop-path.invariant.listed all each h);
    }
