use Rattle.cc2_cargo.proofs.cfg_key.key_holds.Goals as goal

pub returns-in-Some-clause-otherwise : goal.returns-in-Some-clause-otherwise
returns-in-Some-clause-otherwise g c =
    λ lacks. c.evaluate.ensures.otherwise (λ tree inside. lacks tree (record {
      inner = c.in-Some.text.now;
      whole = c.in-Some.ensures.some;
      tree_inside = inside;
    }))
