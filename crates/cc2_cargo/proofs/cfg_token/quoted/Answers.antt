use Rattle.std.proofs.Common.{ℕ, List, get_or, ap, arith, lit<}
use Rattle.std.specs.Prelude.{Some, None}
use Rattle.std.proofs.lemmas.Str.Pattern.{split_parts}
use Rattle.cc2_cfg.proofs.Words.{quoted-some, no-quote}
use Rattle.cc2_cargo.proofs.cfg_token.quoted.Goals as goal

pub returns-in-Some-clause-some : goal.returns-in-Some-clause-some
returns-in-Some-clause-some c =
    let parts = split_parts 34 c.args.body.now (Some (c.in-Some.value, c.in-Some.rest))
    c.in-Some.ensures.cases (lit< tt) in
    record {
      shared = quoted-some c.args.body.now c.in-Some.value.now c.in-Some.rest.now parts.0 parts.1;
      not_raw = λ other e. absurd (omega (arith, ap (λ (z : List ℕ). get_or z 0 0) e));
    }

pub returns-in-None-clause-none : goal.returns-in-None-clause-none
returns-in-None-clause-none c =
    let lacks = split_parts 34 c.args.body.now None c.in-None.ensures.cases (lit< tt) in
    λ v rest. no-quote c.args.body.now v rest lacks
