use Rattle.std.proofs.Common.{◌≡◌, [], ◌∷◌, ◌++◌, map, reverse, arith, rules, subst}
use Rattle.std.proofs.lemmas.Grind.{common_steps}
use Rattle.std.proofs.lemmas.Result.{err_from_is_err_and}
use Rattle.cc2_cargo.specs.Expanding.{config_file}
use Rattle.cc2_cargo.specs.Includes.{include_view}
use Rattle.cc2_cargo.specs.Readings.{Reaches, start, state_before, state_of}
use Rattle.cc2_cargo.proofs.Expansions.{all_included, ended, reaches_more, started, stopped, taken_off}
use Rattle.cc2_cargo.proofs.expand.expanded_all.Goals as goal

pub files-init : goal.files-init
files-init g c = record {
  marked = search rules;
  reached = λ fs told. ([], started c.new-read.result c.args.first c.new-read.ensures.items);
}

pub files-preserved : goal.files-preserved
files-preserved g c = record {
  marked = search rules;
  reached = λ fs told.
      let (us, reached) = c.files.invariant.reached fs told in
      let first = start (reverse (map include_view c.args.first.items)) in
      let off = taken_off c.files.read c.files.next c.pop.new.self c.in-Some.include c.in-Some.ensures.items in
      let t = state_before c.files.read c.in-Some.include c.pop.new.self in
      let v = state_of c.read_next.new.read c.read_next.new.next in (
        us ++ v ∷ [],
        reaches_more fs first us t v (subst (λ s. Reaches fs first us s) off reached) (c.in_ok-read_next-in-Some.ensures.ok fs told),
      );
}

pub returns-in-None-clause-ok : goal.returns-in-None-clause-ok
returns-in-None-clause-ok g c fs told =
    let (us, reached) = c.files.invariant.reached fs told in
    let first = reverse (map include_view c.args.first.items) in
    let empty : c.files.next.items ≡ [] = grind (arith, common_steps) in
    all_included fs first us (map config_file c.files.read.items)
    (subst (λ s. Reaches fs (start first) us s) (ended c.files.read c.files.next empty) reached)

pub returns-in_err-read_next-in-Some-clause-refused : goal.returns-in_err-read_next-in-Some-clause-refused
returns-in_err-read_next-in-Some-clause-refused g c fs told =
    let (us, reached) = c.files.invariant.reached fs told in
    let first = reverse (map include_view c.args.first.items) in
    let off = taken_off c.files.read c.files.next c.pop.new.self c.in-Some.include c.in-Some.ensures.items in
    let p = err_from_is_err_and c.from_residual.result c.from_residual.ensures.1 in
    rw (p.1, p.2) (stopped fs first us c.files.read c.in-Some.include c.pop.new.self _
    (subst (λ s. Reaches fs (start first) us s) off reached) (c.in_err-read_next-in-Some.ensures.refused fs told))
