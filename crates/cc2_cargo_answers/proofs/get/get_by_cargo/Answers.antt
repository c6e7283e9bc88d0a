use Rattle.std.proofs.Common.{ℕ, List, map, option_map, Bor, sym, subst}
use Rattle.std.proofs.lemmas.Option.{IfSome_then}
use Rattle.cc2_show_answers.specs.ShowQuestions.{IsKeyIn}
use Rattle.cc2_cargo_answers.specs.Gives.{without_memory}
use Rattle.cc2_cargo_answers.proofs.get.get_by_cargo.Goals as goal

pub returns-in-Ok-clause-unkeyed : goal.returns-in-Ok-clause-unkeyed
returns-in-Ok-clause-unkeyed g c no_key = absurd (no_key (map (λ p. p.now) c.in-Ok.pieces.items) c.in-Ok.ensures.pieces)

pub returns-in-Ok-clause-told : goal.returns-in-Ok-clause-told
returns-in-Ok-clause-told g c fs tree reals real =
    c.get_at-told.ensures
    (subst (λ (pieces : List (Bor (List ℕ))). IsKeyIn (option_map (λ k. k.now) c.args.request.key) (map (λ p. p.now) pieces))
    (sym c.as_slice-pieces.ensures.value) c.in-Ok.ensures.pieces)
    fs tree reals real

pub returns-in-Err-clause-told : goal.returns-in-Err-clause-told
returns-in-Err-clause-told g c fs tree reals real =
    IfSome_then c.in-Err.instead c.in-Err.ensures.refused (λ told lacks. without_memory lacks)
