use Rattle.std.proofs.Common.{◌≡◌, ◌<◌, ℕ, List, [], ◌∷◌, length, refl, sym, arith, lit<, rules}
use Rattle.std.specs.Prelude.{Some, None, true, ◌==◌}
use Rattle.std.proofs.lemmas.Bool.{eqb-false, eqb-true}
use Rattle.std.proofs.lemmas.Str.Pattern.{strip_prefix_char}
use Rattle.cc2_cfg.specs.Meaning.{predicates_of}
use Rattle.cc2_cargo.specs.Machine.{ReaderState, start, next_state}
use Rattle.cc2_cargo.specs.Reading.{token_of}
use Rattle.cc2_cargo.proofs.Asking.{flag-unknown, unknown}
use Rattle.cc2_cargo.proofs.Going.{Asks, Going, going-start, going-space, going-step, going-stuck}
use Rattle.cc2_cargo.proofs.Going.{going-refused, going-deep, going-covers, end-covers, end-value, end-otherwise}
use Rattle.cc2_cargo.proofs.Steps.{stepped-true, stepped-false, stepped-to}
use Rattle.cc2_cargo.proofs.cfg_key.evaluate.Goals as goal

-- the text has ended where nothing is left
ended : (text rest : List ℕ) (s : ReaderState) → (length rest == 0) ≡ true → Going text rest s → Going text [] s
ended text [] s e g = g
ended text (b ∷ rest) s e g = absurd (omega (arith, eqb-true (length (b ∷ rest)) 0 e))

pub tokens-init : goal.tokens-init
tokens-init g c =
    (search rules, c.requires, (start, going-start c.args.text.now, λ known asked a again. (again, c.new-reader.ensures known)))

pub tokens-preserved-in-Some : goal.tokens-preserved-in-Some
tokens-preserved-in-Some g c =
    let inv = c.tokens.invariant in
    let whole = strip_prefix_char 32 c.tokens.rest.now (Some c.in-Some.behind) c.in-Some.ensures.cases (lit< tt) in (
      search rules,
      inv.1,
      (inv.2.0, going-space c.args.text.now c.tokens.rest.now c.in-Some.behind.now inv.2.0 whole inv.2.1, inv.2.2),
    )

pub returns-in_default-front-clause-value : goal.returns-in_default-front-clause-value
returns-in_default-front-clause-value g c = λ tree answers inside always.
    let inv = c.tokens.invariant in
    let rest = c.tokens.rest.now in
    let some : 0 < length rest = let ne = eqb-false (length rest) 0 (sym c.tokens-test.ensures) in omega (arith, ne) in
    absurd (going-stuck c.args.text.now rest inv.2.0 tree inv.2.1 some
    (strip_prefix_char 32 rest None c.in_default.ensures.cases (lit< tt)) c.in_default-front.ensures.none inside)

pub returns-then-not-branch-clause-value : goal.returns-then-not-branch-clause-value
returns-then-not-branch-clause-value g c = λ tree answers inside always.
    let inv = c.tokens.invariant in
    let s = inv.2.0 in
    let t = token_of c.in-Some-front.token in
    let none = stepped-false (next_state s t) c.in_ok-accept.field-0 c.accept.new.self
    (c.in_ok-accept.ensures.next None [] s tt (inv.2.2 None [] tt tt).1 (unknown [] s t)) c.if-not-branch.true in
    absurd (going-refused c.args.text.now c.tokens.rest.now c.in-Some-front.behind.now t s tree inv.2.1
    c.in-Some-front.ensures.some none inside)

pub returns-in_err-accept-clause-flat : goal.returns-in_err-accept-clause-flat
returns-in_err-accept-clause-flat g c = λ tree inside flat.
    let inv = c.tokens.invariant in
    let opens = c.in_err-accept.ensures.inside None inv.2.0 (inv.2.2 None [] tt tt).1 in
    absurd (going-deep c.args.text.now c.tokens.rest.now c.in-Some-front.behind.now (token_of c.in-Some-front.token)
    inv.2.0 tree inv.2.1 c.in-Some-front.ensures.some opens inside flat)

pub tokens-preserved : goal.tokens-preserved
tokens-preserved g c =
    let inv = c.tokens.invariant in
    let s = inv.2.0 in
    let t = token_of c.in-Some-front.token in
    let front = c.in-Some-front.ensures.some in
    let next = stepped-true (next_state s t) c.in_ok-accept.field-0 c.accept.new.self
    (c.in_ok-accept.ensures.next None [] s tt (inv.2.2 None [] tt tt).1 (unknown [] s t)) c.if-not-branch.false in (
      search rules,
      c.in_ok-accept.ensures.callable,
      (
        next.0,
        going-step c.args.text.now c.tokens.rest.now c.in-Some-front.behind.now t s next.0 front next.1 inv.2.1,
        λ known asked a again.
            let w = inv.2.2 known asked a again in
            let covers = going-covers known asked c.args.text.now c.tokens.rest.now c.in-Some-front.behind.now t s a inv.2.1 front in (
              c.in_ok-accept.ensures.again known asked s w.0 w.1 covers,
              stepped-to known (next_state s t) next.0 c.in_ok-accept.field-0 c.accept.new.self next.1
                  (c.in_ok-accept.ensures.next known asked s w.0 w.1 covers),
            ),
      ),
    )

pub returns-clause-value : goal.returns-clause-value
returns-clause-value g c = λ tree answers inside always.
    let inv = c.tokens.invariant in
    let s = inv.2.0 in
    let text = c.args.text.now in
    let asks : Asks (Some answers) (predicates_of tree) text = (tree, inside, refl) in
    let w = inv.2.2 (Some answers) (predicates_of tree) asks always in
    let going = ended text c.tokens.rest.now s (sym c.tokens-test.ensures) inv.2.1 in
    end-value answers text s tree c.finish.result going inside
    (c.finish.ensures (Some answers) (predicates_of tree) s w.0 w.1
    (end-covers (Some answers) (predicates_of tree) text s asks going))

pub returns-clause-otherwise : goal.returns-clause-otherwise
returns-clause-otherwise g c = λ lacks.
    let inv = c.tokens.invariant in
    let s = inv.2.0 in
    let text = c.args.text.now in
    let going = ended text c.tokens.rest.now s (sym c.tokens-test.ensures) inv.2.1 in
    end-otherwise text s c.finish.result going
    (c.finish.ensures None [] s tt (inv.2.2 None [] tt tt).1 (flag-unknown [] s)) lacks
