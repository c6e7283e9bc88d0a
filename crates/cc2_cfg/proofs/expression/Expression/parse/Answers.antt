use Rattle.std.proofs.Common.{ap, sym, refl, subst, List, ℕ, map}
use Rattle.std.specs.Prelude.{Some, Result}
use Rattle.cc2_cfg.specs.Tokens.{IsStripped}
use Rattle.cc2_cfg.specs.Grammar.{IsTree, Tree}
use Rattle.cc2_cfg.specs.Lexing.{lexeme_of}
use Rattle.cc2_cfg.specs.Machine.{Start, step, finish}
use Rattle.cc2_cfg.specs.Reading.{frame_place}
use Rattle.cc2_cfg.specs.Table.{row_of}
use Rattle.cc2_cfg.specs.Planting.{tree_from}
use Rattle.cc2_cfg.specs.Steps.{lexer_gives}
use Rattle.cc2_cfg.specs.declared.expression.Node.{Node}
use Rattle.cc2_cfg.specs.declared.parser.Frame.{Frame}
use Rattle.cc2_cfg.specs.declared.lexer.LexerToken.{LexerToken}
use Rattle.cc2_error.specs.declared.cfg_error.LexFault.{LexFault}
use Rattle.cc2_cfg.proofs.Accepting.{going-start, going-step, going-stuck, going-refused, end-refused}
use Rattle.cc2_cfg.proofs.Accepting.{end-accepted, stepped-true, stepped-false, one-tree, finished-true}
use Rattle.cc2_cfg.proofs.Accepting.{finished-false}
use Rattle.cc2_cfg.proofs.Planting.{table-planted, tree_from-table}
use Rattle.cc2_cfg.proofs.Refusals.{refusal-seen, refusal-blank}
use Rattle.cc2_cfg.proofs.expression.Expression.parse.Goals as goal

pub tokens-init : goal.tokens-init
tokens-init c = (
  c.new-lexer.ensures.start.running,
  (
    Start,
    record {
      phase = refl;
      table = ap (λ (z : List Node). map row_of z) c.new.ensures.items;
      stack =
          ap (λ (z : List Frame). map frame_place z) c.new-2.ensures.items;
    },
    going-start c.new-lexer.result.rest.now c.new-lexer.result.rest.now refl,
  ),
)

pub tokens-preserved : goal.tokens-preserved
tokens-preserved c =
    let t = lexeme_of c.in-Ok.found.token in
    let s = c.tokens.invariant.1.0 in
    let gives = subst (λ (z : Result LexerToken LexFault). lexer_gives c.tokens.lexer (Some z)
    c.next.new.self) c.in-Ok.is c.in-Some.ensures.steps in
    let next = stepped-true (step s t) c.in_ok-accept-in-Ok.field-0 c.accept.new.self
    (c.in_ok-accept-in-Ok.ensures s c.tokens.invariant.1.1) c.if-not-branch.false in (
      gives.running.1,
      (
        next.0,
        next.2,
        going-step c.new-lexer.result.rest.now c.tokens.lexer.rest.now c.next.new.self.rest.now t s
            next.0 gives.begins next.1 c.tokens.invariant.1.2,
      ),
    )

pub returns-then-is_blank-clause-refused : goal.returns-then-is_blank-clause-refused
returns-then-is_blank-clause-refused c =
    refusal-blank c.args.text.now c.new-lexer.result.original.now c.refused.result c.refused.ensures
    c.new-lexer.ensures.stripped (c.is_blank.ensures.yes c.if-is_blank.true)

pub returns-then-not-branch-clause-refused : goal.returns-then-not-branch-clause-refused
returns-then-not-branch-clause-refused c =
    let t = lexeme_of c.in-Ok.found.token in
    let s = c.tokens.invariant.1.0 in
    let strip = subst (λ (z : List ℕ). IsStripped c.args.text.now z)
    (sym c.new-lexer.ensures.start.whole) c.new-lexer.ensures.stripped in
    let gives = subst (λ (z : Result LexerToken LexFault). lexer_gives c.tokens.lexer (Some z)
    c.next.new.self) c.in-Ok.is c.in-Some.ensures.steps in
    let none = stepped-false (step s t) c.in_ok-accept-in-Ok.field-0 c.accept.new.self
    (c.in_ok-accept-in-Ok.ensures s c.tokens.invariant.1.1) c.if-not-branch.true in
    refusal-seen c.args.text.now c.new-lexer.result.original.now c.unexpected-fault.result.reason
    c.refused-then-not-branch.result c.refused-then-not-branch.ensures
    c.new-lexer.ensures.stripped (c.is_blank.ensures.no c.if-is_blank.false) c.unexpected-fault.ensures
    (going-refused c.args.text.now c.new-lexer.result.rest.now c.tokens.lexer.rest.now
    c.next.new.self.rest.now t s strip c.tokens.invariant.1.2 gives.begins none)

pub returns-in-Err-clause-refused : goal.returns-in-Err-clause-refused
returns-in-Err-clause-refused c =
    let strip = subst (λ (z : List ℕ). IsStripped c.args.text.now z)
    (sym c.new-lexer.ensures.start.whole) c.new-lexer.ensures.stripped in
    let gives = subst (λ (z : Result LexerToken LexFault). lexer_gives c.tokens.lexer (Some z)
    c.next.new.self) c.in-Err.is c.in-Some.ensures.steps in
    refusal-seen c.args.text.now c.new-lexer.result.original.now c.in-Err.fault.reason
    c.refused-in-Err.result c.refused-in-Err.ensures
    c.new-lexer.ensures.stripped (c.is_blank.ensures.no c.if-is_blank.false) gives.seen
    (going-stuck c.args.text.now c.new-lexer.result.rest.now c.tokens.lexer.rest.now
    c.tokens.invariant.1.0 strip c.tokens.invariant.1.2 gives.stuck)

pub returns-then-not-branch-2-clause-refused : goal.returns-then-not-branch-2-clause-refused
returns-then-not-branch-2-clause-refused c =
    let s = c.tokens.invariant.1.0 in
    let strip = subst (λ (z : List ℕ). IsStripped c.args.text.now z)
    (sym c.new-lexer.ensures.start.whole) c.new-lexer.ensures.stripped in
    let blank = c.in_default.ensures.steps.blank c.tokens.invariant.0 in
    let none = finished-false (finish s) c.in_ok-finish.field-0 c.finish.new.self
    (c.in_ok-finish.ensures s c.tokens.invariant.1.1) c.if-not-branch-2.true in
    refusal-seen c.args.text.now c.new-lexer.result.original.now c.unfinished-fault.result.reason
    c.refused-then-not-branch-2.result c.refused-then-not-branch-2.ensures
    c.new-lexer.ensures.stripped (c.is_blank.ensures.no c.if-is_blank.false) c.unfinished-fault.ensures
    (end-refused c.args.text.now c.new-lexer.result.rest.now c.tokens.lexer.rest.now s strip
    c.tokens.invariant.1.2 blank none)

pub invariant_of-result : goal.invariant_of-result
invariant_of-result c =
    let s = c.tokens.invariant.1.0 in
    let done = finished-true (finish s) c.in_ok-finish.field-0 c.finish.new.self
    (c.in_ok-finish.ensures s c.tokens.invariant.1.1) c.if-not-branch-2.false in
    record { table = table-planted c.finish.new.self.nodes.items done.0 done.2 }

pub returns-clause-accepted : goal.returns-clause-accepted
returns-clause-accepted c =
    let s = c.tokens.invariant.1.0 in
    let strip = subst (λ (z : List ℕ). IsStripped c.args.text.now z)
    (sym c.new-lexer.ensures.start.whole) c.new-lexer.ensures.stripped in
    let blank = c.in_default.ensures.steps.blank c.tokens.invariant.0 in
    let done = finished-true (finish s) c.in_ok-finish.field-0 c.finish.new.self
    (c.in_ok-finish.ensures s c.tokens.invariant.1.1) c.if-not-branch-2.false in
    let found = end-accepted c.args.text.now c.new-lexer.result.rest.now c.tokens.lexer.rest.now s
    done.0 strip c.tokens.invariant.1.2 blank done.1 in (
      found.0,
      found.1,
      subst (λ (z : Tree). IsTree found.0 z)
          (sym (tree_from-table c.finish.new.self.nodes.items done.0 done.2)) found.2,
    )

pub returns-clause-only : goal.returns-clause-only
returns-clause-only c = λ tokens tree spelled is.
    let mine = returns-clause-accepted c in
    one-tree c.args.text.now tokens mine.0 tree (tree_from c.finish.new.self.nodes.items) spelled is mine.1 mine.2
