use Rattle.std.proofs.Common.{◌<◌, ◌≤◌, length, take, refl, ap, sym, arith}
use Rattle.std.proofs.lemmas.Bool.{eqb-false}
use Rattle.std.proofs.lemmas.Str.{IsCharBoundary-end}
use Rattle.cc2_cfg.specs.Lexing.{lexeme_of}
use Rattle.cc2_cfg.proofs.Blanks.{begins-from}
use Rattle.cc2_cfg.proofs.Places.{IsEnd, trim-end, next-end, front-length, token-slice, no-tokens}
use Rattle.cc2_cfg.proofs.Places.{before-fault, char-first}
use Rattle.cc2_cfg.proofs.lexer.LexerIterator.next.Goals as goal

pub invariant_of-self : goal.invariant_of-self
invariant_of-self c =
    let o = c.args.self.now.original.now in
    let r = c.trim_start-text.result.now in
    let here : IsEnd c.args.self.now.rest.now o = record {
      room = c.args.self.now.room;
      suffix =
          c.args.self.now.suffix;
    } in
    let next = next-end o r c.in-Some.rest.now (lexeme_of c.in-Some.token)
    (trim-end o c.args.self.now.rest.now r here c.trim_start-text.ensures.value) c.in-Some.ensures.some in
    record { room = next.room; suffix = next.suffix }

pub returns-in-Some-clause-steps : goal.returns-in-Some-clause-steps
returns-in-Some-clause-steps c =
    let o = c.args.self.now.original.now in
    let s = c.args.self.now.rest.now in
    let r = c.trim_start-text.result.now in
    let rest = c.in-Some.rest.now in
    let t = lexeme_of c.in-Some.token in
    let here : IsEnd s o = record { room = c.args.self.now.room; suffix = c.args.self.now.suffix } in
    let trimmed = trim-end o s r here c.trim_start-text.ensures.value in
    let size = front-length r rest t c.in-Some.ensures.some in
    let room : length r ≤ length o = trimmed.room in
    record {
      running = (c.if-self.false, c.if-self.false);
      original = refl;
      begins = begins-from s r t rest c.trim_start-text.ensures.value c.in-Some.ensures.some;
      start = omega arith;
      end = omega arith;
      slice = token-slice o r rest t trimmed c.in-Some.ensures.some;
    }

pub returns-then-starts_with-clause-steps : goal.returns-then-starts_with-clause-steps
returns-then-starts_with-clause-steps c =
    let o = c.args.self.now.original.now in
    let s = c.args.self.now.rest.now in
    let r = c.trim_start-text.result.now in
    let here : IsEnd s o = record { room = c.args.self.now.room; suffix = c.args.self.now.suffix } in
    let trim = c.trim_start-text.ensures.value in
    let trimmed = trim-end o s r here trim in
    let room : length r ≤ length o = trimmed.room in
    let some : 0 < length r = let ne = eqb-false (length r) 0 (sym c.if-is_empty.ensures) in omega (arith, ne) in
    record {
      running = c.if-self.false;
      ended = refl;
      original = refl;
      stuck = no-tokens s r trim (λ e. absurd (omega (arith, ap length e))) c.in-None.ensures.none;
      space = take trim.0 s;
      blank = trim.2;
      before = before-fault o s r trim trimmed;
      ordered = omega arith;
      within = omega arith;
      first = char-first o r trimmed c.trim_start-text.utf8;
      last = IsCharBoundary-end o;
      seen = λ e. cc e;
    }

pub returns-else-starts_with-clause-steps : goal.returns-else-starts_with-clause-steps
returns-else-starts_with-clause-steps c =
    let o = c.args.self.now.original.now in
    let s = c.args.self.now.rest.now in
    let r = c.trim_start-text.result.now in
    let here : IsEnd s o = record { room = c.args.self.now.room; suffix = c.args.self.now.suffix } in
    let trim = c.trim_start-text.ensures.value in
    let trimmed = trim-end o s r here trim in
    let room : length r ≤ length o = trimmed.room in
    let some : 0 < length r = let ne = eqb-false (length r) 0 (sym c.if-is_empty.ensures) in omega (arith, ne) in
    record {
      running = c.if-self.false;
      ended = refl;
      original = refl;
      stuck = no-tokens s r trim (λ e. absurd (omega (arith, ap length e))) c.in-None.ensures.none;
      space = take trim.0 s;
      blank = trim.2;
      before = before-fault o s r trim trimmed;
      ordered = omega (arith, c.ceil_char_boundary.ensures.bound (omega arith));
      within = c.ceil_char_boundary.ensures.boundary.0;
      first = char-first o r trimmed c.trim_start-text.utf8;
      last = c.ceil_char_boundary.ensures.boundary;
      seen = λ e. cc e;
    }
