use Rattle.std.proofs.Common.{◌≡◌, ◌+◌, ℕ, suc, List, String, Global, length, map, string_bytes, arith, subst}
use Rattle.std.proofs.lemmas.List.{length-map}
use Rattle.std.proofs.lemmas.Result.{on_ok_weaker}
use Rattle.cc2_ask.specs.Fields.{IsSmall}
use Rattle.cc2_resolved_cells.proofs.Written.{list_pushed}
use Rattle.cc2_resolved_cells.proofs.provider.push_stdout.Goals as goal

-- two texts in front of the arguments
two_more : (n : ℕ) (args : List (String Global)) → n ≡ length args → n + 2 ≡ suc (suc (length (map string_bytes args)))
two_more n args counted = omega (arith, length-map args string_bytes, counted)

pub returns-clause-bytes : goal.returns-clause-bytes
returns-clause-bytes c =
    let count = two_more c.len.result c.args.command.now.args.items (omega (arith, c.len.ensures)) in
    on_ok_weaker c.push_words.result
    (list_pushed c.args.out.now.items c.push.new.self.items c.push_number.new.out.items c.push_field.new.out.items c.push_words.new.out.items
    (c.len.result + 2) (suc (suc (length (map string_bytes c.args.command.now.args.items)))) _ _
    c.in_ok-push.ensures.items c.in_ok-push_number.ensures.bytes c.in_ok-push_field.ensures.bytes count)
    c.push_words.ensures.bytes

pub returns-clause-short : goal.returns-clause-short
returns-clause-short c =
    let count = two_more c.len.result c.args.command.now.args.items (omega (arith, c.len.ensures)) in
    on_ok_weaker c.push_words.result
    (λ words. (subst IsSmall count c.in_ok-push_number.ensures.short, (c.in_ok-push_field.ensures.short, words)))
    c.push_words.ensures.short
