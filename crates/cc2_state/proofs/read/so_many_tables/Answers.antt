use Rattle.std.proofs.Common.{◌≡◌, ◌-◌, ◌+◌, suc, [], ◌∷◌, ◌++◌, Some, arith, ap, ◌∙◌, string_bytes}
use Rattle.cc2_ask.specs.Fields.{text_at}
use Rattle.cc2_ask.specs.Written.{many_at}
use Rattle.cc2_ask.proofs.Written.{after, taken_one}
use Rattle.cc2_state.specs.Shown.{saved_table}
use Rattle.cc2_state.specs.State.{entry_front, table_front}
use Rattle.cc2_state.proofs.Found.{one_read}
use Rattle.cc2_state.proofs.Reading.{both_of}
use Rattle.cc2_state.proofs.read.so_many_tables.Goals as goal

pub loop-preserved : goal.loop-preserved
loop-preserved c =
    let (entries, so_far, of, ordered) = c.loop.invariant in
    let n = c.args.count - (c.loop.counter + 1) in
    let key = string_bytes c.in_ok-key.key in
    let table = c.in_ok-table.table in
    let bytes = c.loop.reader.rest.now in
    let mid = c.text.new.self.rest.now in
    let rest = c.table.new.reader.rest.now in
    let left : suc n ≡ c.args.count - c.loop.counter = omega (arith, c.loop-test.true) in
    let entry : entry_front bytes ≡ Some ((key, saved_table table), rest) =
    both_of text_at table_front bytes mid rest key (saved_table table) c.in_ok-key.ensures c.in_ok-table.ensures.read in (
      entries ++ (key, saved_table table) ∷ [],
      taken_one entry_front n entries bytes rest (key, saved_table table) entry ∙ ap (λ k. after entries (many_at entry_front k bytes)) left ∙ so_far,
      one_read entries c.loop.tables c.put_first.new.tables c.in_ok-key.key table of c.in_ok-table.ensures.flat c.in_ok-put_first.ensures.put,
      c.in_ok-put_first.ensures.ordered ordered,
    )
