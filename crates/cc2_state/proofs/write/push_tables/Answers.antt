use Rattle.std.proofs.Common.{◌≡◌, [], ◌∷◌, ◌++◌, String, Global, map, string_bytes, sym, ap, subst, ◌∙◌, append_assoc}
use Rattle.std.proofs.lemmas.List.{append-nil, map-append}
use Rattle.cc2_ask.specs.Fields.{number_at, text_at}
use Rattle.cc2_ask.specs.Written.{AreAppended, IsAppended}
use Rattle.cc2_ask.proofs.Written.{both, one_more}
use Rattle.cc2_target_table.specs.declared.target.TargetConfig.{TargetConfig}
use Rattle.cc2_state.specs.Shown.{saved_entry, saved_table}
use Rattle.cc2_state.specs.State.{entry_front, table_front}
use Rattle.cc2_state.proofs.Pushed.{items_listed}
use Rattle.cc2_state.proofs.write.push_tables.Goals as goal

pub loop-key-preserved : goal.loop-key-preserved
loop-key-preserved c =
    let (done, whole, before) = c.loop-key.invariant in
    let e : String Global × TargetConfig = (c.in-Some.key.now, c.in-Some.table.now) in
    let left = c.next.new.self in
    let was = c.push_number.new.out.items in
    let mid = c.loop-key.out.items in
    let key = c.push_text.new.out.items in
    let now = c.push_table.new.out.items in
    let all : c.args.tables.now.entries ≡ done ++ e ∷ left = whole ∙ ap (λ es. done ++ es) c.in-Some.ensures.steps in
    let named = subst (λ t. IsAppended text_at t mid key) c.as_str.ensures.value c.in_ok-push_text.ensures in
    let one = both text_at table_front (string_bytes e.0) (saved_table e.1) mid key now named c.in_ok-push_table.ensures in (
      done ++ e ∷ [],
      all ∙ sym (append_assoc done (e ∷ []) left),
      subst (λ es. AreAppended entry_front es was now) (sym (map-append saved_entry done (e ∷ [])))
          (one_more entry_front (map saved_entry done) (saved_entry e) was mid now before one),
    )

pub returns : goal.returns
returns c =
    let (done, whole, before) = c.loop-key.invariant in
    let was = c.args.out.now.items in
    let mid = c.push_number.new.out.items in
    let now = c.loop-key.out.items in
    let tables = c.args.tables.now in
    let all : tables.entries ≡ done = whole ∙ ap (λ es. done ++ es) c.in-None.ensures.steps.0 ∙ append-nil done in
    items_listed saved_entry entry_front tables.entries was mid now
    (subst (λ n. IsAppended number_at n was mid) c.len.ensures.len c.in_ok-push_number.ensures.read)
    (subst (λ es. AreAppended entry_front (map saved_entry es) mid now) (sym all) before)
