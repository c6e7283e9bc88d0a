use Rattle.std.proofs.Common.{◌≡◌, Some, None, [], ◌∷◌, ◌++◌, String, Global, string_bytes}
use Rattle.std.proofs.Common.{arith, refl, sym, ap, ◌∙◌, append_assoc}
use Rattle.std.proofs.lemmas.List.{append-nil}
use Rattle.std.proofs.lemmas.Grind.{common_steps}
use Rattle.std.specs.BTreeMap.{get_by_text}
use Rattle.std.specs.Option.{option_copied_mut}
use Rattle.cc2_value.proofs.Found.{after_insert, after_write}
use Rattle.cc2_cargo.specs.Places.{commands_from}
use Rattle.cc2_cargo.specs.declared.raw.Raw.{Raw}
use Rattle.cc2_cargo.specs.declared.raw.Raw.TheBlock.{Single as single, Array as array}
use Rattle.cc2_cargo.specs.declared.raw.Raw.TheViews.{Table as table}
use Rattle.cc2_cargo.proofs.Merges.{differ_here, met_put, met_refused, new_put, none_put, one_more, one_refused, tables_over, tables_refused}
use Rattle.cc2_cargo.proofs.Raws.{array_here, single_here, table_here}
use Rattle.cc2_cargo.proofs.raw.merge.+merge.Goals as goal

pub put_members-returns-then-not-put_member-clause-refused :
    goal.put_members-returns-then-not-put_member-clause-refused
put_members-returns-then-not-put_member-clause-refused t c same =
    let (done, whole, so_far) = c.loop-key.invariant in
    let e : String Global × Raw = (c.in-Some.key, c.in-Some.raw) in
    let iter : c.loop-key.key-iterator ≡ e ∷ c.next.new.self = grind (arith, common_steps) in
    let all : c.args.strong.entries ≡ done ++ e ∷ c.next.new.self = whole ∙ ap (λ es. done ++ es) iter in
    let sorted = rw all at c.into_iter-key-iterator.ensures.into_iter_gives.5 in
    let told = c.if-not-put_member.ensures.refused refl in (
      told.0,
      told.1,
      one_refused (commands_from c.args.place) done e c.next.new.self c.args.strong c.args.members.now c.loop-key.members told.0 all sorted so_far told.2,
    )

pub put_members-loop-key-init : goal.put_members-loop-key-init
put_members-loop-key-init t c = ([], grind (arith, common_steps), none_put (commands_from c.args.place) c.args.members.now)

pub put_members-loop-key-preserved : goal.put_members-loop-key-preserved
put_members-loop-key-preserved t c =
    let (done, whole, so_far) = c.loop-key.invariant in
    let e : String Global × Raw = (c.in-Some.key, c.in-Some.raw) in
    let iter : c.loop-key.key-iterator ≡ e ∷ c.next.new.self = grind (arith, common_steps) in
    let all : c.args.strong.entries ≡ done ++ e ∷ c.next.new.self = whole ∙ ap (λ es. done ++ es) iter in
    let sorted = rw all at c.into_iter-key-iterator.ensures.into_iter_gives.5 in (
      done ++ e ∷ [],
      all ∙ sym (append_assoc done (e ∷ []) c.next.new.self),
      one_more (commands_from c.args.place) done e c.next.new.self c.args.members.now c.loop-key.members c.put_member.new.members
          sorted (c.if-not-put_member.ensures.ok refl) so_far,
    )

pub put_members-returns-clause-ok : goal.put_members-returns-clause-ok
put_members-returns-clause-ok t c same =
    let (done, whole, so_far) = c.loop-key.invariant in
    let iter : c.loop-key.key-iterator ≡ [] = grind (arith, common_steps) in
    let all : c.args.strong.entries ≡ done = whole ∙ ap (λ es. done ++ es) iter ∙ append-nil done in
    rw all so_far

pub put_member-returns-in-None-clause-ok : goal.put_member-returns-in-None-clause-ok
put_member-returns-in-None-clause-ok t c put =
    let m = c.args.members.now in
    let key = string_bytes c.args.key in
    let got : get_by_text m key ≡ None = sym (rw c.as_str.ensures.value at c.get_mut.ensures.value) ∙
    ap option_copied_mut c.in-None.is in
    let updates = rw c.get_mut.follows.holds-at-none at (c.insert.ensures.ok put) in
    new_put (commands_from c.args.place) key c.args.strong m c.insert.new.members got
    (after_insert c.args.key c.args.strong m c.insert.new.members updates)

pub put_member-returns-then-put_raw-clause-ok : goal.put_member-returns-then-put_raw-clause-ok
put_member-returns-then-put_raw-clause-ok t c same =
    let m = c.args.members.now in
    let key = string_bytes c.args.key in
    let w = c.put_raw.new.weak in
    let got : get_by_text m key ≡ Some c.in-Some.member.now =
    sym (rw c.as_str.ensures.value at c.get_mut.ensures.value) ∙ ap option_copied_mut c.in-Some.is in
    let written = rw c.as_str.ensures.value at (c.get_mut.follows.holds w) in
    met_put (commands_from c.args.place) (commands_from c.below.result) key c.args.strong c.in-Some.member.now w m (c.get_mut.follows.lender w) got
    (after_write key w m (c.get_mut.follows.lender w) (written.3 (rw got refl)))
    (rw c.as_str-in-Some.ensures.value at c.below.ensures) (c.if-put_raw.ensures.ok refl)

pub put_member-returns-else-put_raw-clause-refused : goal.put_member-returns-else-put_raw-clause-refused
put_member-returns-else-put_raw-clause-refused t c same =
    let m = c.args.members.now in
    let key = string_bytes c.args.key in
    let got : get_by_text m key ≡ Some c.in-Some.member.now =
    sym (rw c.as_str.ensures.value at c.get_mut.ensures.value) ∙ ap option_copied_mut c.in-Some.is in
    let inner = c.if-put_raw.ensures.refused refl in
    let told = rw c.as_str-in-Some-2.ensures.value at (c.name_fault.ensures inner.0 inner.1) in (
      told.0,
      told.1,
      met_refused (commands_from c.args.place) (commands_from c.below.result) key c.args.strong c.in-Some.member.now m inner.0 told.0 got
          (rw c.as_str-in-Some.ensures.value at c.below.ensures) told.2 inner.2,
    )

pub put_table-returns-in-Table-clause-ok : goal.put_table-returns-in-Table-clause-ok
put_table-returns-in-Table-clause-ok t c same =
    let weak : c.args.weak.now ≡ table c.in-Table.members = sym c.replace.ensures.value ∙ c.in-Table.is in
    rw weak
    (tables_over (commands_from c.args.place) c.args.strong c.in-Table.members c.put_members-is_put.new.members (c.put_members-is_put.ensures.ok same))

pub put_table-returns-in-Table-clause-refused : goal.put_table-returns-in-Table-clause-refused
put_table-returns-in-Table-clause-refused t c same =
    let weak : c.args.weak.now ≡ table c.in-Table.members = sym c.replace.ensures.value ∙ c.in-Table.is in
    let told = c.put_members-is_put.ensures.refused same in
    (told.0, told.1, rw weak (tables_refused (commands_from c.args.place) c.args.strong c.in-Table.members told.0 told.2))

pub put_table-returns-in-Array-clause-refused : goal.put_table-returns-in-Array-clause-refused
put_table-returns-in-Array-clause-refused t c same =
    let weak : c.args.weak.now ≡ array c.in-Array.field-0 = sym c.replace.ensures.value ∙ c.in-Array.is in
    let e = c.differ.ensures.refused in (
      e.0,
      e.1,
      differ_here (commands_from c.args.place) (table c.args.strong) c.args.weak.now _ _ _ _ e.0 (table_here (table c.args.strong) c.args.strong refl)
          (array_here c.args.weak.now c.in-Array.field-0 weak) refl e.2,
    )

pub put_table-returns-in-Single-clause-refused : goal.put_table-returns-in-Single-clause-refused
put_table-returns-in-Single-clause-refused t c same =
    let weak : c.args.weak.now ≡ single c.in-Single.field-0 = sym c.replace.ensures.value ∙ c.in-Single.is in
    let e = c.differ-in-Single.ensures.refused in (
      e.0,
      e.1,
      differ_here (commands_from c.args.place) (table c.args.strong) c.args.weak.now _ _ _ _ e.0 (table_here (table c.args.strong) c.args.strong refl)
          (single_here c.args.weak.now c.in-Single.field-0 weak) refl e.2,
    )
