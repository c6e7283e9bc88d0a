use Rattle.std.proofs.Common.{◌≡◌, ap, sym, ◌∙◌, subst, [], ◌∷◌, ◌++◌, arith, append_assoc, refl, string_bytes, String, Global}
use Rattle.std.proofs.lemmas.List.{append-nil}
use Rattle.std.proofs.lemmas.Grind.{common_steps}
use Rattle.std.specs.List.Sorted.{IsStrictlySortedBy}
use Rattle.std.specs.Map.{keys_of}
use Rattle.std.specs.String.{string_cmp}
use Rattle.toml.specs.Data.{Data, table}
use Rattle.toml.specs.View.{view, table_view}
use Rattle.toml.proofs.Views.{Entry, view-Table}
use Rattle.cc2_cargo.specs.Raw.{layer_origin}
use Rattle.cc2_cargo.specs.RawReading.{IsRawRead, IsWrong, wrong_paths}
use Rattle.cc2_cargo.specs.declared.raw.Raw.{Raw}
use Rattle.cc2_cargo.specs.declared.raw.Raw.TheViews.{Table}
use Rattle.cc2_cargo.proofs.RawReads.{AreEntriesRead, all_read, member_wrong, named_wrong, read_more, read_sorted, table_read}
use Rattle.cc2_cargo.proofs.raw.read.+read.Goals as goal

pub read_raw-returns-in-Some-clause-ok : goal.read_raw-returns-in-Some-clause-ok
read_raw-returns-in-Some-clause-ok t c =
    let from = layer_origin c.args.from.now in
    let is : view c.args.value ≡ table (table_view c.in-Table.table) = ap view c.in-Table.is ∙ view-Table c.in-Table.table in
    subst (λ (d : Data). IsRawRead from d (Table c.in-Some.members)) (sym is)
    (table_read from (table_view c.in-Table.table) c.in-Some.members c.in-Some.ensures.ok)

pub read_raw-returns-in-None-clause-refused : goal.read_raw-returns-in-None-clause-refused
read_raw-returns-in-None-clause-refused t c =
    let is : view c.args.value ≡ table (table_view c.in-Table.table) = ap view c.in-Table.is ∙ view-Table c.in-Table.table in
    let (e, recorded, says) = c.in-None.ensures.refused in
    (e, recorded, subst (λ (d : Data). IsWrong (wrong_paths d) e) (sym is) says)

pub read_table-returns-in-None-read_raw-clause-refused :
    goal.read_table-returns-in-None-read_raw-clause-refused
read_table-returns-in-None-read_raw-clause-refused t c =
    let (done, whole, so_far) = c.loop-name.invariant in
    let e : Entry = (c.in-Some.name, c.in-Some.value) in
    let left = c.next.new.self in
    let iter : c.loop-name.name-iterator ≡ e ∷ left = grind (arith, common_steps) in
    let all : c.args.table.entries ≡ done ++ e ∷ left = whole ∙ ap (λ es. done ++ es) iter in
    let (inner, recorded, says) = c.in-None-read_raw.ensures.refused in
    let named = rw c.as_str.ensures.value at (c.name_fault.ensures inner recorded) in (
      named.0,
      named.1,
      rw all (member_wrong done e left named.0 (named_wrong (string_bytes e.0) (wrong_paths (view e.1)) inner named.0 named.2 says)),
    )

pub read_table-loop-name-preserved : goal.read_table-loop-name-preserved
read_table-loop-name-preserved t c =
    let (done, whole, so_far) = c.loop-name.invariant in
    let e : Entry = (c.in-Some.name, c.in-Some.value) in
    let v : String Global × Raw = (c.in-Some.name, c.in-Some-read_raw.read) in
    let left = c.next.new.self in
    let iter : c.loop-name.name-iterator ≡ e ∷ left = grind (arith, common_steps) in
    let all : c.args.table.entries ≡ done ++ e ∷ left = whole ∙ ap (λ es. done ++ es) iter in
    let from = layer_origin c.args.from.now in
    let more = read_more from done c.loop-name.members.items e v so_far refl c.in-Some-read_raw.ensures.ok in (
      done ++ e ∷ [],
      all ∙ sym (append_assoc done (e ∷ []) left),
      subst (λ vs. AreEntriesRead from (done ++ e ∷ []) vs) (sym (c.if-not-push.ensures.ok refl)) more,
    )

pub read_table-built-requires : goal.read_table-built-requires
read_table-built-requires t c =
    let (done, whole, so_far) = c.loop-name.invariant in
    let iter : c.loop-name.name-iterator ≡ [] = grind (arith, common_steps) in
    let all : c.args.table.entries ≡ done = whole ∙ ap (λ es. done ++ es) iter ∙ append-nil done in
    read_sorted (layer_origin c.args.from.now) done c.loop-name.members.items so_far
    (subst (λ es. IsStrictlySortedBy string_cmp (keys_of es)) all c.into_iter-name-iterator.ensures.into_iter_gives.5)

pub read_table-returns-clause-ok : goal.read_table-returns-clause-ok
read_table-returns-clause-ok t c =
    let (done, whole, so_far) = c.loop-name.invariant in
    let iter : c.loop-name.name-iterator ≡ [] = grind (arith, common_steps) in
    let all : done ≡ c.args.table.entries = sym (whole ∙ ap (λ es. done ++ es) iter ∙ append-nil done) in
    rw all at (all_read (layer_origin c.args.from.now) done c.loop-name.members.items c.built.result so_far c.built.ensures.ok)
