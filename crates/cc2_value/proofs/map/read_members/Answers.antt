use Rattle.std.proofs.Common.{◌≡◌, ap, sym, ◌∙◌, subst, [], ◌∷◌, ◌++◌, arith, append_assoc, refl, string_bytes, String, Global}
use Rattle.std.proofs.lemmas.List.{append-nil}
use Rattle.std.proofs.lemmas.Grind.{common_steps}
use Rattle.std.proofs.lemmas.Result.{err_from_is_err_and}
use Rattle.std.specs.List.Sorted.{IsStrictlySortedBy}
use Rattle.std.specs.Map.{keys_of}
use Rattle.std.specs.String.{string_cmp}
use Rattle.toml.specs.View.{view}
use Rattle.toml.proofs.Views.{Entry}
use Rattle.cc2_value.specs.Cells.{name}
use Rattle.cc2_value.specs.Copies.{origin_given}
use Rattle.cc2_value.proofs.Decoded.{fault_below}
use Rattle.cc2_value.proofs.Maps.{IsReadSoFar, read_more, read_sorted, read_all, member_fault}
use Rattle.cc2_value.proofs.map.read_members.Goals as goal

pub returns-in_err-read-clause-refused : goal.returns-in_err-read-clause-refused
returns-in_err-read-clause-refused g c =
    let (done, whole, so_far) = c.loop-name.invariant in
    let e : Entry = (c.in-Some.name, c.in-Some.value) in
    let left = c.next.new.self in
    let iter : c.loop-name.name-iterator ≡ e ∷ left = grind (arith, common_steps) in
    let all : c.args.table.entries ≡ done ++ e ∷ left = whole ∙ ap (λ es. done ++ es) iter in
    let p = err_from_is_err_and c.from_residual-in_err-read.result c.from_residual-in_err-read.ensures.1 in
    let inner = rw c.as_str.ensures.value at c.in_err-read.ensures.refused in
    rw (p.1, p.2, all) (member_fault g.V.Decode.way done e left _
    (fault_below (name (string_bytes e.0)) (g.V.Decode.way.faults (view e.1)) _ inner))

pub loop-name-preserved : goal.loop-name-preserved
loop-name-preserved g c =
    let (done, whole, so_far) = c.loop-name.invariant in
    let e : Entry = (c.in-Some.name, c.in-Some.value) in
    let v : String Global × _ = (c.in-Some.name, c.in_ok-read.read) in
    let left = c.next.new.self in
    let iter : c.loop-name.name-iterator ≡ e ∷ left = grind (arith, common_steps) in
    let all : c.args.table.entries ≡ done ++ e ∷ left = whole ∙ ap (λ es. done ++ es) iter in
    let more = read_more g.V.MergeFrom.cell_at g.V.Decode.way (origin_given c.args.definition) done e
    c.loop-name.members.items v refl c.in_ok-read.ensures.ok so_far in (
      done ++ e ∷ [],
      all ∙ sym (append_assoc done (e ∷ []) left),
      subst (λ vs. IsReadSoFar g.V.MergeFrom.cell_at g.V.Decode.way (origin_given c.args.definition) (done ++ e ∷ []) vs) (sym c.in_ok-push.ensures.items) more,
    )

pub from_sorted-requires : goal.from_sorted-requires
from_sorted-requires g c =
    let (done, whole, so_far) = c.loop-name.invariant in
    let iter : c.loop-name.name-iterator ≡ [] = grind (arith, common_steps) in
    let all : c.args.table.entries ≡ done = whole ∙ ap (λ es. done ++ es) iter ∙ append-nil done in
    read_sorted g.V.MergeFrom.cell_at g.V.Decode.way (origin_given c.args.definition) done c.loop-name.members.items so_far
    (subst (λ es. IsStrictlySortedBy string_cmp (keys_of es)) all c.into_iter-name-iterator.ensures.into_iter_gives.5)

pub returns-clause-ok : goal.returns-clause-ok
returns-clause-ok g c =
    let (done, whole, so_far) = c.loop-name.invariant in
    let iter : c.loop-name.name-iterator ≡ [] = grind (arith, common_steps) in
    let all : done ≡ c.args.table.entries = sym (whole ∙ ap (λ es. done ++ es) iter ∙ append-nil done) in
    rw all at (read_all g.V.MergeFrom.cell_at g.V.Decode.way (origin_given c.args.definition) done
    c.loop-name.members.items c.in_ok-from_sorted.field-0 so_far c.in_ok-from_sorted.ensures)
