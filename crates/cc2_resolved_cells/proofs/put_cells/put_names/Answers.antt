use Rattle.std.proofs.Common.{ℕ, List, [], ◌∷◌, ◌++◌, String, Global, string_bytes, take, arith, sym, ap, subst, ◌∙◌, append_assoc}
use Rattle.std.proofs.lemmas.Grind.{common_steps}
use Rattle.cc2_value.specs.Cells.{field, name}
use Rattle.cc2_resolved_cells.specs.Cells.{cells_below, cells_of_map}
use Rattle.cc2_resolved_cells.specs.Writers.{AreWritten}
use Rattle.cc2_resolved_cells.proofs.Names.{AreAll, none_left, one_more, names_are, cells_more}
use Rattle.cc2_resolved_cells.proofs.Written.{none_written, both_written, same_written, below_written}
use Rattle.cc2_resolved_cells.proofs.put_cells.put_names.Goals as goal

pub loop-name-init : goal.loop-name-init
loop-name-init g c = ([], grind (arith, common_steps), none_written c.enter.new.self, tt)

pub loop-name-preserved : goal.loop-name-preserved
loop-name-preserved g c =
    let (done, whole, written, all) = c.loop-name.invariant in
    let e : String Global × _ = (c.in-Some.name.now, c.in-Some.value.now) in
    let cells = g.V.PutMember.cells in
    let own = cells_below (name (string_bytes e.0)) (cells e.1) in
    let here =
    subst (λ k. AreWritten (cells_below (name k) (cells e.1)) c.loop-name.to c.put_member.new.to) c.as_str.ensures.value
    c.in_ok-put_member.ensures.written in (
      done ++ e ∷ [],
      whole ∙ ap (λ es. done ++ es) c.in-Some.ensures.steps ∙ sym (append_assoc done (e ∷ []) c.next.new.self),
      same_written (cells_of_map cells done ++ own) (cells_of_map cells (done ++ e ∷ [])) c.enter.new.self c.put_member.new.to
          (sym (cells_more cells g.V.PutMember.shown done e))
          (both_written (cells_of_map cells done) own c.enter.new.self c.loop-name.to c.put_member.new.to written here),
      one_more cells g.V.PutMember.shown done e all c.in_ok-put_member.ensures.shown,
    )

pub returns-clause-written : goal.returns-clause-written
returns-clause-written g c =
    let (done, whole, written, all) = c.loop-name.invariant in
    let cells = g.V.PutMember.cells in
    let all_cells = cells_of_map cells c.args.map.now.entries in
    let mark = c.in_ok-mark.ensures in
    let every = none_left cells g.V.PutMember.shown c.args.map.now.entries done c.loop-name.name-iterator whole c.in-None.ensures.steps.0 in
    below_written (field c.args.key.now) all_cells c.args.to.now c.enter.new.self c.loop-name.to c.leave.new.self
    mark.short mark.bytes mark.front
    (same_written (cells_of_map cells done) all_cells c.enter.new.self c.loop-name.to (ap (cells_of_map cells) (sym every)) written)
    c.leave.ensures.bytes (c.leave.ensures.depth ∙ mark.depth)
    (◌∙◌ {A = List ℕ} c.leave.ensures.path (ap (λ n. take n c.loop-name.to.path.items) mark.length))

pub returns-clause-shown : goal.returns-clause-shown
returns-clause-shown g c =
    let (done, whole, written, all) = c.loop-name.invariant in
    let every = none_left g.V.PutMember.cells g.V.PutMember.shown c.args.map.now.entries done c.loop-name.name-iterator whole c.in-None.ensures.steps.0 in
    names_are g.V.PutMember.cells g.V.PutMember.shown c.args.map.now c.iter-name-items.ensures.ordered
    (subst (λ es. AreAll g.V.PutMember.cells g.V.PutMember.shown es) (sym every) all)
