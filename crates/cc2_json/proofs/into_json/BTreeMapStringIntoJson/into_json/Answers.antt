use Rattle.std.proofs.Common.{◌≡◌, [], ◌∷◌, ◌++◌, option_map, String, Global, arith, sym, ap, subst, ◌∙◌, append_assoc}
use Rattle.std.proofs.lemmas.List.{append-nil}
use Rattle.std.proofs.lemmas.Grind.{common_steps}
use Rattle.serde_json.specs.View.{view, members_view}
use Rattle.cc2_value.specs.Cells.{name}
use Rattle.cc2_json.specs.Json.{put_told}
use Rattle.cc2_json.proofs.Names.{ArePutSoFar, none_so_far, named_more, map_put, map_json}
use Rattle.cc2_json.proofs.into_json.BTreeMapStringIntoJson.into_json.Goals as goal

pub loop-name-init : goal.loop-name-init
loop-name-init g c = (
  [],
  grind (arith, common_steps),
  subst (λ y. ArePutSoFar c.args.form g.V.MergeFrom.cell_at g.met.V.JsonMember.own [] [] y) (sym c.new-members.ensures.empty) (none_so_far c.args.form g.V.MergeFrom.cell_at g.met.V.JsonMember.own []),
)

pub loop-name-preserved : goal.loop-name-preserved
loop-name-preserved g c =
    let (done, whole, so_far) = c.loop-name.invariant in
    let e : String Global × _ = (c.in-Some.name, c.in-Some.value) in
    let iter : c.loop-name.name-iterator ≡ e ∷ c.next.new.self = grind (arith, common_steps) in
    let all : c.args.self.entries ≡ done ++ e ∷ c.next.new.self = whole ∙ ap (λ es. done ++ es) iter in
    let sorted = rw all at c.into_iter-name-iterator.ensures.into_iter_gives.5 in
    let put = c.in_ok-put_name.ensures
    ∙ ap (λ k. put_told c.args.form (name k) (option_map view c.in_ok-json.json) (members_view c.loop-name.members.entries)) c.as_str.ensures.value in (
      done ++ e ∷ [],
      all ∙ sym (append_assoc done (e ∷ []) c.next.new.self),
      named_more c.args.form g.V.MergeFrom.cell_at g.met.V.JsonMember.own done e c.next.new.self c.in_ok-json.json [] c.loop-name.members.entries
          c.put_name.new.members.entries sorted c.in_ok-json.ensures put so_far,
    )

pub returns : goal.returns
returns g c =
    let (done, whole, so_far) = c.loop-name.invariant in
    let iter : c.loop-name.name-iterator ≡ [] = grind (arith, common_steps) in
    let all : c.args.self.entries ≡ done = whole ∙ ap (λ es. done ++ es) iter ∙ append-nil done in
    map_json c.args.form g.V.MergeFrom.cell_at g.met.V.JsonMember.own c.args.self c.object.result c.loop-name.members.entries
    (map_put c.args.form g.V.MergeFrom.cell_at g.met.V.JsonMember.own c.args.self [] c.loop-name.members.entries (rw all so_far)) c.object.ensures
