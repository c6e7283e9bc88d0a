use Rattle.std.proofs.Common.{◌≡◌, [], ◌∷◌, ◌++◌, option_map, String, Global, arith, sym, ap, subst, ◌∙◌, append_assoc}
use Rattle.std.proofs.lemmas.Grind.{common_steps}
use Rattle.std.proofs.lemmas.List.{append-nil}
use Rattle.std.specs.List.Sorted.{IsStrictlySortedBy}
use Rattle.std.specs.Map.{keys_of}
use Rattle.std.specs.String.{string_cmp}
use Rattle.serde_json.specs.View.{view, members_view}
use Rattle.cc2_value.specs.Cells.{name}
use Rattle.cc2_json.proofs.Names.{ArePutSoFar, none_so_far, named_more, map_put, map_json}
use Rattle.cc2_json.specs.Json.{put_told}
use Rattle.cc2_resolved.specs.Rows.{names_at}
use Rattle.cc2_value.specs.Shown.{map_at}
use Rattle.cc2_resolved_json.specs.Plain.{plain_at, without_origins}
use Rattle.cc2_resolved_json.proofs.Cells.{along, names_same}
use Rattle.cc2_resolved_json.proofs.to_json.names_json.Goals as goal

pub loop-name-init : goal.loop-name-init
loop-name-init g c =
    let form = without_origins c.args.tokens in (
      [],
      grind (arith, common_steps),
      subst (λ y. ArePutSoFar form (λ v. plain_at (g.V.ToJson.member v)) g.met.V.PlainMember.own [] [] y) (sym c.new-members.ensures.empty)
          (none_so_far form (λ v. plain_at (g.V.ToJson.member v)) g.met.V.PlainMember.own []),
    )

pub loop-name-preserved : goal.loop-name-preserved
loop-name-preserved g c =
    let form = without_origins c.args.tokens in
    let (done, whole, so_far) = c.loop-name.invariant in
    let e : String Global × _ = (c.in-Some.name.now, c.in-Some.value.now) in
    let left = c.next.new.self in
    let all : c.args.map.now.entries ≡ done ++ e ∷ left = whole ∙ ap (λ es. done ++ es) c.in-Some.ensures.steps in
    let sorted = subst (λ es. IsStrictlySortedBy string_cmp (keys_of es)) all c.iter-name-items.ensures.ordered in
    let put = c.in_ok-put_name.ensures
    ∙ ap (λ f. put_told f (name c.as_str.result.now) (option_map view c.in_ok-json.json) (members_view c.loop-name.members.entries)) c.without_origins.ensures
    ∙ ap (λ k. put_told form (name k) (option_map view c.in_ok-json.json) (members_view c.loop-name.members.entries)) c.as_str.ensures.value in (
      done ++ e ∷ [],
      all ∙ sym (append_assoc done (e ∷ []) left),
      named_more form (λ v. plain_at (g.V.ToJson.member v)) g.met.V.PlainMember.own done e left c.in_ok-json.json [] c.loop-name.members.entries
          c.put_name.new.members.entries sorted c.in_ok-json.ensures.member put so_far,
    )

pub returns : goal.returns
returns g c =
    let form = without_origins c.args.tokens in
    let (done, whole, so_far) = c.loop-name.invariant in
    let all : c.args.map.now.entries ≡ done = whole ∙ ap (λ es. done ++ es) c.in-None.ensures.steps.0 ∙ append-nil done in
    along form (map_at (λ v. plain_at (g.V.ToJson.member v)) c.args.map.now) (plain_at (names_at g.V.ToJson.member c.args.map.now)) _
    (names_same g.V.ToJson.member c.args.map.now)
    (map_json form (λ v. plain_at (g.V.ToJson.member v)) g.met.V.PlainMember.own c.args.map.now c.object.result c.loop-name.members.entries
    (map_put form (λ v. plain_at (g.V.ToJson.member v)) g.met.V.PlainMember.own c.args.map.now [] c.loop-name.members.entries (rw all so_far)) c.object.ensures)
