use Rattle.std.proofs.Common.{rules, ◌≡◌, [], ◌∷◌, ◌++◌, option_map, String, Global, arith, sym, ap, subst, ◌∙◌, append_assoc}
use Rattle.std.proofs.lemmas.List.{append-nil}
use Rattle.std.proofs.lemmas.Grind.{common_steps}
use Rattle.std.specs.List.Sorted.{IsStrictlySortedBy}
use Rattle.std.specs.Map.{keys_of}
use Rattle.std.specs.String.{string_cmp}
use Rattle.serde_json.specs.View.{view, members_view}
use Rattle.cc2_value.specs.Cells.{name}
use Rattle.cc2_target_table.specs.Target.{target_at, node_at}
use Rattle.cc2_target_table.specs.declared.target.Node.{Node, the_lemmas}
use Rattle.cc2_target_table.specs.declared.target.TargetConfig.{TargetConfig}
use Rattle.cc2_json.specs.Json.{put_told, IsPutBelow}
use Rattle.cc2_json.proofs.Names.{none_so_far, named_more, map_put}
use Rattle.cc2_json.proofs.Nested.{node_own, target_put, target_is, node_is, undecoded_is}
use Rattle.cc2_json.proofs.Trees.{on_ok}
use Rattle.cc2_json.proofs.target.+json.Goals as goal

pub put_nested-loop-name-init : goal.put_nested-loop-name-init
put_nested-loop-name-init t c = ([], grind (arith, common_steps), none_so_far c.args.form node_at node_own c.args.members.now.entries)

pub put_nested-loop-name-preserved : goal.put_nested-loop-name-preserved
put_nested-loop-name-preserved t c =
    let (done, whole, so_far) = c.loop-name.invariant in
    let e : String Global × Node = (c.in-Some.name.now, c.in-Some.node.now) in
    let left = c.next.new.self in
    let all : c.args.nested.now.entries ≡ done ++ e ∷ left = whole ∙ ap (λ es. done ++ es) c.in-Some.ensures.steps in
    let sorted = subst (λ es. IsStrictlySortedBy string_cmp (keys_of es)) all c.iter-name-items.ensures.ordered in
    let put = c.in_ok-put_name.ensures
    ∙ ap (λ k. put_told c.args.form (name k) (option_map view c.in_ok-json.json) (members_view c.loop-name.members.entries)) c.as_str.ensures.value in (
      done ++ e ∷ [],
      all ∙ sym (append_assoc done (e ∷ []) left),
      named_more c.args.form node_at node_own done e left c.in_ok-json.json c.args.members.now.entries c.loop-name.members.entries
          c.put_name.new.members.entries sorted c.in_ok-json.ensures put so_far,
    )

pub put_nested-returns : goal.put_nested-returns
put_nested-returns t c =
    let (done, whole, so_far) = c.loop-name.invariant in
    let all : c.args.nested.now.entries ≡ done = whole ∙ ap (λ es. done ++ es) c.in-None.ensures.steps.0 ∙ append-nil done in
    map_put c.args.form node_at node_own c.args.nested.now c.args.members.now.entries c.loop-name.members.entries (rw all so_far)

pub put_table-returns : goal.put_table-returns
put_table-returns t c =
    on_ok c.put_own.result
    (target_put c.args.form c.args.table.now c.args.members.now.entries c.put_nested.new.members.entries c.put_own.new.members.entries c.in_ok-put_nested.ensures)
    c.put_own.ensures

pub node_json-returns-in_ok-put_table-in-Table : goal.node_json-returns-in_ok-put_table-in-Table
node_json-returns-in_ok-put_table-in-Table t c =
    let put = subst (λ (x : TargetConfig). IsPutBelow c.args.form (target_at x) c.new-members.result.entries c.put_table.new.members.entries)
    c.deref.ensures c.in_ok-put_table-in-Table.ensures in
    node_is c.args.form c.args.node.now c.in-Table.table _ c.in-Table.is
    (target_is c.args.form c.in-Table.table.value c.object.result c.new-members.result.entries c.put_table.new.members.entries c.new-members.ensures.empty put c.object.ensures)

pub node_json-returns-in-Undecoded : goal.node_json-returns-in-Undecoded
node_json-returns-in-Undecoded t c =
    undecoded_is c.args.form c.args.node.now (λ p. ap (λ (n : Node). node_at n p) c.in-Undecoded.is ∙ search (rules, the_lemmas))
