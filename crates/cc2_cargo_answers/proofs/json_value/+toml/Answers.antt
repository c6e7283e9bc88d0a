use Rattle.std.proofs.Common.{◌≡◌, ◌&&◌, ◌+◌, [], ◌∷◌, ◌++◌, String, Global, arith, append_assoc, drop, string_bytes, sym, ap, subst, ◌∙◌}
use Rattle.std.proofs.lemmas.Grind.{common_steps}
use Rattle.std.specs.List.Sorted.{IsStrictlySortedBy}
use Rattle.std.specs.Map.{keys_of}
use Rattle.std.specs.String.{string_cmp}
use Rattle.serde_json.specs.Data.{item, put}
use Rattle.serde_json.specs.View.{view, items_view, members_view}
use Rattle.toml.specs.View.{view as toml_view, items_view as toml_items}
use Rattle.toml.specs.declared.value.Value.{Value as TomlValue}
use Rattle.cc2_cargo_answers.specs.RawJson.{is_secret_key, items_json, or_redacted, toml_json}
use Rattle.cc2_cargo_answers.proofs.Values.{behind, behind_more, behind_none, entry_json, toml_more}
use Rattle.cc2_cargo_answers.proofs.json_value.+toml.Goals as goal

pub items_json-loop-item-preserved : goal.items_json-loop-item-preserved
items_json-loop-item-preserved t c =
    let list = c.loop-item.list.items in
    let one = c.item-item.result in
    let json = c.in_ok-toml_json.field-0 in
    let left = drop (c.loop-item.item-index + 1) c.args.items.now in
    let rest = items_json c.args.hides (toml_items left) in
    let next : drop c.loop-item.item-index c.args.items.now ≡ one ∷ left = grind (arith, common_steps) in
    let pushed : c.push.new.self.items ≡ list ++ json ∷ [] = grind (arith, common_steps) in
    c.loop-item.invariant
    ∙ ap (λ vs. behind (items_view list) (items_json c.args.hides (toml_items vs))) next
    ∙ ap (λ d. behind (items_view list) (item d rest)) (sym c.in_ok-toml_json.ensures)
    ∙ sym (behind_more list json rest) ∙ ap (λ vs. behind (items_view vs) rest) (sym pushed)

pub items_json-returns : goal.items_json-returns
items_json-returns t c =
    let list = c.loop-item.list.items in
    let none : drop c.loop-item.item-index c.args.items.now ≡ [] = grind (arith, common_steps) in
    sym (c.loop-item.invariant ∙ ap (λ vs. behind (items_view list) (items_json c.args.hides (toml_items vs))) none ∙ behind_none (items_view list))

pub members_json-loop-key-preserved : goal.members_json-loop-key-preserved
members_json-loop-key-preserved t c =
    let (done, whole, so_far) = c.loop-key.invariant in
    let e : String Global × TomlValue = (c.in-Some.key.now, c.in-Some.value.now) in
    let left = c.next.new.self in
    let all : c.args.table.now.entries ≡ done ++ e ∷ left = whole ∙ ap (λ es. done ++ es) c.in-Some.ensures.steps in
    let sorted = subst (λ es. IsStrictlySortedBy string_cmp (keys_of es)) all c.iter-key-items.ensures.ordered in
    let ms = members_view c.loop-key.map.entries in
    let json = c.in_ok-member_json.field-0 in (
      done ++ e ∷ [],
      all ∙ sym (append_assoc done (e ∷ []) left),
      c.in_ok-put.ensures.ok
          ∙ ap (λ k. put k (view json) ms) c.as_str-key.ensures.value
          ∙ ap (λ d. put (string_bytes e.0) d ms) (c.in_ok-member_json.ensures ∙ ap (λ k. or_redacted (c.args.hides && is_secret_key k) (toml_json c.args.hides (toml_view e.1))) c.as_str-key.ensures.value)
          ∙ ap (put (string_bytes e.0) (entry_json c.args.hides e)) so_far ∙ toml_more c.args.hides done e left sorted,
    )
