use Rattle.std.proofs.Common.{◌≡◌, ◌||◌, List, [], ◌∷◌, ◌++◌, String, Global, map, append_assoc, refl, sym, ap, subst, ◌∙◌}
use Rattle.std.proofs.lemmas.List.{append-nil}
use Rattle.std.specs.List.Sorted.{IsStrictlySortedBy}
use Rattle.std.specs.Map.{keys_of}
use Rattle.std.specs.String.{string_cmp}
use Rattle.serde_json.specs.Data.{array}
use Rattle.serde_json.specs.View.{view, items_of, members_view}
use Rattle.serde_json.specs.Written.{has_float}
use Rattle.toml.specs.declared.value.Value.{Value as TomlValue}
use Rattle.cc2_value.specs.declared.value.Value.{Value}
use Rattle.cc2_cargo.specs.Raw as cell
use Rattle.cc2_cargo.specs.Raw.{Path, raw_members_at, raw_at, raw_value}
use Rattle.cc2_cargo.specs.RawReading.{IsOne}
use Rattle.cc2_cargo.specs.declared.raw.Raw.{Raw}
use Rattle.cc2_cargo.proofs.Raws.{raw_array, raw_single}
use Rattle.cc2_cargo_answers.specs.RawJson.{IsJson, IsJsonPut, as_table, is_secret_key, setting_json, told}
use Rattle.cc2_cargo_answers.proofs.Tables.{all_free, along, json_more, on_ok, one_put, table_is, whole_table}
use Rattle.cc2_cargo_answers.proofs.Values.{setting_free, settings_free}
use Rattle.cc2_cargo_answers.proofs.json.+json.Goals as goal

pub table_json-loop-key-preserved : goal.table_json-loop-key-preserved
table_json-loop-key-preserved t c =
    let (done, whole, so_far) = c.loop-key.invariant in
    let e : String Global × Raw = (c.in-Some.key.now, c.in-Some.raw.now) in
    let left = c.next.new.self in
    let all : c.args.members.now.entries ≡ done ++ e ∷ left = whole ∙ ap (λ es. done ++ es) c.in-Some.ensures.steps in
    let sorted = subst (λ es. IsStrictlySortedBy string_cmp (keys_of es)) all c.iter-key-items.ensures.ordered in
    let ms = members_view c.loop-key.map.entries in
    let ns = members_view c.put_raw.new.map.entries in
    let at = subst (λ b. IsJsonPut c.args.form c.as_str-key.result.now b (raw_at e.1) ms ns) c.is_secret_at.ensures c.in_ok-put_raw.ensures in
    let put = subst (λ k. IsJsonPut c.args.form k (c.args.secret || is_secret_key k) (raw_at e.1) ms ns) c.as_str-key.ensures.value at in (
      done ++ e ∷ [],
      all ∙ sym (append_assoc done (e ∷ []) left),
      json_more c.args.form c.args.secret done e left ms ns sorted so_far put,
    )

pub table_json-returns-clause-json : goal.table_json-returns-clause-json
table_json-returns-clause-json t c =
    let (done, entries, so_far) = c.loop-key.invariant in
    let all : c.args.members.now.entries ≡ done = entries ∙ ap (λ es. done ++ es) c.in-None.ensures.steps.0 ∙ append-nil done in
    subst (λ d. IsJson c.args.form c.args.secret (as_table (raw_members_at c.args.members.now)) d) (sym c.object.ensures)
    (table_is c.args.form c.args.secret c.args.members.now (members_view c.loop-key.map.entries) c.iter-key-items.ensures.ordered (rw all so_far))

pub table_json-returns-clause-free : goal.table_json-returns-clause-free
table_json-returns-clause-free t c =
    let (done, entries, so_far) = c.loop-key.invariant in
    ap has_float c.object.ensures ∙ all_free c.args.form c.args.secret done (members_view c.loop-key.map.entries) so_far

pub put_raw-returns-in_ok-json-in-Table : goal.put_raw-returns-in_ok-json-in-Table
put_raw-returns-in_ok-json-in-Table t c =
    let m = c.in-Table.members in
    let json = c.in_ok-json-in-Table.json in
    let same : (p : Path) → raw_at c.args.raw.now p ≡ as_table (raw_members_at m) p = λ p. ap (λ (r : Raw). raw_at r p) c.in-Table.is ∙ whole_table m p in
    on_ok c.put.result
    (λ are. record {
      json = view json;
      of = along c.args.form c.args.secret (as_table (raw_members_at m)) (raw_at c.args.raw.now) (view json) same c.in_ok-json-in-Table.ensures.json;
      free = c.in_ok-json-in-Table.ensures.free;
      are = are;
    })
    c.put.ensures.ok

pub put_raw-returns-in_ok-json-in-Array : goal.put_raw-returns-in_ok-json-in-Array
put_raw-returns-in_ok-json-in-Array t c =
    let a = c.in-Array.array in
    let ss = map raw_value a.items.items in
    let one : IsOne (cell.array_cell a) c.args.raw.now = λ p. ap (λ (r : Raw). raw_at r p) c.in-Array.is ∙ raw_array a p in
    let shows = told c.args.form c.args.secret in
    let shown : view c.in_ok-json-in-Array.json ≡ shows (array (items_of (map (setting_json c.args.form) ss))) =
    c.in_ok-json-in-Array.ensures ∙ ap shows c.in_ok-items-in-Array.ensures
    ∙ ap (λ (xs : List (Value TomlValue)). shows (array (items_of (map (setting_json c.args.form) (map raw_value xs))))) c.as_slice.ensures.value in
    on_ok c.put-in-Array.result
    (λ are. one_put c.args.form c.args.key.now c.args.secret (cell.array_cell a) c.args.raw.now (array (items_of (map (setting_json c.args.form) ss)))
    (view c.in_ok-json-in-Array.json) _ _ one refl shown (settings_free c.args.form ss) are)
    c.put-in-Array.ensures.ok

pub put_raw-returns-in_ok-json-in-Single : goal.put_raw-returns-in_ok-json-in-Single
put_raw-returns-in_ok-json-in-Single t c =
    let v = c.in-Single.value in
    let one : IsOne (cell.single (raw_value v)) c.args.raw.now = λ p. ap (λ (r : Raw). raw_at r p) c.in-Single.is ∙ raw_single v p in
    let shows = told c.args.form c.args.secret in
    let shown : view c.in_ok-json-in-Single.json ≡ shows (setting_json c.args.form (raw_value v)) =
    c.in_ok-json-in-Single.ensures ∙ ap shows c.in_ok-value_json-in-Single.ensures in
    on_ok c.put-in-Single.result
    (λ are. one_put c.args.form c.args.key.now c.args.secret (cell.single (raw_value v)) c.args.raw.now (setting_json c.args.form (raw_value v))
    (view c.in_ok-json-in-Single.json) _ _ one refl shown (setting_free c.args.form (raw_value v)) are)
    c.put-in-Single.ensures.ok
