use Rattle.std.proofs.Common.{rules, ◌≡◌, Some, None, string_bytes, sym, ap, ◌∙◌}
use Rattle.std.proofs.lemmas.Map.Lookups.{exact_bytes}
use Rattle.std.specs.BTreeMap.{Updates, get_by_text}
use Rattle.std.specs.BTreeMap.Entry.{entry_key, entry_value, map_with_value}
use Rattle.std.specs.String.{string_cmp}
use Rattle.cc2_value.proofs.Found.{after_insert}
use Rattle.cc2_value.proofs.GatheredMaps.{entry_gathered, entry_met, entry_new, entry_refused}
use Rattle.cc2_value.proofs.map.gather_entry.Goals as goal

pub returns-in-Vacant-clause-ok : goal.returns-in-Vacant-clause-ok
returns-in-Vacant-clause-ok g c =
    let look = g.V.MergeFrom.cell_at in
    let m = c.args.map.now in
    let key = string_bytes c.args.key in
    let w = c.reverse_lists.new.self in
    let e = c.in_ok-place.field-0 in
    let got : get_by_text m key ≡ None = rw c.in-Vacant.is at c.in_ok-place.ensures.found in
    let back : c.map-in-Vacant-2-1.given.0 ≡ map_with_value e w = search rules in
    let updates : Updates string_cmp m c.map-in-Vacant-2-1.given.0 c.args.key (Some w) = rw back (c.in_ok-place.ensures.update.0 w) in
    entry_gathered look m c.map-in-Vacant-2-1.given.0 key c.args.weaker w (after_insert c.args.key w m c.map-in-Vacant-2-1.given.0 updates)
    (entry_new look (get_by_text m key) c.args.weaker w got c.in_ok-reverse_lists-in-Vacant.ensures)

pub returns-in-Ok-clause-ok : goal.returns-in-Ok-clause-ok
returns-in-Ok-clause-ok g c =
    let look = g.V.MergeFrom.cell_at in
    let m = c.args.map.now in
    let key = string_bytes c.args.key in
    let w = c.gather.new.self in
    let e = c.in_ok-place.field-0 in
    let got : get_by_text m key ≡ Some c.get_mut.result.now =
    sym c.in_ok-place.ensures.value ∙ ap entry_value c.in-Occupied.is ∙ c.get_mut.ensures.value in
    let back : c.map-in-Ok-1.given.0 ≡ map_with_value e w = search rules in
    let updates : Updates string_cmp m c.map-in-Ok-1.given.0 c.args.key (Some w) = rw back (c.in_ok-place.ensures.update.0 w) in
    entry_gathered look m c.map-in-Ok-1.given.0 key c.args.weaker w (after_insert c.args.key w m c.map-in-Ok-1.given.0 updates)
    (entry_met look (get_by_text m key) c.get_mut.result.now c.args.weaker w got c.in-Ok.ensures.ok)

pub returns-clause-refused : goal.returns-clause-refused
returns-clause-refused g c =
    let m = c.args.map.now in
    let key = string_bytes c.args.key in
    let got : get_by_text m key ≡ Some c.get_mut.result.now =
    sym c.in_ok-place.ensures.value ∙ ap entry_value c.in-Occupied.is ∙ c.get_mut.ensures.value in
    let keyed : c.key.result.now ≡ entry_key c.in_ok-place.field-0 = search rules in
    let same : string_bytes c.key.result.now ≡ key =
    ap string_bytes keyed ∙ sym (exact_bytes key (string_bytes (entry_key c.in_ok-place.field-0)) c.in_ok-place.ensures.same_key) in
    entry_refused g.V.MergeFrom.cell_at m key c.get_mut.result.now c.args.weaker c.in-Err.error
    c.below.result got (rw (c.as_str.ensures.value ∙ same) at c.below.ensures) c.in-Err.ensures.refused
