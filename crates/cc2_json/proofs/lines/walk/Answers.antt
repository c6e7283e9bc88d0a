use Rattle.std.proofs.Common.{◌++◌, string_bytes, sym, ap, ◌∙◌, subst}
use Rattle.serde_json.specs.View.{members_view, view}
use Rattle.cc2_json.specs.TomlPlaces.{IsWalked, below_of, place_view, places_of}
use Rattle.cc2_json.proofs.TomlPlaces.{table_walked}
use Rattle.cc2_json.proofs.lines.walk.Goals as goal

pub returns-in-Some : goal.returns-in-Some
returns-in-Some c =
    let key = string_bytes c.args.place.key in
    let left = c.args.left.now.items in
    let below = c.in_ok-below-in-Some.below.items in
    subst (λ qs. IsWalked c.args.origins (place_view c.args.place) (places_of left) c.args.lines.now.items (places_of qs) c.args.lines.now.items)
    (sym (c.in_ok-append-in-Some.ensures.items ∙ ap (λ zs. left ++ zs) c.reverse.ensures.items))
    (table_walked c.args.origins key (view c.args.place.json.now) (members_view c.in-Some.members.now.entries) left below c.args.lines.now.items
    (sym c.in-Some.ensures)
    (c.in_ok-below-in-Some.ensures ∙ ap (λ k. below_of k (members_view c.in-Some.members.now.entries)) c.as_str.ensures.value))
