use Rattle.std.proofs.Common.{◌≡◌, ℕ, List, ◌∷◌, Some, None, cond, map, string_bytes, sym, ap, ◌∙◌}
use Rattle.std.specs.Prelude.{unwrap_or}
use Rattle.std.specs.BTreeMap.{get_by_text}
use Rattle.std.specs.Str.{bytes_eq}
use Rattle.std.proofs.lemmas.Map.Text.{btree_map_updates_text}
use Rattle.cc2_value.proofs.Found.{after_insert}
use Rattle.cc2_cargo.specs.Raw.{Path, member_at, raw_at, raw_members_at}
use Rattle.cc2_cargo.specs.declared.raw.Raw.TheViews.{Table}
use Rattle.cc2_cargo_settings.specs.Under.{put_at}
use Rattle.cc2_cargo_settings.proofs.Putting.{Puts, below_put, member_put, no_keys}
use Rattle.cc2_cargo_settings.proofs.put.+put_member.Goals as goal

pub returns-in_ok-put-in-None-clause-ok : goal.returns-in_ok-put-in-None-clause-ok
returns-in_ok-put-in-None-clause-ok t c =
    let m = c.args.members in
    let n = c.put.new.map in
    let key = c.args.key.now in
    let w = c.args.raw in
    let puts : Puts key (Some w) m n = λ k.
    after_insert c.in_ok-from_str-in-None.field-0 w m n c.in_ok-put-in-None.ensures.updates k
    ∙ ap (λ b. cond (bytes_eq b k) (Some w) (get_by_text m k)) c.in_ok-from_str-in-None.ensures.ok in
    λ p. member_put key w m n puts p
    ∙ ap (λ l. unwrap_or (put_at (key ∷ l) (raw_at w) p) (raw_members_at m p)) (sym (no_keys string_bytes c.args.below.now c.in-None.ensures.cases))

pub returns-in_ok-put-in-Some-clause-ok : goal.returns-in_ok-put-in-Some-clause-ok
returns-in_ok-put-in-Some-clause-ok t c =
    let m = c.args.members in
    let taken = c.remove.new.self in
    let n = c.put-in-Some.new.map in
    let key = c.args.key.now in
    let inner = c.in_ok-inner-in-Some.inner in
    let takes : Puts key None m taken = btree_map_updates_text key m taken None c.remove.ensures.updates in
    let puts : Puts key (Some (Table inner)) taken n = λ k.
    after_insert c.in_ok-from_str-in-Some.field-0 (Table inner) taken n c.in_ok-put-in-Some.ensures.updates k
    ∙ ap (λ b. cond (bytes_eq b k) (Some (Table inner)) (get_by_text taken k)) c.in_ok-from_str-in-Some.ensures.ok in
    let was : (k : List ℕ) (p : Path) → raw_members_at c.table_of-table.result (k ∷ p) ≡ member_at (get_by_text m key) (k ∷ p) = λ k p. c.table_of-table.ensures k p ∙ ap (λ o. member_at o (k ∷ p)) c.remove.ensures.value in
    let rest = map string_bytes c.in-Some.rest.now in
    let put : (q : Path) → raw_members_at inner q ≡ unwrap_or (put_at (string_bytes c.in-Some.next.now ∷ rest) (raw_at c.args.raw) q) (raw_members_at c.table_of-table.result q) = λ q.
    c.in_ok-inner-in-Some.ensures.ok q ∙ ap (λ k. unwrap_or (put_at (k ∷ rest) (raw_at c.args.raw) q) (raw_members_at c.table_of-table.result q)) c.as_str.ensures.value in
    λ p. below_put key m taken n inner c.table_of-table.result (string_bytes c.in-Some.next.now) rest (raw_at c.args.raw)
    takes puts put was p
    ∙ ap (λ xs. unwrap_or (put_at (key ∷ map string_bytes xs) (raw_at c.args.raw) p) (raw_members_at m p)) (sym c.in-Some.ensures.cases.0)
