use Rattle.std.proofs.Common.{◌≡◌, [], ◌∷◌, ◌++◌, String, Global, arith, refl, sym, ap, subst, ◌∙◌, append_assoc}
use Rattle.std.proofs.lemmas.List.{append-nil}
use Rattle.std.proofs.lemmas.Grind.{common_steps}
use Rattle.std.proofs.lemmas.Result.{err_from_is_err_and}
use Rattle.std.specs.List.Sorted.{IsStrictlySortedBy}
use Rattle.std.specs.Map.{keys_of}
use Rattle.std.specs.String.{string_cmp}
use Rattle.cc2_resolved.specs.Sites.{site_of}
use Rattle.cc2_resolved.proofs.ByName.{IsMember, names_resolved, name_refused}
use Rattle.cc2_resolved_tables.proofs.AtOnce.{AreMade, made_more, made_sorted, made_at_once}
use Rattle.cc2_resolved_tables.proofs.member.resolve_names.Goals as goal

pub returns-in_err-member-clause-refused : goal.returns-in_err-member-clause-refused
returns-in_err-member-clause-refused g c =
    let (done, whole, so_far) = c.loop-key.invariant in
    let e : String Global × _ = (c.in-Some.key, c.in-Some.value) in
    let iter : c.loop-key.key-iterator ≡ e ∷ c.next.new.self = grind (arith, common_steps) in
    let all : c.args.map.entries ≡ done ++ e ∷ c.next.new.self = whole ∙ ap (λ es. done ++ es) iter in
    let sorted = rw all at c.into_iter-key-iterator.ensures.into_iter_gives.5 in
    let p = err_from_is_err_and c.from_residual-in_err-member.result c.from_residual-in_err-member.ensures.1 in
    rw (p.1, p.2) (name_refused g.V.Member.how (site_of c.args.place.now) g.V.Member.look c.args.map
    done e c.next.new.self _ all sorted c.in_err-member.ensures.refused)

pub loop-key-preserved : goal.loop-key-preserved
loop-key-preserved g c =
    let (done, whole, so_far) = c.loop-key.invariant in
    let e : String Global × _ = (c.in-Some.key, c.in-Some.value) in
    let w : String Global × _ = (c.in-Some.key, c.in_ok-member.member) in
    let left = c.next.new.self in
    let iter : c.loop-key.key-iterator ≡ e ∷ left = grind (arith, common_steps) in
    let all : c.args.map.entries ≡ done ++ e ∷ left = whole ∙ ap (λ es. done ++ es) iter in
    let Rel = IsMember g.V.Member.how (site_of c.args.place.now) g.V.Member.look g.V.Member.shown in
    let more = made_more Rel done c.loop-key.members.items e w so_far refl c.in_ok-member.ensures.ok.is in (
      done ++ e ∷ [],
      all ∙ sym (append_assoc done (e ∷ []) left),
      subst (λ ws. AreMade Rel (done ++ e ∷ []) ws) (sym c.in_ok-push.ensures.items) more,
    )

pub from_sorted-requires : goal.from_sorted-requires
from_sorted-requires g c =
    let (done, whole, so_far) = c.loop-key.invariant in
    let iter : c.loop-key.key-iterator ≡ [] = grind (arith, common_steps) in
    let all : c.args.map.entries ≡ done = whole ∙ ap (λ es. done ++ es) iter ∙ append-nil done in
    let Rel = IsMember g.V.Member.how (site_of c.args.place.now) g.V.Member.look g.V.Member.shown in
    made_sorted Rel done c.loop-key.members.items so_far
    (subst (λ es. IsStrictlySortedBy string_cmp (keys_of es)) all c.into_iter-key-iterator.ensures.into_iter_gives.5)

pub returns-clause-ok : goal.returns-clause-ok
returns-clause-ok g c =
    let (done, whole, so_far) = c.loop-key.invariant in
    let iter : c.loop-key.key-iterator ≡ [] = grind (arith, common_steps) in
    let all : c.args.map.entries ≡ done = whole ∙ ap (λ es. done ++ es) iter ∙ append-nil done in
    let site = site_of c.args.place.now in
    let Rel = IsMember g.V.Member.how site g.V.Member.look g.V.Member.shown in
    let m = c.in_ok-from_sorted.field-0 in
    names_resolved g.V.Member.how site g.V.Member.look g.V.Member.shown c.args.map m
    (rw all (made_at_once Rel (g.met.V.Member.nothing site) done c.loop-key.members.items m so_far c.in_ok-from_sorted.ensures))
