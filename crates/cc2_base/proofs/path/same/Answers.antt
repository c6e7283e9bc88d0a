use Rattle.std.proofs.Common.{◌≡◌, true, false, [], ◌∷◌, ◌++◌, sym, ap, subst, ◌∙◌}
use Rattle.std.specs.Cmp.Lexicographic.{bytes_decides}
use Rattle.std.specs.Path.{component_bytes, components_remaining, IsLastComponent}
use Rattle.cc2_base.proofs.Sameness.{none_comes, taken_off, other_last, fewer, same_where_done}
use Rattle.cc2_base.proofs.path.same.Goals as goal

pub loop-last-preserved : goal.loop-last-preserved
loop-last-preserved c =
    let (done, path, other) = c.loop-last.invariant in
    let text = component_bytes c.in-Some.last in
    let equal : component_bytes c.in-Some-next_back.other ≡ text = sym c.as_os_str.ensures
    ∙ (bytes_decides _ _).0 (sym c.if-eq.ensures) ∙ c.as_os_str-text.ensures in
    let left = components_remaining c.next_back.new.self in (
      text ∷ done,
      taken_off _ _ _ done text path c.in-Some.ensures.steps.0,
      taken_off _ _ _ done text other
          (c.in-Some-next_back.ensures.steps.0 ∙ ap (λ t. left ++ t ∷ []) equal),
    )

pub returns-in_default : goal.returns-in_default
returns-in_default c =
    let (done, path, other) = c.loop-last.invariant in
    other_last c.args.path.now c.args.other.now _ _ _ _ done _ _ path other
    c.in-Some.ensures.steps.0 c.in-Some-next_back.ensures.steps.0
    (λ e. let same = (bytes_decides _ _).1 (c.as_os_str.ensures ∙ sym e ∙ sym c.as_os_str-text.ensures) in
    let differ : false ≡ true = c.if-eq.ensures ∙ same in cc)

pub returns-in_default-2 : goal.returns-in_default-2
returns-in_default-2 c =
    let (done, path, other) = c.loop-last.invariant in
    let before = components_remaining c.loop-last.others in
    let after = components_remaining c.next_back.new.self in
    let ended = subst (λ r. IsLastComponent before r after) c.in_default.is c.next_back.ensures.steps in
    fewer c.args.path.now c.args.other.now _ _ _ done _ path other c.in-Some.ensures.steps.0 ended.0

pub returns : goal.returns
returns c =
    let (done, path, other) = c.loop-last.invariant in
    same_where_done c.args.path.now c.args.other.now _ _ done c.is_none.result path other c.in-None.ensures.steps.0
    (none_comes _ _ c.next_back-2.result c.is_none.result c.is_none.ensures c.next_back-2.ensures.steps)
