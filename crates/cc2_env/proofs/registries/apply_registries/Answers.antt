use Rattle.std.proofs.Common.{◌≡◌, ℕ, List, [], ◌∷◌, ◌++◌, sym, ap, subst, ◌∙◌, append_assoc, string_bytes}
use Rattle.std.proofs.lemmas.List.{append-nil}
use Rattle.std.proofs.lemmas.Result.{err_from_is_err_and}
use Rattle.std.specs.List.Sorted.{IsStrictlySortedBy}
use Rattle.std.specs.Map.{keys_of}
use Rattle.std.specs.Str.{bytes_eq}
use Rattle.std.specs.String.{string_cmp}
use Rattle.cc2_env.specs.Options.{variables_of}
use Rattle.cc2_env.specs.Registries.{is_registry_variable}
use Rattle.cc2_env.proofs.Keeping.{Entry}
use Rattle.cc2_env.proofs.Registering.{AreRegistriesSoFar, registries_start, registries_past}
use Rattle.cc2_env.proofs.Registering.{registries_more, registries_ranked, registries_cause}
use Rattle.cc2_env.proofs.Registering.{registries_hidden}
use Rattle.cc2_env.proofs.registries.apply_registries.Goals as goal

pub loop-name-init : goal.loop-name-init
loop-name-init c = (
  [],
  sym (c.into_iter-name-iterator.ensures.into_iter_gives ∙ c.iter-name-items.ensures.rest
      ∙ ap (λ m. m.entries) c.variables.ensures),
  registries_start (variables_of c.args.context.now) c.args.registries.now,
)

pub returns-clause-ok : goal.returns-clause-ok
returns-clause-ok c =
    let (done, whole, so_far) = c.loop-name.invariant in
    let all : c.args.context.now.env.entries ≡ done =
    whole ∙ ap (λ es. done ++ es) c.in-None.ensures.steps.0 ∙ append-nil done in
    registries_ranked (variables_of c.args.context.now) c.args.registries.now c.loop-name.registries
    (subst (λ (es : List Entry). AreRegistriesSoFar (variables_of c.args.context.now) c.args.registries.now es
    c.loop-name.registries) (sym all) so_far)

pub returns-in_err-apply_entry-clause-refused : goal.returns-in_err-apply_entry-clause-refused
returns-in_err-apply_entry-clause-refused c =
    let p = err_from_is_err_and c.from_residual.result c.from_residual.ensures.1 in
    rw (p.1, p.2) (registries_cause (variables_of c.args.context.now) c.args.registries.now c.loop-name.registries
    _ c.in_err-apply_entry.ensures.refused)

pub returns-in_err-apply_entry-clause-tokens : goal.returns-in_err-apply_entry-clause-tokens
returns-in_err-apply_entry-clause-tokens c =
    let p = err_from_is_err_and c.from_residual.result c.from_residual.ensures.1 in
    rw (p.1, p.2) (λ other differ. registries_hidden (variables_of c.args.context.now) other c.args.registries.now
    c.loop-name.registries _ differ c.in_err-apply_entry.ensures.refused)

pub loop-name-preserved-in-Continue-1 : goal.loop-name-preserved-in-Continue-1
loop-name-preserved-in-Continue-1 c =
    let (done, whole, so_far) = c.loop-name.invariant in
    let e : Entry = (c.in-Some.name.now, c.in-Some.field-0-1.now) in
    let left = c.next.new.self in
    let all : c.args.context.now.env.entries ≡ done ++ e ∷ left =
    whole ∙ ap (λ es. done ++ es) c.in-Some.ensures.steps in
    let sorted = subst (λ es. IsStrictlySortedBy string_cmp (keys_of es))
    (ap (λ m. m.entries) c.variables.ensures ∙ all) c.iter-name-items.ensures.ordered in
    let its : (n : List ℕ) → is_registry_variable n (string_bytes e.0) ≡ bytes_eq n c.in-Some-registry_of.registry.now =
    λ n. ap (is_registry_variable n) (sym c.as_str.ensures.value) ∙ c.in-Some-registry_of.ensures n in (
      done ++ e ∷ [],
      all ∙ sym (append_assoc done (e ∷ []) left),
      registries_more (variables_of c.args.context.now) c.args.registries.now done e left c.loop-name.registries
          c.apply_entry.new.registries c.in-Some-registry_of.registry.now sorted its
          c.in_ok-apply_entry.ensures.ok so_far,
    )

pub loop-name-preserved : goal.loop-name-preserved
loop-name-preserved c =
    let (done, whole, so_far) = c.loop-name.invariant in
    let e : Entry = (c.in-Some.name.now, c.in-Some.field-0-1.now) in
    let left = c.next.new.self in
    let all : c.args.context.now.env.entries ≡ done ++ e ∷ left =
    whole ∙ ap (λ es. done ++ es) c.in-Some.ensures.steps in (
      done ++ e ∷ [],
      all ∙ sym (append_assoc done (e ∷ []) left),
      registries_past (variables_of c.args.context.now) c.args.registries.now done e c.loop-name.registries
          (λ n. ap (is_registry_variable n) (sym c.as_str.ensures.value) ∙ c.in_default.ensures n) so_far,
    )
