use Rattle.std.proofs.Common.{◌≡◌, ℕ, List, codes, sym, ap, ◌∙◌, ◌++◌}
use Rattle.cc2_env.specs.Registries.{is_registry_rest}
use Rattle.cc2_env.proofs.RegistryNames.{of_protocol, of_index, of_token, of_provider, of_none, protocol_end, same_text}
use Rattle.cc2_env.proofs.registries.registry_before.Goals as goal

pub returns-in-Some : goal.returns-in-Some
returns-in-Some c n =
    let cut = c.in-Some.ensures.cases in
    let r : List ℕ = c.in-Some.registry.now in
    let is : c.args.rest.now ≡ r ++ codes "_INDEX" = cut.1.1 ∙ ap (λ t. t ++ codes "_INDEX") (sym cut.2) in
    ap (is_registry_rest n) is ∙ of_index n r

pub returns-in-Some-strip_suffix : goal.returns-in-Some-strip_suffix
returns-in-Some-strip_suffix c n =
    let cut = c.in-Some-strip_suffix.ensures.cases in
    let r : List ℕ = c.in-Some-strip_suffix.registry.now in
    let is : c.args.rest.now ≡ r ++ codes "_TOKEN" = cut.1.1 ∙ ap (λ t. t ++ codes "_TOKEN") (sym cut.2) in
    ap (is_registry_rest n) is ∙ of_token n r

pub returns-in-Some-strip_suffix-2 : goal.returns-in-Some-strip_suffix-2
returns-in-Some-strip_suffix-2 c n =
    let cut = c.in-Some-strip_suffix-2.ensures.cases in
    let r : List ℕ = c.in-Some-strip_suffix-2.registry.now in
    let is : c.args.rest.now ≡ r ++ codes "_CREDENTIAL_PROVIDER" =
    cut.1.1 ∙ ap (λ t. t ++ codes "_CREDENTIAL_PROVIDER") (sym cut.2) in
    ap (is_registry_rest n) is ∙ of_provider n r

pub returns-then-eq : goal.returns-then-eq
returns-then-eq c n = ap (is_registry_rest n) (same_text c.args.rest.now protocol_end (sym c.if-eq.ensures))
    ∙ of_protocol n

pub returns-else-eq : goal.returns-else-eq
returns-else-eq c n =
    of_none n c.args.rest.now (λ is. c.in_default.ensures.cases n is)
    (λ is. c.in_default-strip_suffix.ensures.cases n is) (λ is. c.in_default-strip_suffix-2.ensures.cases n is)
    (sym c.if-eq.ensures)
