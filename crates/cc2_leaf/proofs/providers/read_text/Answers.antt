use Rattle.std.proofs.Common.{◌≡◌, List, ℕ, [], ◌∷◌, false, Some, sym, ap, subst, ◌∙◌}
use Rattle.toml.specs.Data.{as_str}
use Rattle.toml.specs.View.{view}
use Rattle.cc2_value.specs.Ways.{Flaw, IsFaultBehind}
use Rattle.cc2_value.specs.Copies.{origin_given}
use Rattle.cc2_leaf.specs.Made.{faults_of}
use Rattle.cc2_leaf.specs.Providers.{provider_made}
use Rattle.cc2_leaf.specs.ManyProviders.{text_made}
use Rattle.cc2_leaf.proofs.Each.{text_agrees}
use Rattle.cc2_leaf.proofs.providers.read_text.Goals as goal

pub returns-in-Ok-clause-faults : goal.returns-in-Ok-clause-faults
returns-in-Ok-clause-faults c =
    let origin = origin_given c.args.definition in
    let text : as_str (view c.args.item.now) ≡ Some c.in-Some.text.now = cc (c.in-Some.ensures) in
    text_agrees origin (as_str (view c.args.item.now))
    ∙ ap faults_of (ap (text_made origin) text ∙ ap (provider_made false)
    (sym c.in_ok-list-in-Some.ensures.ok) ∙ c.in-Ok.ensures.ok)

pub returns-in-Err-clause-refused : goal.returns-in-Err-clause-refused
returns-in-Err-clause-refused c =
    let origin = origin_given c.args.definition in
    let keys : List (List ℕ) = c.args.key.now ∷ [] in
    let text : as_str (view c.args.item.now) ≡ Some c.in-Some.text.now = cc (c.in-Some.ensures) in
    subst (λ (flaws : List Flaw). IsFaultBehind keys flaws c.in-Err.error)
    (sym (text_agrees origin (as_str (view c.args.item.now)) ∙ ap faults_of
    (ap (text_made origin) text ∙ ap (provider_made false) (sym c.in_ok-list-in-Some.ensures.ok))))
    (c.in-Err.ensures.refused keys)
