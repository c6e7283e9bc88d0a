use Rattle.std.proofs.Common.{map, false, ◌∙◌, ap, sym}
use Rattle.serde_json.specs.Data.{array}
use Rattle.serde_json.specs.View.{items_of}
use Rattle.cc2_json.specs.Forms.{setting_data}
use Rattle.cc2_resolved.specs.Providers.{providers_in}
use Rattle.cc2_resolved_json.specs.Plain.{provider_setting}
use Rattle.cc2_resolved_json.proofs.Cells.{no_providers, some_providers}
use Rattle.cc2_resolved_json.proofs.to_json.GlobalCredentialProvidersToJson.to_json.Goals as goal

pub returns-then-is_empty-clause-shown : goal.returns-then-is_empty-clause-shown
returns-then-is_empty-clause-shown c =
    no_providers c.args._tokens c.args.self.now.providers.items (sym c.is_empty.ensures ∙ c.if-is_empty.true)

pub returns-clause-shown : goal.returns-clause-shown
returns-clause-shown c =
    some_providers c.args._tokens c.args.self.now.providers.items c.array.result (sym c.is_empty.ensures ∙ c.if-is_empty.false)
    (c.array.ensures ∙ ap (λ ds. array (items_of ds)) c.in_ok-each_json.ensures
    ∙ ap (λ ps. array (items_of (map (setting_data false) (map provider_setting (providers_in ps))))) c.as_ref.ensures)

pub returns-then-is_empty-clause-member : goal.returns-then-is_empty-clause-member
returns-then-is_empty-clause-member c =
    no_providers c.args._tokens c.args.self.now.providers.items (sym c.is_empty.ensures ∙ c.if-is_empty.true)

pub returns-clause-member : goal.returns-clause-member
returns-clause-member c =
    some_providers c.args._tokens c.args.self.now.providers.items c.array.result (sym c.is_empty.ensures ∙ c.if-is_empty.false)
    (c.array.ensures ∙ ap (λ ds. array (items_of ds)) c.in_ok-each_json.ensures
    ∙ ap (λ ps. array (items_of (map (setting_data false) (map provider_setting (providers_in ps))))) c.as_ref.ensures)
