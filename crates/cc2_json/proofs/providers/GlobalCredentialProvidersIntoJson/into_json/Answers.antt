use Rattle.std.proofs.Common.{map, ap, sym, ◌∙◌}
use Rattle.serde_json.specs.Data.{array}
use Rattle.serde_json.specs.View.{items_of}
use Rattle.cc2_leaf.specs.Providers.{setting_of_provider}
use Rattle.cc2_json.specs.Forms.{setting_data}
use Rattle.cc2_json.proofs.Trees.{no_providers, some_providers}
use Rattle.cc2_json.proofs.providers.GlobalCredentialProvidersIntoJson.into_json.Goals as goal

pub returns-then-is_empty : goal.returns-then-is_empty
returns-then-is_empty c = no_providers c.args.form c.args.self.providers.items (sym c.is_empty.ensures ∙ c.if-is_empty.true)

pub returns : goal.returns
returns c =
    some_providers c.args.form c.args.self.providers.items c.array.result (sym c.is_empty.ensures ∙ c.if-is_empty.false)
    (c.array.ensures ∙ ap (λ ds. array (items_of ds)) c.in_ok-each_json.ensures
    ∙ ap (λ ps. array (items_of (map (setting_data c.args.form.origins) (map setting_of_provider ps)))) c.as_ref.ensures)
