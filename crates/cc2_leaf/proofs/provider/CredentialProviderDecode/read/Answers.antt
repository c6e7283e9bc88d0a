use Rattle.std.proofs.Common.{[], ◌∷◌}
use Rattle.toml.specs.View.{view}
use Rattle.cc2_value.specs.Values.{words_of}
use Rattle.cc2_value.specs.Copies.{origin_given}
use Rattle.cc2_leaf.specs.Providers.{provider_made, setting_of_provider}
use Rattle.cc2_leaf.proofs.Making.{made_decoded, made_refused}
use Rattle.cc2_leaf.proofs.Named.{provider_agrees}
use Rattle.cc2_leaf.proofs.provider.CredentialProviderDecode.read.Goals as goal

pub returns-in-Ok-provider-clause-ok : goal.returns-in-Ok-provider-clause-ok
returns-in-Ok-provider-clause-ok c =
    let texts = c.in-Ok.texts in
    made_decoded provider_made provider_agrees (origin_given c.args.definition) setting_of_provider
    c.in-Ok-provider.provider (view c.args.value) texts.repr (words_of texts.list.items)
    c.in-Ok.ensures.ok c.in-Ok-provider.ensures.ok

pub returns-in-Err-provider-clause-refused : goal.returns-in-Err-provider-clause-refused
returns-in-Err-provider-clause-refused c =
    let texts = c.in-Ok.texts in
    made_refused provider_made provider_agrees (origin_given c.args.definition) (c.args.key.now ∷ [])
    (view c.args.value) texts.repr (words_of texts.list.items) c.in-Err-provider.error
    c.in-Ok.ensures.ok (c.in-Err-provider.ensures.refused (c.args.key.now ∷ []))
