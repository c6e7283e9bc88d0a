use Rattle.std.proofs.Common.{Some}
use Rattle.cc2_value.specs.Cells.{variable}
use Rattle.cc2_value.specs.Values.{words_of}
use Rattle.cc2_leaf.specs.Pieces.{spaced}
use Rattle.cc2_leaf.specs.Providers.{provider_made, setting_of_provider}
use Rattle.cc2_leaf.proofs.Named.{provider_agrees}
use Rattle.cc2_leaf.proofs.TextFaults.{made_read, made_unread}
use Rattle.cc2_leaf.proofs.provider.CredentialProviderReadEnv.read_env.Goals as goal

pub returns-in-Ok-clause-ok : goal.returns-in-Ok-clause-ok
returns-in-Ok-clause-ok c =
    made_read provider_made provider_agrees (Some (variable c.args.name.now)) setting_of_provider
    c.in-Ok.provider (spaced c.args.text.now) (words_of c.in_ok-list.list.items)
    c.in_ok-list.ensures.ok c.in-Ok.ensures.ok

pub returns-in-Err-clause-refused : goal.returns-in-Err-clause-refused
returns-in-Err-clause-refused c =
    made_unread provider_made provider_agrees (Some (variable c.args.name.now)) (spaced c.args.text.now)
    (words_of c.in_ok-list.list.items) c.in-Err.error
    c.in_ok-list.ensures.ok c.in-Err.ensures.refused
