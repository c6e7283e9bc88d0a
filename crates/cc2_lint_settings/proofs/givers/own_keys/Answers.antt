use Rattle.std.proofs.Common.{◌≡◌, ◌++◌, ◌∷◌, [], ◌∙◌, Ok, ap, lit<}
use Rattle.std.specs.declared.alloc.AllocError.{AllocError}
use Rattle.std.proofs.lemmas.Iterator.Consumers.{map_from_collect}
use Rattle.std.proofs.lemmas.Iterator.Splits.{YieldsList-from_str_split}
use Rattle.std.proofs.lemmas.List.{map-append}
use Rattle.cc2_target.specs.Finding.{pieces}
use Rattle.cc2_value.specs.Rows.{texts_of}
use Rattle.cc2_lint_settings.proofs.givers.own_keys.Goals as goal

pub returns : goal.returns
returns c =
    let keys = c.in_ok-keys.keys in
    let cut : texts_of keys.items ≡ pieces c.args.triple.now = map_from_collect {E = AllocError} (Ok keys) c.in_ok-keys.ensures.ran
    (YieldsList-from_str_split 46 c.args.triple.now (lit< tt) c.split.ensures.text c.split.ensures.has_more c.split.ensures.pattern) in
    ap texts_of c.in_ok-push.ensures.items ∙ map-append (λ k. k.now) keys.items (c.key.result ∷ [])
    ∙ ap (λ ks. ks ++ c.key.result.now ∷ []) cut ∙ ap (λ key. pieces c.args.triple.now ++ key ∷ []) c.key.ensures
