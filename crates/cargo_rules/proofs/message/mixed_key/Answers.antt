use Rattle.std.proofs.Common.{string_bytes, codes, sym, ap, ◌∙◌}
use Rattle.std.specs.List.{join_by}
use Rattle.cc2_error.specs.Causes.{cause_of}
use Rattle.cargo_rules.specs.Messages.{mixed_key}
use Rattle.cc2_base.proofs.Joined.{joined_map}
use Rattle.cargo_rules.proofs.message.mixed_key.Goals as goal

pub returns-in_ok-join-in-Merge : goal.returns-in_ok-join-in-Merge
returns-in_ok-join-in-Merge c =
    c.in_ok-join-in-Merge.ensures.ok ∙ ap (λ keys. join_by string_bytes (codes ".") keys) c.as_slice.ensures.value
    ∙ joined_map string_bytes (codes ".") c.in-Merge.path.items ∙ ap (λ kind. mixed_key (cause_of kind)) (sym c.in-Merge.is)
