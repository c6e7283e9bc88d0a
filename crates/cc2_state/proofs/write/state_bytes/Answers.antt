use Rattle.std.proofs.Common.{◌≡◌, ◌++◌, [], List, ℕ, Some, sym, ap, ◌∙◌}
use Rattle.std.proofs.lemmas.List.{append-nil}
use Rattle.std.specs.Prelude.{option_and_then}
use Rattle.cc2_ask.specs.Fields.{Front}
use Rattle.cc2_ask.specs.Written.{made_at, IsAppended}
use Rattle.cc2_state.specs.State.{LoadState, parts_front, state_in, state_of_parts, where_whole}
use Rattle.cc2_state.specs.Views.{state_view}
use Rattle.cc2_state.proofs.write.state_bytes.Goals as goal

-- what was appended to nothing is the whole
whole : (s : LoadState) (was now : List ℕ) → was ≡ [] → IsAppended (made_at state_of_parts parts_front) s was now → state_in now ≡ Some s
whole s was now none (bytes, is, read) =
    ap state_in (is ∙ ap (λ xs. xs ++ bytes) none ∙ sym (append-nil bytes))
    ∙ ap (λ (front : Front LoadState). option_and_then where_whole front) (read [])

pub returns : goal.returns
returns c = (
  c.are_flat.ensures.flat.0 c.if-not-are_flat.false,
  c.are_flat.ensures.ordered,
  whole (state_view c.args.parts.now) c.new-out.result.items c.push_state.new.out.items c.new-out.ensures.items c.in_ok-push_state.ensures,
)
