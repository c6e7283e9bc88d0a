use Rattle.std.proofs.Common.{◌≡◌, ◌<◌, ℕ, List, length, Option, Some, None, option_map, Bor, MatchOption, arith}
use Rattle.std.specs.List.{after_first, before_first, position_or_len}
use Rattle.std.proofs.lemmas.Str.Pattern.{split_once_first}
use Rattle.cc2_command_line.specs.Parts.{cut, is_equals}
use Rattle.cc2_command_line.proofs.part.cut.Goals as goal

-- what a split says is what the definition says
is_cut : (word : List ℕ) (r : Option (Bor (List ℕ) × Bor (List ℕ)))
    → MatchOption r (position_or_len is_equals word ≡ length word)
    (λ x. (position_or_len is_equals word < length word) × (x.0.now ≡ before_first is_equals word) × (x.1.now ≡ after_first is_equals word))
    → option_map (λ x. (x.0.now, x.1.now)) r ≡ cut word
is_cut word None h = grind (arith, h)
is_cut word (Some x) h = grind (arith, h.0, h.1, h.2)

pub returns : goal.returns
returns c =
    is_cut c.args.word.now c.split_once.result (split_once_first 61 c.args.word.now c.split_once.result c.split_once.ensures.cases (omega arith))
