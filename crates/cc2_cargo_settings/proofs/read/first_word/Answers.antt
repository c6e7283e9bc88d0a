use Rattle.std.proofs.Common.{◌≡◌, ◌==◌, false, List, [], ◌∷◌, String, Global, get_or, length, ap, ◌∙◌, subst}
use Rattle.cc2_value.specs.Values.{word_of, words_of}
use Rattle.cc2_value.specs.declared.value.Value.{Value}
use Rattle.cc2_cargo_settings.specs.Changes.{first_cells, word_cells}
use Rattle.cc2_cargo_settings.proofs.read.first_word.Goals as goal

first_of : (ws : List (Value (String Global))) (w : Value (String Global)) → false ≡ (length ws == 0) → w ≡ get_or ws 0 w
    → word_cells (word_of w) ≡ first_cells (words_of ws)
first_of [] w is_some first = cc is_some
first_of (v ∷ ws) w is_some first = ap (λ x. word_cells (word_of x)) first

pub returns-clause-ok : goal.returns-clause-ok
returns-clause-ok c =
    c.text_single.ensures ∙ first_of c.args.words.items c.remove-first.result (subst (λ n. false ≡ (n == 0)) c.args.words.ok.0 c.if-is_empty.ensures) c.remove-first.ensures.value
