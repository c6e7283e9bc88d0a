use Rattle.std.proofs.Common.{◌≡◌, ℕ, List, ◌++◌, codes, append_assoc, ap, ◌∙◌}
use Rattle.cc2_answers.proofs.several.push_item.Goals as goal

-- lines after what was there, and then an empty line
put_behind : (was lines taken more all : List ℕ) → taken ≡ lines → more ≡ was ++ taken → all ≡ more ++ codes "\n"
    → all ≡ was ++ (lines ++ codes "\n")
put_behind was lines taken more all same first last =
    last ∙ ap (λ xs. xs ++ codes "\n") (first ∙ ap (λ xs. was ++ xs) same) ∙ append_assoc was lines (codes "\n")

pub returns : goal.returns
returns g c =
    let asked = c.in_ok-lines.ensures in
    let was = c.args.out.now.items in
    let lines = c.in_ok-lines.lines.items in record {
      left = asked.left;
      same = asked.same;
      told = λ fs answers files programs ready. (
        lines,
        asked.told fs answers files programs ready,
        put_behind was lines c.as_slice.result.now c.extend_from_slice.new.self.items c.push.new.self.items c.as_slice.ensures.value
            c.in_ok-extend_from_slice.ensures.items c.in_ok-push.ensures.items,
      );
    }
