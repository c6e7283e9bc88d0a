use Rattle.std.proofs.Common.{◌≡◌, ℕ, List, ◌++◌, append_assoc, codes, ◌∙◌}
use Rattle.std.specs.Fmt.{decimal}
use Rattle.cc2_cli.specs.Lines.{truth_text}
use Rattle.cc2_answers.proofs.Together.{then}
use Rattle.cc2_answers.specs.VersionLines.{part_line, patch_line}
use Rattle.cc2_answers.proofs.version_lines.version_lines.Goals as goal

-- four texts, one after another
regrouped : (a b c d : List ℕ) → ((a ++ b) ++ c) ++ d ≡ a ++ (b ++ (c ++ d))
regrouped a b c d = simp append_assoc

pub returns : goal.returns
returns c =
    let key = c.args.key.now in
    then _ _ _ _ (then _ _ _ _ (then _ _ _ _ (then _ _ _ _ c.new-lines.ensures.items c.in_ok-push_number.ensures)
    c.in_ok-push_number-2.ensures) c.in_ok-push_patch.ensures) c.in_ok-push_truth.ensures
    ∙ regrouped (part_line key (codes "major") (decimal c.args.major)) (part_line key (codes "minor") (decimal c.args.minor))
    (patch_line key c.args.patch) (part_line key (codes "nightly") (truth_text c.args.nightly))
