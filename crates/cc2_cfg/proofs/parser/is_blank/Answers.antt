use Rattle.std.proofs.Common.{◌≡◌, ℕ, length, ap, sym, ◌∙◌, List, []}
use Rattle.std.specs.Prelude.{◌==◌}
use Rattle.cc2_cfg.proofs.Blanks.{empty-from}
use Rattle.cc2_cfg.proofs.parser.is_blank.Goals as goal

pub returns-clause-no : goal.returns-clause-no
returns-clause-no c = λ is blank.
    let none = empty-from c.args.text.now c.trim_start.result.now c.trim_start.ensures.value blank in
    let test : (length c.trim_start.result.now == 0) ≡ (length {A = ℕ} [] == 0) =
    ap (λ (z : List ℕ). length z == 0) none in
    cc (sym is ∙ c.is_empty.ensures ∙ test)
