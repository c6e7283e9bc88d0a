use Rattle.std.proofs.Common.{◌∙◌, ℕ, List, Bool}
use Rattle.std.specs.Str.{bytes_eq}
use Rattle.cc2_findings.proofs.Keys.{any_text}
use Rattle.cc2_findings.proofs.place.is_among.Goals as goal

pub returns : goal.returns
returns c =
    let test : List ℕ → Bool = λ known. bytes_eq known c.args.key.now in
    c.contains.ensures.value ∙ any_text test c.args.keys.now
