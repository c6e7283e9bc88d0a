use Rattle.std.proofs.Common.{◌≡◌, ◌≢◌, ℕ, List, [], ◌∷◌, ◌++◌, sym, ◌∙◌, ap, lit<}
use Rattle.std.specs.Prelude.{codes, Option, Some, None, IfNone, MatchOption}
use denote.Ref.{Bor}
use Rattle.std.proofs.lemmas.Str.Pattern.{strip_suffix_char}
use Rattle.cc2_cfg.specs.Tokens.{wrapped}
use Rattle.cc2_cargo.proofs.cfg_key.inner.Goals as goal

cancel : (x y : List ℕ) → codes "cfg(" ++ x ≡ codes "cfg(" ++ y → x ≡ y
cancel x y e = cc e

unclosed : (key rest : List ℕ) (o : Option (Bor (List ℕ))) (P : Bor (List ℕ) → Type 0) → key ≡ codes "cfg(" ++ rest
    → MatchOption o ((front : List ℕ) → rest ≢ front ++ 41 ∷ []) P → IfNone o ((text : List ℕ) → key ≢ wrapped text)
unclosed key rest None P e m = λ text w. m text (cancel rest (text ++ 41 ∷ []) (sym e ∙ w))
unclosed key rest (Some x) P e m = tt

pub returns-clause-none : goal.returns-clause-none
returns-clause-none c =
    let p = c.in_ok-strip_prefix.ensures.cases in
    let rest = c.in_ok-strip_prefix.field-0.now in
    unclosed c.args.key.now rest c.strip_suffix.result _
    (p.1.1 ∙ ap (λ (z : List ℕ). codes "cfg(" ++ z) (sym p.2))
    (strip_suffix_char 41 rest c.strip_suffix.result c.strip_suffix.ensures.cases (lit< tt))
