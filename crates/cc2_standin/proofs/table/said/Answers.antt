use Rattle.std.proofs.Common.{◌≡◌, ℕ, List, [], ◌∷◌, Bool, true, false, map, length, string_bytes}
use Rattle.std.proofs.Common.{String, Global, Decides, refl, sym, ◌∙◌, codes, bytes_eq, nat_eq, rules}
use Rattle.std.proofs.Common.{tests}
use Rattle.std.specs.Prelude.{◌==◌}
use Rattle.std.specs.List.{ends_with}
use Rattle.std.proofs.lemmas.Slice.Eq.{bytes_eq-Decides}
use Rattle.cc2_standin.specs.Table.{is_none_said}
use Rattle.cc2_standin.proofs.table.said.Goals as goal

refuted : (b : Bool) {P : Type 0} → Decides b P → ¬ P → b ≡ false
refuted true d h = absurd (h (d.0 refl))
refuted false d h = refl

-- what is not a text doesn't compare equal to it
apart : (xs ys : List ℕ) → ¬ (xs ≡ ys) → bytes_eq xs ys ≡ false
apart xs ys h = refuted (bytes_eq xs ys) (bytes_eq-Decides xs ys) h

none_said : (words : List (String Global)) → is_none_said (map string_bytes words) ≡ (length words == 0)
none_said [] = refl
none_said (word ∷ words) = search (rules, tests)

pub returns-then-asks_version : goal.returns-then-asks_version
returns-then-asks_version c = rw (sym c.asks_version.ensures ∙ c.if-asks_version.true) c.printed.ensures

pub returns-in-Some-fail : goal.returns-in-Some-fail
returns-in-Some-fail c =
    rw (
      sym c.asks_version.ensures ∙ c.if-asks_version.false,
      c.in-Some-fail.ensures (λ t. bytes_eq t (codes "fail")),
      c.in-Some-fail.is-fail,
    ) c.failed.ensures

pub returns-in-Some-bytes : goal.returns-in-Some-bytes
returns-in-Some-bytes c =
    rw (
      sym c.asks_version.ensures ∙ c.if-asks_version.false,
      c.in-Some-bytes.ensures (λ t. bytes_eq t (codes "fail")),
      c.in-Some-bytes.ensures (λ t. bytes_eq t (codes "bytes")),
      c.in-Some-bytes.is-bytes,
    ) c.printed-in-Some-bytes.ensures

pub returns-in-Some : goal.returns-in-Some
returns-in-Some c =
    rw (
      sym c.asks_version.ensures ∙ c.if-asks_version.false,
      c.in-Some.ensures (λ t. bytes_eq t (codes "fail")) ∙ apart _ _ c.in-Some.not-fail,
      c.in-Some.ensures (λ t. bytes_eq t (codes "bytes")) ∙ apart _ _ c.in-Some.not-bytes,
      c.in-Some.ensures (λ t. ends_with nat_eq t (codes "b/x.json")) ∙ sym c.is_windows.ensures ∙ c.if-is_windows.true,
    )
    c.printed-in-Some.ensures

pub returns-in-Some-2 : goal.returns-in-Some-2
returns-in-Some-2 c =
    rw (
      sym c.asks_version.ensures ∙ c.if-asks_version.false,
      c.in-Some.ensures (λ t. bytes_eq t (codes "fail")) ∙ apart _ _ c.in-Some.not-fail,
      c.in-Some.ensures (λ t. bytes_eq t (codes "bytes")) ∙ apart _ _ c.in-Some.not-bytes,
      c.in-Some.ensures (λ t. ends_with nat_eq t (codes "b/x.json")) ∙ sym c.is_windows.ensures ∙ c.if-is_windows.false,
      c.in-Some.ensures (λ t. true),
    ) c.printed-in-Some-2.ensures

pub returns-in-None : goal.returns-in-None
returns-in-None c =
    rw (
      sym c.asks_version.ensures ∙ c.if-asks_version.false,
      c.in-None.ensures (λ t. bytes_eq t (codes "fail")),
      c.in-None.ensures (λ t. bytes_eq t (codes "bytes")),
      c.in-None.ensures (λ t. ends_with nat_eq t (codes "b/x.json")),
      c.in-None.ensures (λ t. true),
      none_said c.args.words.now ∙ sym c.is_empty.ensures ∙ c.if-is_empty.true,
    )
    c.printed-in-None.ensures

pub returns-in-None-2 : goal.returns-in-None-2
returns-in-None-2 c =
    rw (
      sym c.asks_version.ensures ∙ c.if-asks_version.false,
      c.in-None-2.ensures (λ t. bytes_eq t (codes "fail")),
      c.in-None-2.ensures (λ t. bytes_eq t (codes "bytes")),
      c.in-None-2.ensures (λ t. ends_with nat_eq t (codes "b/x.json")),
      c.in-None-2.ensures (λ t. true),
      none_said c.args.words.now ∙ sym c.is_empty.ensures ∙ c.if-is_empty.false,
    ) c.failed-in-None-2.ensures
