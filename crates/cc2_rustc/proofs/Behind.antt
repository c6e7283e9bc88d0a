-- The first line that has a prefix.
use Rattle.std.proofs.Common.{◌≡◌, ◌<◌, ℕ, ◌+◌, Bool, true, true≢false, cond, List, [], ◌∷◌, ◌++◌, map, length, take, drop, get_or, Option, Some, None, refl, sym, ap, subst, ◌∙◌}
use Rattle.std.specs.Prelude.{◌≢◌, eqb, IsSome}
use Rattle.std.specs.Borrow.{Bor}
use Rattle.std.specs.List.{starts_with}
use Rattle.std.proofs.lemmas.Bool.{false_from_ne_true}
use Rattle.std.proofs.lemmas.List.{take-append-drop, drop_more, drop_at, length-map, map-append}
use Rattle.std.proofs.lemmas.Slice.Eq.{starts_is}
use Rattle.std.proofs.lemmas.Bool.Decides.{Decides-eqb}
use Rattle.cc2_rustc.specs.Versions.{option_or, rest_of, behind}

if_some : (test : Bool) (rest : List ℕ) → test ≡ true → cond test (Some rest) None ≡ Some rest
if_some test rest h = ap (λ b. cond b (Some rest) None) h

pub has_it : (prefix line rest : List ℕ) → line ≡ prefix ++ rest → rest_of prefix line ≡ Some rest
has_it prefix line rest is =
    if_some (starts_with eqb line prefix) (drop (length prefix) line) ((starts_is Decides-eqb line prefix _ refl).1 _ is)
    ∙ ap Some (ap (drop (length prefix)) is ∙ drop_at prefix rest (length prefix) refl)

pub has_not : (prefix line : List ℕ) → ((rest : List ℕ) → line ≢ prefix ++ rest) → rest_of prefix line ≡ None
has_not prefix line h =
    ap (λ b. cond b (Some (drop (length prefix) line)) None)
    (false_from_ne_true _ (λ test. h _ ((starts_is Decides-eqb line prefix _ refl).0 test)))

or_nothing : (found other : Option (List ℕ)) → option_or found other ≡ None → (found ≡ None) × (other ≡ None)
or_nothing None other h = (refl, h)
or_nothing (Some a) other h = absurd (true≢false (sym (subst IsSome h refl)))

-- lines that don't have it are passed over
pub passed : (prefix : List ℕ) (before others : List (List ℕ)) → behind prefix before ≡ None
    → behind prefix (before ++ others) ≡ behind prefix others
passed prefix [] others h = refl
passed prefix (line ∷ before) others h =
    let (none, rest) = or_nothing (rest_of prefix line) (behind prefix before) h in
    ap (λ found. option_or found (behind prefix (before ++ others))) none ∙ passed prefix before others rest

-- at a place of the lines
pub at : (prefix : List ℕ) (all before : List (List ℕ)) (line : List ℕ) → before ≡ take (length before) all
    → length before < length all → line ≡ get_or all (length before) line → behind prefix before ≡ None
    → (found : List ℕ) → rest_of prefix line ≡ Some found → behind prefix all ≡ Some found
at prefix all before line is low here none found h =
    let n = length before in
    ap (behind prefix) (sym (take-append-drop n all) ∙ ap (λ l. l ++ drop n all) (sym is))
    ∙ passed prefix before (drop n all) none
    ∙ ap (behind prefix) (drop_more all n line low ∙ ap (λ z. z ∷ drop (n + 1) all) (sym here))
    ∙ ap (λ r. option_or r (behind prefix (drop (n + 1) all))) h

-- the same of lines that were lent one after the other
pub at_line : (prefix : List ℕ) (all : List (List ℕ)) (before : List (Bor (List ℕ))) (line : Bor (List ℕ))
    → map (λ l. l.now) before ≡ take (length before) all → length before < length all
    → line.now ≡ get_or all (length before) line.now → behind prefix (map (λ l. l.now) before) ≡ None
    → (found : List ℕ) → rest_of prefix line.now ≡ Some found → behind prefix all ≡ Some found
at_line prefix all before line is low here none found h =
    let same : length (map (λ (l : Bor (List ℕ)). l.now) before) ≡ length before = length-map before (λ l. l.now) in
    at prefix all (map (λ l. l.now) before) line.now (is ∙ ap (λ n. take n all) (sym same))
    (subst (λ n. n < length all) (sym same) low) (here ∙ ap (λ n. get_or all n line.now) (sym same)) none found h

-- a line more that doesn't have it
pub passed_line : (prefix : List ℕ) (before : List (Bor (List ℕ))) (line : Bor (List ℕ))
    → behind prefix (map (λ l. l.now) before) ≡ None → rest_of prefix line.now ≡ None
    → behind prefix (map (λ l. l.now) (before ++ line ∷ [])) ≡ None
passed_line prefix before line none h =
    ap (behind prefix) (map-append (λ l. l.now) before (line ∷ []))
    ∙ passed prefix (map (λ l. l.now) before) (line.now ∷ []) none ∙ ap (λ r. option_or r None) h
