use Rattle.std.proofs.Common.{◌≡◌, ℕ, List, Bool, true, false, Bor, Option, Some, option_map, sym, ap, ◌∙◌, if◌then◌else◌}
use Rattle.std.proofs.lemmas.Bool.{false_from_ne_true}
use Rattle.std.proofs.lemmas.Str.{IsUtf8-from_is_utf8, is_utf8-from_IsUtf8}
use Rattle.std.specs.Prelude.{codes}
use Rattle.std.specs.Str.{is_utf8}
use Rattle.cc2_reply.specs.Asked.{cargo_in}
use Rattle.cc2_reply.proofs.other_paths.cargo_in.Goals as goal

-- by whether the value is UTF-8
by : (value : List ℕ) (b : Bool) → is_utf8 value ≡ b → (if b then value else codes "cargo") ≡ cargo_in (Some value)
by value b is = ap (λ (c : Bool). if c then value else codes "cargo") (sym is)

pub returns-in-Ok : goal.returns-in-Ok
returns-in-Ok c =
    let value = c.in-Some.value.now in
    c.in-Ok.ensures.cases.0 ∙ by value true (is_utf8-from_IsUtf8 value c.in-Ok.ensures.cases.1)
    ∙ ap (λ (o : Option (Bor (List ℕ))). cargo_in (option_map (λ v. v.now) o)) (sym c.in-Some.is)

pub returns-in-Err : goal.returns-in-Err
returns-in-Err c =
    let value = c.in-Some.value.now in
    by value false (false_from_ne_true (is_utf8 value) (λ h. c.in-Err.ensures.cases.0 (IsUtf8-from_is_utf8 value h)))
    ∙ ap (λ (o : Option (Bor (List ℕ))). cargo_in (option_map (λ v. v.now) o)) (sym c.in-Some.is)
