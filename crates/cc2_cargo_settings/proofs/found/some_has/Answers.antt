use Rattle.std.proofs.Common.{◌≡◌, ◌∷◌, [], ℕ, Bool, true, false, cond, List, Option, Some, String, Global, sym, ap, ◌∙◌}
use Rattle.cc2_value.specs.Maps.{found}
use Rattle.cc2_cargo.specs.Raw.{entries_at, member_at, raw_at}
use Rattle.cc2_cargo.specs.declared.raw.Raw.{Raw}
use Rattle.cc2_cargo_settings.specs.Found.{is_found, lookup_at, reached, through}
use Rattle.cc2_cargo_settings.proofs.found.some_has.Goals as goal

-- a table more without the key
one_more : (e : String Global × Raw) (es : List (String Global × Raw)) (name part : List ℕ)
    → is_found (through (raw_at e.1 []) (reached (raw_at e.1 (part ∷ [])))) ≡ false
    → is_found (lookup_at (entries_at es) (name ∷ (part ∷ []))) ≡ false → is_found (lookup_at (entries_at (e ∷ es)) (name ∷ (part ∷ []))) ≡ false
one_more e es name part here later = go _ (found name es) later
  where
    go : (b : Bool) (o : Option Raw) → is_found (through (member_at o []) (reached (member_at o (part ∷ [])))) ≡ false
        → is_found (through (member_at (cond b (Some e.1) o) []) (reached (member_at (cond b (Some e.1) o) (part ∷ [])))) ≡ false
    go true o h = here
    go false o h = h

pub loop-name-preserved : goal.loop-name-preserved
loop-name-preserved c name h =
    let part = c.args.part.now in
    c.loop-name.invariant name
    (ap (λ es. is_found (lookup_at (entries_at es) (name ∷ (part ∷ [])))) c.in-Some.ensures.steps
    ∙ one_more (c.in-Some._name.now, c.in-Some.raw.now) c.next.new.self name part (sym c.has.ensures ∙ c.if-has.false) h)

pub returns : goal.returns
returns c h name =
    let part = c.args.part.now in
    c.loop-name.invariant name (ap (λ es. is_found (lookup_at (entries_at es) (name ∷ (part ∷ [])))) c.in-None.ensures.steps.0)
