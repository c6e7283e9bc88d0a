-- The faults of an array's items, each read as a provider.
use Rattle.std.proofs.Common.{◌≡◌, ◌<◌, ℕ, zero, suc, false, List, [], ◌∷◌, ◌++◌, Option, Some, None, length, drop, slice_index_or, arith, refl, subst, inl, inr}
use Rattle.std.proofs.lemmas.List.Elements.{Contains-append_left}
use Rattle.toml.specs.Data.{as_str}
use Rattle.toml.specs.View.{view, items_view}
use Rattle.toml.specs.declared.value.Value.{Value}
use Rattle.cc2_error.specs.declared.error.Error.{Error}
use Rattle.cc2_value.specs.Cells.{Origin}
use Rattle.cc2_value.specs.Ways.{Flaw, IsFaultBehind}
use Rattle.cc2_leaf.specs.Pieces.{spaced}
use Rattle.cc2_leaf.specs.Made.{faults_of}
use Rattle.cc2_leaf.specs.ManyProviders.{text_made, each_fault}
use Rattle.cc2_leaf.proofs.Named.{provider_agrees}

pub text_agrees : (origin : Option Origin) (text : Option (List ℕ)) → faults_of (text_made None text) ≡ faults_of (text_made origin text)
text_agrees origin None = refl
text_agrees origin (Some text) = provider_agrees false origin (spaced text)

in_front : (keys : List (List ℕ)) (xs ys : List Flaw) (e : Error) → IsFaultBehind keys xs e → IsFaultBehind keys (xs ++ ys) e
in_front keys xs ys e (inl m) = inl m
in_front keys xs ys e (inr h) = inr (h.0, Contains-append_left xs ys h.0 h.1, h.2)

-- a fault of the item at an index is one of those from there on
pub fault_at : (keys : List (List ℕ)) (e : Error) (vs : List Value) (i : ℕ) (v : Value) → i < length vs → v ≡ slice_index_or vs i v
    → IsFaultBehind keys (faults_of (text_made None (as_str (view v)))) e → IsFaultBehind keys (each_fault (items_view (drop i vs))) e
fault_at keys e [] i v lt is h = absurd (omega (arith, lt))
fault_at keys e (x ∷ vs) zero v lt is h =
    in_front keys (faults_of (text_made None (as_str (view x)))) (each_fault (items_view vs)) e
    (subst (λ (y : Value). IsFaultBehind keys (faults_of (text_made None (as_str (view y)))) e) is h)
fault_at keys e (x ∷ vs) (suc i) v lt is h = let less : i < length vs = omega (arith, lt) in fault_at keys e vs i v less is h
