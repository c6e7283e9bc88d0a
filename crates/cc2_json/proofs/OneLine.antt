-- Items and members on one line, one after another.
use Rattle.std.proofs.Common.{◌≡◌, ◌++◌, ℕ, false, List, ◌∷◌, String, Global, codes, string_bytes, append_assoc, refl, sym, ap, ◌∙◌, subst}
use Rattle.serde_json.specs.View.{items_view, members_view, view}
use Rattle.serde_json.specs.Written.{has_float, items_have_float, members_have_float}
use Rattle.serde_json.specs.declared.value.Value.{Value}
use Rattle.toml_writer.specs.Text.{key_text}
use Rattle.cc2_json.specs.TomlLines.{pairs, value_text, with_commas}
use Rattle.cc2_json.proofs.Floats.{not_first, not_second}
use Rattle.cc2_json.proofs.TomlPlaces.{three, two}

-- these items are left, and what is written and is still to be written is the whole
abbrev pub AreItemsLeft : List ℕ → List ℕ → List ℕ → List Value → Type 0
AreItemsLeft whole now separator rest =
    (items_have_float (items_view rest) ≡ false) × (now ++ with_commas separator (items_view rest) ≡ whole)

abbrev pub ArePairsLeft : List ℕ → List ℕ → List ℕ → List ℕ → List (String Global × Value) → Type 0
ArePairsLeft whole now separator end rest =
    (members_have_float (members_view rest) ≡ false) × (now ++ pairs separator end (members_view rest) ≡ whole)

pub item_step : (whole now separator mid next : List ℕ) (rest more : List Value) (x : Value) → rest ≡ x ∷ more
    → AreItemsLeft whole now separator rest → mid ≡ now ++ separator → (has_float (view x) ≡ false → next ≡ mid ++ value_text (view x))
    → AreItemsLeft whole next (codes ", ") more
item_step whole now separator mid next rest more x parts before first second =
    let at = subst (AreItemsLeft whole now separator) parts before in
    let free = not_first (has_float (view x)) (items_have_float (items_view more)) at.0 in
    let others = with_commas (codes ", ") (items_view more) in (
      not_second (has_float (view x)) (items_have_float (items_view more)) at.0,
      ap (λ z. z ++ others) (two now separator (value_text (view x)) first (second free))
          ∙ append_assoc now (separator ++ value_text (view x)) others
          ∙ ap (λ z. now ++ z) (append_assoc separator (value_text (view x)) others) ∙ at.1,
    )

pub pair_step : (whole now separator end mid name named next : List ℕ) (rest more : List (String Global × Value)) (e : String Global × Value)
    → rest ≡ e ∷ more → ArePairsLeft whole now separator end rest → mid ≡ now ++ separator
    → name ≡ string_bytes e.0 → named ≡ mid ++ (key_text name ++ codes " = ") → (has_float (view e.1) ≡ false → next ≡ named ++ value_text (view e.1))
    → ArePairsLeft whole next (codes ", ") (codes " }") more
pair_step whole now separator end mid name named next rest more e parts before first is second third =
    let at = subst (ArePairsLeft whole now separator end) parts before in
    let key = key_text (string_bytes e.0) ++ codes " = " in
    let value = value_text (view e.1) in
    let free = not_first (has_float (view e.1)) (members_have_float (members_view more)) at.0 in
    let others = pairs (codes ", ") (codes " }") (members_view more) in (
      not_second (has_float (view e.1)) (members_have_float (members_view more)) at.0,
      ap (λ z. z ++ others) (three now separator key value first (second ∙ ap (λ k. mid ++ (key_text k ++ codes " = ")) is) (third free))
          ∙ append_assoc now (separator ++ (key ++ value)) others
          ∙ ap (λ z. now ++ z) (append_assoc separator (key ++ value) others ∙ ap (λ z. separator ++ z) (append_assoc key value others)) ∙ at.1,
    )
