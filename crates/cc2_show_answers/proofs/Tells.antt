-- What is written of a configuration, or of what is at a key of it.
use Rattle.std.proofs.Common.{◌≡◌, ◌⊎◌, ℕ, false, List, [], Option, Some, None, Result, Ok, Err, Vec, Global, IfOk, unwrap_or, refl, sym, ap, subst, inl, inr}
use Rattle.serde_json.specs.Data.{Data}
use Rattle.serde_json.specs.Written.{has_float}
use Rattle.cc2_error.specs.Causes.{Refusal, memory, plain}
use Rattle.cc2_error.specs.declared.error.NoMemory.{NoMemory}
use Rattle.cc2_value.specs.Cells.{Cell, KeyPath}
use Rattle.cc2_json.specs.Reader.{IsJsonOfLook}
use Rattle.cc2_json.specs.AtKey.{at_key}
use Rattle.cc2_json.proofs.AtKey.{at_free}
use Rattle.cc2_json.specs.TomlPlaces.{Free}
use Rattle.cc2_json.proofs.Floats.{is_free}
use Rattle.cc2_cli.specs.Answers.{IsAnswerOf, Refuses}
use Rattle.cc2_cli.specs.declared.answer.Answer.{Answer}
use Rattle.cc2_cli.specs.ShowWords.{Request}
use Rattle.cc2_show_answers.specs.ToldAnswers.{written}
use Rattle.cc2_show_answers.specs.ToldRuns.{form_of, found, unset, unset_line, IsRefused, IsShown, IsShownIn, IsTextOf, Tells, WritesFound, shown, refused, Written}
use Rattle.cc2_show_answers.specs.declared.told.Told.TheVariants as told

module _ (request : Request) (pieces : List (List ℕ)) where
  module _ (whole : Data) (free : has_float whole ≡ false) where
    -- the text of what is at the key
    pub found_text : (d : Data) (text : Result (Vec ℕ Global) NoMemory) (answer : Answer) → at_key request.origins pieces whole ≡ Some d
        → IfOk text (λ t. has_float d ≡ false → IsTextOf request.origins request.format pieces d t.items) → IsAnswerOf text 0 answer
        → IsShownIn request pieces whole (written (told.Shown answer)) ⊎ IsRefused (plain memory) (written (told.Shown answer))
    found_text d (Ok t) answer at text answered =
        let freed : has_float d ≡ false = subst Free at (at_free request.origins pieces whole free) in
        inl (subst (λ (o : Option Data). WritesFound request pieces o (written (told.Shown answer))) (sym at)
        (subst (λ (l : List ℕ). IsTextOf request.origins request.format pieces d l) (sym answered.0) (text freed), refl, answered.1))
    found_text d (Err e) answer at text answered = inr (record { out = answered.0; err = refl; status = answered.1 })

  -- nothing is there
  pub nothing_there : (whole : Data) (w : Written) → at_key request.origins pieces whole ≡ None
      → (w ≡ record { out = []; err = unset_line (unwrap_or request.key []); status = 1 }) ⊎ IsRefused (plain memory) w
      → IsShownIn request pieces whole w ⊎ IsRefused (plain memory) w
  nothing_there whole w at (inl same) =
      inl (subst (λ (o : Option Data). WritesFound request pieces o w) (sym at)
      (ap (λ (v : Written). v.out) same, ap (λ (v : Written). v.err) same, ap (λ (v : Written). v.status) same))
  nothing_there whole w at (inr lacks) = inr lacks

  -- what is shown of the JSON of a map is shown of the map
  pub of_look : (m : KeyPath → Option Cell) (whole : Data) (w : Written) → IsJsonOfLook (form_of request) m whole
      → (has_float whole ≡ false → IsShownIn request pieces whole w ⊎ IsRefused (plain memory) w) → IsShown request pieces m w ⊎ IsRefused (plain memory) w
  of_look m whole w is shows = go (shows (is_free (form_of request) m whole is))
    where
      of : (o : Option Data) → at_key request.origins pieces whole ≡ o → WritesFound request pieces o w → IsShown request pieces m w
      of None at (out, err, status) = unset whole is at out err status
      of (Some d) at (text, err, status) = found whole d is at text err status

      go : IsShownIn request pieces whole w ⊎ IsRefused (plain memory) w → IsShown request pieces m w ⊎ IsRefused (plain memory) w
      go (inl shown_in) = inl (of (at_key request.origins pieces whole) refl shown_in)
      go (inr lacks) = inr lacks

  module _ (Is : (KeyPath → Option Cell) → Type 0) (Stands : Refusal → Type 0) where
    pub of_config : (m : KeyPath → Option Cell) (w : Written) → Is m → ((refusal : Refusal) → ¬ (Stands refusal))
        → IsShown request pieces m w ⊎ IsRefused (plain memory) w → Tells request pieces Is Stands w
    of_config m w is none (inl told_of) = shown m is none told_of
    of_config m w is none (inr lacks) = refused (plain memory) (inl refl) lacks

    pub of_error : (refusal : Refusal) (answer : Answer) → (refusal ≡ plain memory) ⊎ Stands refusal → Refuses refusal answer
        → Tells request pieces Is Stands (written (told.Shown answer))
    of_error refusal answer h (stated, inl same, text, status) =
        refused stated (subst (λ (r : Refusal). (r ≡ plain memory) ⊎ Stands r) (sym same) h) (record { out = text; err = refl; status = status })
    of_error refusal answer h (stated, inr wants, text, status) = refused stated (inl wants) (record { out = text; err = refl; status = status })
