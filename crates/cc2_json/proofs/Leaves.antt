-- The JSON of a leaf at a key.
use Rattle.std.proofs.Common.{◌≡◌, ℕ, List, Option, Some, None, Bool, true, false, true≢false, refl, sym, ap}
use Rattle.std.specs.Prelude.{◌||◌, if◌then◌else◌, is_some}
use Rattle.serde_json.specs.Data.{Data}
use Rattle.cc2_value.specs.Cells as cell
use Rattle.cc2_value.specs.Cells.{Origin, Payload, Key, field, name, Cell, Single, Items, Entry, Undecoded, is_entry}
use Rattle.cc2_json.specs.Reader.{cell_json, is_named_entry}
use Rattle.cc2_json.specs.Trees.{is_place}
use Rattle.cc2_json.specs.Json.{is_bare}
use Rattle.cc2_json.specs.Forms.{placed, words_data, word_texts, first_origin, command_texts, provider_texts, payload_data, setting_data, cell_data, told_at}
use Rattle.cc2_json.specs.declared.form.Form.{Form}
use Rattle.cc2_json.proofs.Branches.{told}

module _ (form : Form) where
  placed_bare : (origins : Bool) (o : Option Origin) (d : Data) → is_bare d ≡ false → is_bare (placed origins o d) ≡ false
  placed_bare true o d h = refl
  placed_bare false o d h = h

  words_bare : (is_array : Bool) (ts : List (List ℕ)) → is_bare (words_data is_array ts) ≡ false
  words_bare true ts = refl
  words_bare false ts = refl

  payload_bare : (p : Payload) → is_bare (payload_data p) ≡ false
  payload_bare (cell.number z) = refl
  payload_bare (cell.truth b) = refl
  payload_bare (cell.word text) = refl
  payload_bare (cell.command is_array path args) = words_bare is_array (command_texts path args)
  payload_bare (cell.provider is_array p) = words_bare is_array (provider_texts p)

  put_bare : (q : List ℕ) (d : Data) → is_bare d ≡ false → told form (field q) (Some d) ≡ Some (told_at form (field q) d)
  put_bare q d h = ap (λ b. if b then None else Some (told_at form (field q) d)) h

  pub leaf_told : (k : Key) (c : Cell) → is_entry c ≡ false → told form k (cell_data form.origins c) ≡ cell_json form k (Some c)
  leaf_told (field q) (Single s) h = put_bare q (setting_data form.origins s) (placed_bare form.origins s.origin (payload_data s.payload) (payload_bare s.payload))
  leaf_told (field q) (cell.Text ws) h =
      put_bare q (placed form.origins (first_origin ws) (words_data false (word_texts ws)))
      (placed_bare form.origins (first_origin ws) (words_data false (word_texts ws)) refl)
  leaf_told (field q) (Items ws) h = refl
  leaf_told (field q) (cell.Joined ss) h = refl
  leaf_told (field q) Entry h = absurd (true≢false h)
  leaf_told (field q) Undecoded h = refl
  leaf_told (field q) (cell.Marks b e) h = refl
  leaf_told (name q) (Single s) h = refl
  leaf_told (name q) (cell.Text ws) h = refl
  leaf_told (name q) (Items ws) h = refl
  leaf_told (name q) (cell.Joined ss) h = refl
  leaf_told (name q) Entry h = absurd (true≢false h)
  leaf_told (name q) Undecoded h = refl
  leaf_told (name q) (cell.Marks b e) h = refl

  pub none_tells : (k : Key) → (is_some (cell_json form k None) || is_named_entry k None) ≡ false
  none_tells (field q) = refl
  none_tells (name q) = refl

  pub unnamed : (k : Key) (c : Cell) → is_entry c ≡ false → is_named_entry k (Some c) ≡ false
  unnamed (field q) c h = refl
  unnamed (name q) c h = h

  pub own_told : (k : Key) (own : Option Cell) → is_place own ≡ true → cell_json form k own ≡ None
  own_told k None h = refl
  own_told k (Some (Single s)) h = absurd (true≢false (sym h))
  own_told k (Some (cell.Text ws)) h = absurd (true≢false (sym h))
  own_told k (Some (Items ws)) h = absurd (true≢false (sym h))
  own_told k (Some (cell.Joined ss)) h = absurd (true≢false (sym h))
  own_told k (Some Entry) h = refl
  own_told k (Some Undecoded) h = absurd (true≢false (sym h))
  own_told k (Some (cell.Marks b e)) h = absurd (true≢false (sym h))
