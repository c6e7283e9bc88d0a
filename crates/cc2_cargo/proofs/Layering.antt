-- From what single layers have to what they have merged.
use Rattle.std.proofs.Common.{◌≡◌, arith, ℕ, Bool, true, false, cond, List, [], ◌∷◌, ◌++◌, Option, Ok, Result, String, BTreeMap, Global, string_bytes, nat_cmp, refl, sym, ap, ◌∙◌}
use Rattle.std.proofs.lemmas.List.Elements.{Contains-append_right}
use Rattle.std.proofs.lemmas.Map.Text.{is_eq-slice_cmp}
use Rattle.std.specs.BTreeMap.{is_at}
use Rattle.std.specs.Cmp.Lexicographic.{slice_cmp}
use Rattle.std.specs.Map.{remove_entry}
use Rattle.std.specs.Str.{bytes_eq}
use Rattle.toml.specs.Data.{Members, member}
use Rattle.toml.specs.View.{view, members_view}
use Rattle.toml.proofs.Views.{Entry}
use Rattle.cc2_error.specs.declared.error.Error.{Error}
use Rattle.cc2_error.specs.declared.error.Shape.{Shape}
use Rattle.cc2_value.specs.Maps.{found}
use Rattle.cc2_cargo.specs.Loads.{IsLayerCause, IsLayerFault, IsPutOver, Layer, layer_cells, without}
use Rattle.cc2_cargo.specs.Merging.{IsRawMapOf, IsRawMixed, IsRawOver, is_command_path, over_at, over_these}
use Rattle.cc2_cargo.specs.Raw.{LayerOrigin, RawCell, Path, member_at, raw_members_at}
use Rattle.cc2_cargo.specs.RawReading.{AreRawRead, raw_cells_in}
use Rattle.cc2_cargo.specs.declared.layer.LayerFault.{LayerFault}
use Rattle.cc2_cargo.specs.declared.layer.LayerFault.TheVariants as fault
use Rattle.cc2_cargo.specs.declared.raw.Raw.{Raw}

one_left : (k : List ℕ) (e : Entry) (es rest : List Entry) (b : Bool) → members_view rest ≡ without k (members_view es)
    → members_view (cond b es (e ∷ rest)) ≡ cond b (members_view es) (member (string_bytes e.0) (view e.1) (without k (members_view es)))
one_left k e es rest true h = refl
one_left k e es rest false h = ap (member (string_bytes e.0) (view e.1)) h

-- a key that is taken out of a table
pub taken_out : (k : List ℕ) (es : List Entry) → members_view (remove_entry (is_at (λ x. slice_cmp nat_cmp k (string_bytes x))) es) ≡ without k (members_view es)
taken_out k [] = refl
taken_out k (e ∷ es) =
    let rest = remove_entry (is_at (λ x. slice_cmp nat_cmp k (string_bytes x))) es in
    ap (λ b. members_view (cond b es (e ∷ rest))) (is_eq-slice_cmp k (string_bytes e.0))
    ∙ one_left k e es rest (bytes_eq k (string_bytes e.0)) (taken_out k es)

-- a map without entries shows nothing
pub empty_look : (m : BTreeMap (String Global) Raw) → m.entries ≡ [] → IsRawMapOf layer_cells [] (raw_members_at m)
empty_look m empty [] = refl
empty_look m empty (k ∷ p) = ap (λ es. Ok (member_at (found k es) p)) (sym empty)

-- what members are read to, as the layer has it
module _ (from : LayerOrigin) (ms : Members) (look weaker : Path → Option RawCell) (h : AreRawRead from ms look) where
  pub over_read : (new : Path → Option RawCell) → IsRawOver is_command_path look weaker new → IsRawOver is_command_path (raw_cells_in from ms) weaker new
  over_read new made p = ap (λ c. over_at (is_command_path p) c (weaker p)) (sym (h.1 p)) ∙ made p

  pub mixed_read : (e : Error) → IsRawMixed is_command_path look weaker e → IsRawMixed is_command_path (raw_cells_in from ms) weaker e
  mixed_read e (p, (shapes, meets, says)) = (p, (shapes, ap (λ c. over_at (is_command_path p) c (weaker p)) (sym (h.1 p)) ∙ meets, says))

-- one layer more
pub one_more : (s : Layer) (done : List Layer) (look new : Path → Option RawCell) → IsRawMapOf layer_cells done look → IsPutOver s look new
    → IsRawMapOf layer_cells (s ∷ done) new
one_more s done look new is put p = ap (λ (r : Result (Option RawCell) (Shape × Shape)). over_these (is_command_path p) (layer_cells s p) r) (is p) ∙ put.1 p

-- why a layer isn't put over others
pub layer_cause : (before : List Layer) (s : Layer) (done : List Layer) (look : Path → Option RawCell) (why : LayerFault) → IsRawMapOf layer_cells done look
    → IsLayerFault s look why → IsLayerCause (before ++ s ∷ done) why
layer_cause before s done look fault.Memory is h = tt
layer_cause before s done look (fault.Value definition e) is h = (s, Contains-append_right before (s ∷ done) s (0, omega arith, refl), h)
layer_cause before s done look (fault.Mixed definition e) is h = record { before = before; one = s; weaker = done; are = refl; look = look; map = is; mixed = h }
