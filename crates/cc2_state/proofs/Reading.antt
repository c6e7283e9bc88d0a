-- What is read piece by piece, and what is put into a map.
use Rattle.std.proofs.Common.{◌≡◌, ℕ, List, [], ◌∷◌, ◌++◌, All, Bool, true, false, Option, Some, None, String, Global, string_bytes, refl, sym, ap, ◌∙◌, if◌then◌else◌}
use Rattle.std.specs.BTreeMap.{get_by_text, Updates}
use Rattle.std.specs.Prelude.{option_map, option_and_then, bytes_eq}
use Rattle.std.specs.String.{string_cmp}
use Rattle.std.proofs.lemmas.Bool.{false_from_ne_true}
use Rattle.std.proofs.lemmas.List.Elements.{All-append, All-cons, All-nil}
use Rattle.std.proofs.lemmas.Map.Text.{btree_map_updates_text}
use Rattle.std.proofs.lemmas.Slice.Eq.{bytes_eq-Decides}
use Rattle.cc2_ask.specs.Fields.{Front}
use Rattle.cc2_ask.specs.Written.{both_at}
use Rattle.cc2_target_table.specs.declared.target.TargetConfig.{TargetConfig}
use Rattle.cc2_state.specs.Views.{Tables, first_kept}

-- a value, and then another one
pub both_of : {A B : Type 0} (first : List ℕ → Front A) (second : List ℕ → Front B) (bytes mid rest : List ℕ) (a : A) (b : B)
    → first bytes ≡ Some (a, mid) → second mid ≡ Some (b, rest) → both_at first second bytes ≡ Some ((a, b), rest)
both_of {A} {B} first second bytes mid rest a b one two =
    ap (λ (front : Front A). option_and_then (λ f. option_map (λ s. ((f.0, s.0), s.1)) (second f.1)) front) one
    ∙ ap (λ (front : Front B). option_map (λ s. ((a, s.0), s.1)) front) two

-- one more that holds
pub all_more : {A : Type 0} (P : A → Type 0) (xs : List A) (x : A) → All P xs → P x → All P (xs ++ x ∷ [])
all_more P xs x all one = All-append P xs (x ∷ []) all (All-cons P x [] one (All-nil P))

same_where : (key k : List ℕ) → bytes_eq key k ≡ true → bytes_eq k key ≡ true
same_where key k is = (bytes_eq-Decides k key).1 (sym ((bytes_eq-Decides key k).0 is))

other_where : (key k : List ℕ) → bytes_eq key k ≡ false → bytes_eq k key ≡ false
other_where key k is = false_from_ne_true (bytes_eq k key) (λ h. absurd_of (sym is ∙ same_where k key h))
  where
    absurd_of : false ≡ true → ⊥
    absurd_of h = cc

kept : (t : Option TargetConfig) (u : TargetConfig) → t ≡ first_kept t false u
kept None u = refl
kept (Some t) u = refl

-- what a map has at each key after one more was put, if it had none at that one
pub put_at : (was now : Tables) (key : String Global) (table : TargetConfig) → get_by_text was (string_bytes key) ≡ None
    → Updates string_cmp was now key (Some table) → (k : List ℕ)
    → get_by_text now k ≡ first_kept (get_by_text was k) (bytes_eq k (string_bytes key)) table
put_at was now key table none updates k =
    btree_map_updates_text (string_bytes key) was now (Some table) updates k ∙ go (bytes_eq (string_bytes key) k) refl
  where
    go : (b : Bool) → bytes_eq (string_bytes key) k ≡ b
        → (if b then Some table else get_by_text was k) ≡ first_kept (get_by_text was k) (bytes_eq k (string_bytes key)) table
    go true is =
        ap (λ (o : Option TargetConfig). first_kept o true table) (sym (ap (get_by_text was) (sym ((bytes_eq-Decides (string_bytes key) k).0 is)) ∙ none))
        ∙ ap (λ (b : Bool). first_kept (get_by_text was k) b table) (sym (same_where (string_bytes key) k is))
    go false is =
        kept (get_by_text was k) table ∙ ap (λ (b : Bool). first_kept (get_by_text was k) b table) (sym (other_where (string_bytes key) k is))
