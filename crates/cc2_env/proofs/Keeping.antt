-- What a map of kept variables has, beside the entries that are left.
use Rattle.std.proofs.Common.{◌≡◌, ℕ, Bool, true, false, cond, List, [], ◌∷◌, Option, Some, None, option_map, String, Vec, BTreeMap, Global, string_bytes, refl, sym, ap, ◌∙◌, inl, inr}
use Rattle.std.specs.Str.{bytes_eq}
use Rattle.std.specs.BTreeMap.{get_by_text, Updates}
use Rattle.std.specs.String.{string_cmp}
use Rattle.cc2_base.specs.Machines.{later_or, last_value}
use Rattle.cc2_value.proofs.Found.{same_keys, after_insert, same_bytes}
use Rattle.cc2_env.specs.Kept.{is_kept_name, kept_of, variables_in}

abbrev pub Kept : Type 0
Kept = BTreeMap (String Global) (Vec ℕ Global)

abbrev pub Entry : Type 0
Entry = String Global × Vec ℕ Global

-- the map has what is kept of the entries before these
abbrev pub IsKeptSoFar : List Entry → List Entry → Kept → Type 0
IsKeptSoFar env left m = (name : List ℕ) → later_or (kept_of left name) (variables_in m name) ≡ kept_of env name

later_last : (x : Option (List ℕ)) → later_or x None ≡ x
later_last None = refl
later_last (Some v) = refl

later_twice : (x y : Option (List ℕ)) (v : List ℕ) → later_or (later_or x (Some v)) y ≡ later_or x (Some v)
later_twice None y v = refl
later_twice (Some w) y v = refl

-- a name that isn't this entry's
passed_by : (e : Entry) (left : List Entry) (name : List ℕ) → bytes_eq (string_bytes e.0) name ≡ false
    → kept_of (e ∷ left) name ≡ kept_of left name
passed_by e left name apart = rw (apart, later_last (last_value left name))

none_kept : (env : List Entry) (name : List ℕ) → is_kept_name name ≡ false → kept_of env name ≡ None
none_kept env name isnt = ap (λ b. cond b (last_value env name) None) isnt

-- an entry whose name isn't kept
pub entry_passed : (env left : List Entry) (e : Entry) (m : Kept) → is_kept_name (string_bytes e.0) ≡ false
    → IsKeptSoFar env (e ∷ left) m → IsKeptSoFar env left m
entry_passed env left e m isnt so_far name =
    elim (same_keys name (string_bytes e.0)) [
      | inl same ↦
          let none : is_kept_name name ≡ false = ap is_kept_name same ∙ isnt in
          ap (λ x. later_or x (variables_in m name)) (none_kept left name none ∙ sym (none_kept (e ∷ left) name none))
          ∙ so_far name
      | inr (apart, apart') ↦ ap (λ x. later_or x (variables_in m name)) (sym (passed_by e left name apart'))
          ∙ so_far name
    ]

-- an entry whose name is kept, and that is put into the map
pub entry_kept : (env left : List Entry) (e : Entry) (m n : Kept) (key : String Global) (value : Vec ℕ Global)
    → is_kept_name (string_bytes e.0) ≡ true → string_bytes key ≡ string_bytes e.0 → value.items ≡ e.1.items
    → Updates string_cmp m n key (Some value) → IsKeptSoFar env (e ∷ left) m → IsKeptSoFar env left n
entry_kept env left e m n key value is named same_value inserted so_far name =
    let bs = string_bytes e.0 in
    let put : get_by_text n name ≡ cond (bytes_eq bs name) (Some value) (get_by_text m name) =
    after_insert key value m n inserted
    name ∙ ap (λ b. cond (bytes_eq b name) (Some value) (get_by_text m name)) named in
    elim (same_keys name bs) [
      | inl same ↦
          let got : variables_in n name ≡ Some e.1.items =
          ap (option_map (λ v. v.items))
          (put ∙ ap (λ q. cond (bytes_eq bs q) (Some value) (get_by_text m q)) same
          ∙ ap (λ b. cond b (Some value) (get_by_text m bs)) (same_bytes bs)) ∙ ap Some same_value in
          let before : kept_of (e ∷ left) name ≡ later_or (last_value left name) (Some e.1.items) =
          rw (same, is, same_bytes bs) in
          let after : kept_of left name ≡ last_value left name = rw (same, is) in
          ap (λ x. later_or x (variables_in n name)) after ∙ ap (later_or (last_value left name)) got
          ∙ sym (later_twice (last_value left name) (variables_in m name) e.1.items)
          ∙ ap (λ x. later_or x (variables_in m name)) (sym before) ∙ so_far name
      | inr (apart, apart') ↦
          let got : variables_in n name ≡ variables_in m name =
          ap (option_map (λ v. v.items)) (put ∙ ap (λ b. cond b (Some value) (get_by_text m name)) apart') in
          ap (λ x. later_or x (variables_in n name)) (sym (passed_by e left name apart'))
          ∙ ap (later_or (kept_of (e ∷ left) name)) got ∙ so_far name
    ]

abbrev nothing : Option (List ℕ)
nothing = None

either_way : (b : Bool) → cond b None None ≡ nothing
either_way true = refl
either_way false = refl

-- no entry is left
pub all_kept : (env left : List Entry) (m : Kept) → left ≡ [] → IsKeptSoFar env left m → (name : List ℕ)
    → variables_in m name ≡ kept_of env name
all_kept env left m none so_far name =
    sym (ap (λ (es : List Entry). later_or (kept_of es name) (variables_in m name)) none
    ∙ ap (λ x. later_or x (variables_in m name)) (either_way (is_kept_name name))) ∙ so_far name
