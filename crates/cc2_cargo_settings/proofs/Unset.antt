-- Variables of which none begins so: what is below them isn't set.
use Rattle.std.proofs.Common.{◌≡◌, ℕ, Bool, true, false, true≢false, cond, ◌||◌, List, [], ◌∷◌, ◌++◌, map, flat_map, Option, Some, None, Result, Ok, Err, String, Vec, Global, codes, string_bytes}
use Rattle.std.proofs.Common.{append_assoc, refl, sym, ap, ◌∙◌}
use Rattle.std.proofs.lemmas.Bool.Decides.{Decides-eqb}
use Rattle.std.proofs.lemmas.List.{append-nil}
use Rattle.std.proofs.lemmas.Slice.Eq.{bytes_eq-Decides, starts_is}
use Rattle.std.specs.Prelude.{eqb}
use Rattle.std.specs.List.{list_any, starts_with}
use Rattle.std.specs.Str.{bytes_eq}
use Rattle.cc2_base.specs.Machines.{last_value, later_or}
use Rattle.cc2_base.specs.declared.machine.Machine.{Machine}
use Rattle.cc2_error.specs.Causes.{Refusal}
use Rattle.cc2_cargo.specs.Raw.{Path, RawCell}
use Rattle.cc2_cargo_settings.specs.Changes.{Change, change_asked, change_at, changes_at, if_set, meets, own_at, own_or, read_at, with_change}
use Rattle.cc2_cargo_settings.specs.Named.{Below, NamedTable, RawTable, name_asked, names_set, path_below, row_below, rows_of_name, rows_of_table}
use Rattle.cc2_base.specs.VariableNames.{in_variable}
use Rattle.cc2_cargo_settings.specs.Names.{key_variable}
use Rattle.cc2_cargo_settings.specs.Settings.{Row}
use Rattle.cc2_cargo_settings.specs.Values.{on_ok}
use Rattle.cc2_cargo_settings.specs.Variables.{begins, given, given_of, is_any_below, text_given, variable_text, unset as no_value}

-- ---- variables

first_false : (a b : Bool) → (a || b) ≡ false → a ≡ false
first_false false b h = refl
first_false true b h = absurd (true≢false h)

second_false : (a b : Bool) → (a || b) ≡ false → b ≡ false
second_false false b h = h
second_false true b h = absurd (true≢false h)

abbrev Entry : Type 0
Entry = String Global × Vec ℕ Global

module _ (front rest : List ℕ) where
  -- a name that doesn't begin so is another one
  other : (name : List ℕ) → starts_with eqb name front ≡ false → bytes_eq name (front ++ rest) ≡ false
  other name isnt = go (bytes_eq name (front ++ rest)) refl
    where
      go : (b : Bool) → bytes_eq name (front ++ rest) ≡ b → b ≡ false
      go false is = refl
      go true is = absurd (true≢false (sym ((starts_is Decides-eqb name front _ refl).1 rest ((bytes_eq-Decides name (front ++ rest)).0 is)) ∙ isnt))

  none_below : (entries : List Entry) → list_any (begins front) entries ≡ false → last_value entries (front ++ rest) ≡ None
  none_below [] h = refl
  none_below (e ∷ entries) h =
      let apart : bytes_eq (string_bytes e.0) (front ++ rest) ≡ false =
      other (string_bytes e.0) (first_false (begins front e) (list_any (begins front) entries) h) in
      ap (λ o. later_or o (cond (bytes_eq (string_bytes e.0) (front ++ rest)) (Some e.1.items) None))
      (none_below entries (second_false (begins front e) (list_any (begins front) entries) h))
      ∙ ap (λ b. later_or None (cond b (Some e.1.items) None)) apart

  pub unset : (machine : Machine) → is_any_below machine front ≡ false → given machine (front ++ rest) ≡ no_value
  unset machine none = ap given_of (none_below machine.env.items none)

  pub no_text : (machine : Machine) → is_any_below machine front ≡ false → variable_text machine (front ++ rest) ≡ None
  no_text machine none = ap text_given (unset machine none)

-- ---- names of keys

abbrev upper : List ℕ → List ℕ
upper k = map in_variable k

abbrev behind : Option (List ℕ) → List ℕ
behind None = []
behind (Some key) = 95 ∷ upper key

module _ (table name : List ℕ) where
  -- the variable of what is below a table begins as this says
  below_front : (key : Option (List ℕ)) → key_variable (path_below table name key) ≡ (key_variable (table ∷ []) ++ codes "_") ++ (upper name ++ behind key)
  below_front None =
      sym (append_assoc (key_variable (table ∷ [])) (codes "_") (upper name ++ [])
      ∙ append_assoc (codes "CARGO") ((95 ∷ upper table) ++ []) (95 ∷ (upper name ++ []))
      ∙ ap (λ t. codes "CARGO" ++ (t ++ 95 ∷ (upper name ++ []))) (append-nil (95 ∷ upper table)))
  below_front (Some key) =
      sym (append_assoc (key_variable (table ∷ [])) (codes "_") (upper name ++ 95 ∷ upper key)
      ∙ append_assoc (codes "CARGO") ((95 ∷ upper table) ++ []) (95 ∷ (upper name ++ 95 ∷ upper key))
      ∙ ap (λ t. codes "CARGO" ++ (t ++ 95 ∷ (upper name ++ 95 ∷ upper key))) (append-nil (95 ∷ upper table))
      ∙ ap (λ k. codes "CARGO" ++ ((95 ∷ upper table) ++ 95 ∷ (upper name ++ k))) (sym (append-nil (95 ∷ upper key))))

-- ---- rows

either : {A : Type 0} (b : Bool) (a : A) → cond b a a ≡ a
either true a = refl
either false a = refl

module _ (look : Path → Option RawCell) (machine : Machine) (asked : Path) where
  -- a row whose variable isn't set changes nothing
  one_none : (r : Row) (rs : List Row) → r.own ≡ None → given machine (key_variable r.path) ≡ no_value
      → changes_at look machine asked (r ∷ rs) ≡ changes_at look machine asked rs
  one_none r rs own none =
      ap (λ o. on_ok (λ cells. on_ok (λ cs. Ok (with_change r.path cells cs)) (changes_at look machine asked rs)) o) still ∙ same (changes_at look machine asked rs)
    where
      unset_here : change_at look machine r ≡ Ok None
      unset_here =
          ap (λ o. own_or (own_at machine r.kind o) (if_set (given machine (key_variable r.path)) (read_at look machine r.kind r.path (key_variable r.path)))) own
          ∙ ap (λ t. if_set t (read_at look machine r.kind r.path (key_variable r.path))) none

      still : change_asked look machine asked r ≡ Ok None
      still = ap (λ o. cond (meets asked r.path) o (Ok None)) unset_here ∙ either (meets asked r.path) (Ok None)

      same : (rest : Result (List Change) Refusal) → on_ok (λ cs. Ok (with_change r.path None cs)) rest ≡ rest
      same (Ok cs) = refl
      same (Err refusal) = refl

  module _ (n : NamedTable) (none : is_any_below machine (key_variable (n.table ∷ []) ++ codes "_") ≡ false) where
    none_of_name : (name : List ℕ) (bs : List Below) (rs : List Row) → changes_at look machine asked (map (row_below n.table name) bs ++ rs) ≡ changes_at look machine asked rs
    none_of_name name [] rs = refl
    none_of_name name (b ∷ bs) rs =
        one_none (row_below n.table name b) (map (row_below n.table name) bs ++ rs) refl
        (ap (given machine) (below_front n.table name b.key)
        ∙ unset (key_variable (n.table ∷ []) ++ codes "_") (upper name ++ behind b.key) machine none)
        ∙ none_of_name name bs rs

    none_of_names : (names : List (List ℕ)) (rs : List Row) → changes_at look machine asked (flat_map (rows_of_name n) names ++ rs) ≡ changes_at look machine asked rs
    none_of_names [] rs = refl
    none_of_names (name ∷ names) rs =
        ap (changes_at look machine asked) (append_assoc (rows_of_name n name) (flat_map (rows_of_name n) names) rs)
        ∙ none_of_name name n.below (flat_map (rows_of_name n) names ++ rs) ∙ none_of_names names rs

    -- no row of the table changes anything
    pub none_of_table : (settings : RawTable) → changes_at look machine asked (rows_of_table settings asked n) ≡ Ok []
    none_of_table settings =
        none_of_names n.always (flat_map (rows_of_name n) (names_set settings n.table) ++ flat_map (rows_of_name n) (name_asked n.table asked))
        ∙ none_of_names (names_set settings n.table) (flat_map (rows_of_name n) (name_asked n.table asked))
        ∙ ap (changes_at look machine asked) (sym (append-nil (flat_map (rows_of_name n) (name_asked n.table asked))))
        ∙ none_of_names (name_asked n.table asked) []
