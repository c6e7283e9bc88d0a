-- A map, as a loop over the variables sets it name by name.
use Rattle.std.proofs.Common.{◌≡◌, ℕ, true, false, cond, List, [], ◌∷◌, ◌++◌, Option, Some, None, option_map, String, BTreeMap, Global, string_bytes, refl, sym, ap, subst, ◌∙◌, inl, inr, ◌⊎◌}
use Rattle.std.proofs.lemmas.List.{append_cancel_left}
use Rattle.std.specs.List.{Contains}
use Rattle.std.specs.List.Sorted.{IsStrictlySortedBy}
use Rattle.std.specs.Map.{keys_of}
use Rattle.std.specs.Str.{bytes_eq}
use Rattle.std.specs.BTreeMap.{get_by_text, Updates}
use Rattle.std.specs.String.{string_cmp}
use Rattle.cc2_error.specs.Causes.{Refusal, refusal_of}
use Rattle.cc2_error.specs.Outcomes.{IsWantOfMemory}
use Rattle.cc2_error.specs.declared.error.Error.{Error}
use Rattle.cc2_value.specs.Cells.{field, name, KeyPath, Cell, variable}
use Rattle.cc2_value.specs.Shown.{option_at, map_at}
use Rattle.cc2_value.proofs.Found.{found, same_keys, found_here, sorted_front, found_before, after_insert, same_bytes}
use Rattle.cc2_leaf.specs.TextWays.{TextWay}
use Rattle.cc2_env.specs.Kept.{Variables}
use Rattle.cc2_env.specs.Ranked.{set_or, read_cell, read_refusals, value_refusals, IsRanked, IsRankCause}
use Rattle.cc2_env.specs.Ranks.{variable_by, names_rank}
use Rattle.cc2_env.proofs.Keeping.{Entry}

-- the variables among the entries of a map
abbrev pub variables_among : List Entry → Variables
variables_among entries n = option_map (λ value. value.items) (found n entries)

-- another variable's value stays as it is
pub among_before : (done : List Entry) (e : Entry) (n : List ℕ) → bytes_eq n (string_bytes e.0) ≡ false
    → variables_among (done ++ e ∷ []) n ≡ variables_among done n
among_before done e n apart = ap (option_map (λ value. value.items)) (found_before n done e apart)

-- the last one's is its own
pub among_here : (done : List Entry) (e : Entry) (more : List Entry) (n : List ℕ)
    → IsStrictlySortedBy string_cmp (keys_of (done ++ e ∷ more)) → n ≡ string_bytes e.0
    → variables_among (done ++ e ∷ []) n ≡ Some e.1.items
among_here done e more n sorted same =
    ap (option_map (λ value. value.items))
    (ap (λ q. found q (done ++ e ∷ [])) same ∙ found_here done e [] (sorted_front done e more sorted))

module _ {V : Type 0} (look : V → KeyPath → Option Cell) (way : TextWay) (prefix : List ℕ)
    (was : BTreeMap (String Global) V) where
  -- what the variable of a name makes of the entry
  abbrev pub set_cell : Option (List ℕ) → List ℕ → KeyPath → Option Cell
  set_cell value n p = read_cell (set_or (variable_by (prefix ++ n) way) value None)
      (option_at look (get_by_text was n) p) p

  abbrev pub set_refusals : Option (List ℕ) → List ℕ → List Refusal
  set_refusals value n = read_refusals (set_or (variable_by (prefix ++ n) way) value None)

  -- the names of a map are what the variables among the entries done make of them
  abbrev pub IsNamedSoFar : List Entry → BTreeMap (String Global) V → Type 0
  IsNamedSoFar done m = IsRanked (map_at look) (names_rank way prefix) (variables_among done) was m

  from_names : (done : List Entry) (m : BTreeMap (String Global) V)
      → ((n : List ℕ) (p : KeyPath) → option_at look (get_by_text m n) p ≡ set_cell
      (variables_among done (prefix ++ n)) n p)
      → ((n : List ℕ) → set_refusals (variables_among done (prefix ++ n)) n ≡ []) → IsNamedSoFar done m
  from_names done m shown free = (cells, refusals)
    where
      cells : (p : KeyPath) → map_at look m p ≡ (names_rank way prefix).cells (variables_among done) (map_at look was) p
      cells [] = refl
      cells (field k ∷ p) = refl
      cells (name n ∷ p) = shown n p

      refusals : (p : KeyPath) → (names_rank way prefix).refusals (variables_among done) (map_at look was) p ≡ []
      refusals [] = refl
      refusals (field k ∷ p) = refl
      refusals (name n ∷ p) = free n

  -- nothing is done
  pub named_start : IsNamedSoFar [] was
  named_start = from_names [] was (λ n p. refl) (λ n. refl)

  -- an entry whose name isn't the prefix and a key
  pub named_past : (done : List Entry) (e : Entry) (m : BTreeMap (String Global) V)
      → ((n : List ℕ) → ¬ (string_bytes e.0 ≡ prefix ++ n)) → IsNamedSoFar done m → IsNamedSoFar (done ++ e ∷ []) m
  named_past done e m apart so_far =
      from_names (done ++ e ∷ []) m
      (λ n p. so_far.0 (name n ∷ p) ∙ sym (ap (λ v. set_cell v n p) (same n)))
      (λ n. ap (λ v. set_refusals v n) (same n) ∙ so_far.1 (name n ∷ []))
    where
      other : (n : List ℕ) → bytes_eq (prefix ++ n) (string_bytes e.0) ≡ false
      other n =
          elim (same_keys (prefix ++ n) (string_bytes e.0)) [
            | inl is ↦ absurd (apart n (sym is))
            | inr isnt ↦ isnt.0
          ]

      same : (n : List ℕ) → variables_among (done ++ e ∷ []) (prefix ++ n) ≡ variables_among done (prefix ++ n)
      same n = among_before done e (prefix ++ n) (other n)

  module _ (done : List Entry) (e : Entry) (more : List Entry) (m m' : BTreeMap (String Global) V)
      (key : String Global) (w : V)
      (sorted : IsStrictlySortedBy string_cmp (keys_of (done ++ e ∷ more)))
      (is : string_bytes e.0 ≡ prefix ++ string_bytes key)
      (inserted : Updates string_cmp m m' key (Some w)) where
    at_other : (n : List ℕ) → bytes_eq (prefix ++ n) (string_bytes e.0) ≡ false → get_by_text m' n ≡ get_by_text m n
    at_other n apart =
        elim (same_keys n (string_bytes key)) [
          | inl same ↦
              let wrong : bytes_eq (prefix ++ n) (string_bytes e.0) ≡ true =
              ap (λ q. bytes_eq (prefix ++ q) (string_bytes e.0)) same ∙ ap (λ q. bytes_eq q (string_bytes e.0))
              (sym is) ∙ same_bytes (string_bytes e.0) in
              absurd (true_is_false (sym wrong ∙ apart))
          | inr (isnt, isnt') ↦ after_insert key w m m' inserted n ∙ ap (λ b. cond b (Some w) (get_by_text m n)) isnt'
        ]
      where
        true_is_false : true ≡ false → ⊥
        true_is_false h = cc

    at_key : (n : List ℕ) → prefix ++ n ≡ string_bytes e.0 → get_by_text m' n ≡ Some w
    at_key n same =
        let here : n ≡ string_bytes key = append_cancel_left prefix n (string_bytes key) (same ∙ is) in
        after_insert key w m m' inserted n ∙ ap (λ q. cond (bytes_eq (string_bytes key) q) (Some w) (get_by_text m q))
        here ∙ ap (λ b. cond b (Some w) (get_by_text m (string_bytes key))) (same_bytes (string_bytes key))

    -- an entry whose name is the prefix and a key, which is set
    pub named_more : value_refusals (variable_by (string_bytes e.0) way) e.1.items ≡ []
        → ((p : KeyPath) → look w p ≡ way.cells (Some (variable (string_bytes e.0))) e.1.items p) → IsNamedSoFar done m
        → IsNamedSoFar (done ++ e ∷ []) m'
    named_more free shown so_far = from_names (done ++ e ∷ []) m' cells refusals
      where
        cells : (n : List ℕ) (p : KeyPath) → option_at look (get_by_text m' n) p ≡ set_cell
            (variables_among (done ++ e ∷ []) (prefix ++ n)) n p
        cells n p =
            elim (same_keys (prefix ++ n) (string_bytes e.0)) [
              | inl same ↦
                  ap (λ o. option_at look o p) (at_key n same) ∙ shown p
                  ∙ ap (λ q. way.cells (Some (variable q)) e.1.items p) (sym same)
                  ∙ sym (ap (λ v. set_cell v n p) (among_here done e more (prefix ++ n) sorted same))
              | inr (apart, apart') ↦
                  ap (λ o. option_at look o p) (at_other n apart) ∙ so_far.0 (name n ∷ p)
                  ∙ sym (ap (λ v. set_cell v n p) (among_before done e (prefix ++ n) apart))
            ]

        refusals : (n : List ℕ) → set_refusals (variables_among (done ++ e ∷ []) (prefix ++ n)) n ≡ []
        refusals n =
            elim (same_keys (prefix ++ n) (string_bytes e.0)) [
              | inl same ↦
                  ap (λ v. set_refusals v n) (among_here done e more (prefix ++ n) sorted same)
                  ∙ ap (λ q. value_refusals (variable_by q way) e.1.items) same ∙ free
              | inr (apart, apart') ↦ ap (λ v. set_refusals v n) (among_before done e (prefix ++ n) apart)
                  ∙ so_far.1 (name n ∷ [])
            ]

  -- a variable that is refused
  pub named_cause : (vars : Variables) (key n value : List ℕ) (error : Error) → n ≡ prefix ++ key → vars n ≡ Some value
      → IsWantOfMemory error ⊎ Contains (value_refusals (variable_by n way) value) (refusal_of error)
      → IsRankCause (map_at look) (names_rank way prefix) vars was error
  named_cause vars key n value error is set (inl memory) = inl memory
  named_cause vars key n value error is set (inr refused) =
      let here : vars (prefix ++ key) ≡ Some value = ap vars (sym is) ∙ set in
      inr (
        name key ∷ [],
        subst (λ (rs : List Refusal). Contains rs (refusal_of error))
            (sym (ap (λ v. set_refusals v key) here ∙ ap (λ q. value_refusals (variable_by q way) value)
            (sym is))) refused,
      )
