-- Of which registry a variable is, by its name.
use Rattle.std.proofs.Common.{◌≡◌, ℕ, Bool, true, false, cond, List, [], ◌∷◌, ◌++◌, codes, arith, refl, sym, ap, ◌∙◌, inl, inr}
use Rattle.std.proofs.lemmas.List.{append_cancel_right}
use Rattle.std.proofs.lemmas.Slice.Eq.{bytes_eq-Decides}
use Rattle.std.specs.Prelude.{◌||◌}
use Rattle.std.specs.List.{list_any}
use Rattle.std.specs.Str.{bytes_eq}
use Rattle.cc2_value.proofs.Found.{same_keys, same_bytes}
use Rattle.cc2_env.specs.Ranked.{Named}
use Rattle.cc2_env.specs.Ranks.{protocol_variable}
use Rattle.cc2_env.specs.Registries.{is_registry_variable, is_registry_rest}

true_is_false : true ≡ false → ⊥
true_is_false h = cc

flipped : (k l : List ℕ) → bytes_eq k l ≡ false → bytes_eq l k ≡ false
flipped k l h =
    elim (same_keys k l) [
      | inl same ↦ absurd (true_is_false (sym (ap (λ m. bytes_eq m l) same ∙ same_bytes l) ∙ h))
      | inr (apart, apart') ↦ apart'
    ]

pub same_text : (k l : List ℕ) → bytes_eq k l ≡ true → k ≡ l
same_text k l h = (bytes_eq-Decides k l).0 h

-- the last byte of a text after d
abbrev final : ℕ → List ℕ → ℕ
final d [] = d
final d (c ∷ cs) = final c cs

final_behind : (xs : List ℕ) (d c : ℕ) (cs : List ℕ) → final d (xs ++ c ∷ cs) ≡ final c cs
final_behind [] d c cs = refl
final_behind (x ∷ xs) d c cs = final_behind xs x c cs

-- texts whose last bytes differ
apart_at_end : (xs : List ℕ) (c : ℕ) (cs ys : List ℕ) (d : ℕ) (ds : List ℕ) → (final c cs ≡ final d ds → ⊥)
    → bytes_eq (xs ++ c ∷ cs) (ys ++ d ∷ ds) ≡ false
apart_at_end xs c cs ys d ds h =
    elim (same_keys (xs ++ c ∷ cs) (ys ++ d ∷ ds)) [
      | inl same ↦ absurd (h (sym (final_behind xs 0 c cs) ∙ ap (final 0) same ∙ final_behind ys 0 d ds))
      | inr (apart, apart') ↦ apart
    ]

-- texts with the same end
same_end : (n r s : List ℕ) → bytes_eq (n ++ s) (r ++ s) ≡ bytes_eq n r
same_end n r s =
    elim (same_keys n r) [
      | inl same ↦ ap (λ m. bytes_eq (m ++ s) (r ++ s)) same ∙ same_bytes (r ++ s)
          ∙ sym (ap (λ m. bytes_eq m r) same ∙ same_bytes r)
      | inr (apart, apart') ↦
          elim (same_keys (n ++ s) (r ++ s)) [
            | inl same ↦ absurd (true_is_false
                (sym (ap (λ m. bytes_eq m r) (append_cancel_right n r s same) ∙ same_bytes r) ∙ apart))
            | inr (differ, differ') ↦ differ ∙ sym apart
          ]
    ]

-- a text that doesn't end so
no_end : (n s rest : List ℕ) → (rest ≡ n ++ s → ⊥) → bytes_eq (n ++ s) rest ≡ false
no_end n s rest h =
    elim (same_keys (n ++ s) rest) [
      | inl same ↦ absurd (h (sym same))
      | inr (apart, apart') ↦ apart
    ]

-- whether one of four tests holds
abbrev four : Bool → Bool → Bool → Bool → Bool
four a b c d = a || (b || (c || d))

fours : {a a' b b' c c' d d' : Bool} → a ≡ a' → b ≡ b' → c ≡ c' → d ≡ d' → four a b c d ≡ four a' b' c' d'
fours ha hb hc hd = cc

first_of : (b : Bool) → four b false false false ≡ b
first_of true = refl
first_of false = refl

second_of : (b : Bool) → four false b false false ≡ b
second_of true = refl
second_of false = refl

third_of : (b : Bool) → four false false b false ≡ b
third_of true = refl
third_of false = refl

-- whether the variable of the protocol passes a test
abbrev protocol_passes : Bool → (Named → Bool) → Bool
protocol_passes b pass = list_any pass (cond b (protocol_variable ∷ []) [] ++ [])

protocol_none : (b : Bool) (pass : Named → Bool) → pass protocol_variable ≡ false → protocol_passes b pass ≡ false
protocol_none true pass h = ap (λ x. x || false) h
protocol_none false pass h = refl

protocol_set : (b : Bool) (pass : Named → Bool) → pass protocol_variable ≡ true → protocol_passes b pass ≡ b
protocol_set true pass h = ap (λ x. x || false) h
protocol_set false pass h = refl

abbrev pub protocol_end : List ℕ
protocol_end = codes "CRATES_IO_PROTOCOL"

protocol_apart : (ys : List ℕ) (d : ℕ) (ds : List ℕ) → (76 ≡ final d ds → ⊥)
    → bytes_eq protocol_end (ys ++ d ∷ ds) ≡ false
protocol_apart ys d ds h = apart_at_end (codes "CRATES_IO_PROTOCO") 76 [] ys d ds h

-- whether what follows the prefix is this
abbrev is_named : List ℕ → Named → Bool
is_named rest x = bytes_eq x.name (codes "CARGO_REGISTRIES_" ++ rest)

-- the protocol's variable is that of crates.io
pub of_protocol : (n : List ℕ) → is_registry_rest n protocol_end ≡ bytes_eq n (codes "crates-io")
of_protocol n =
    fours (apart_at_end n _ _ [] _ _ (λ h. omega arith)) (apart_at_end n _ _ [] _ _ (λ h. omega arith))
    (apart_at_end n _ _ [] _ _ (λ h. omega arith))
    (protocol_set (bytes_eq n (codes "crates-io")) (is_named protocol_end) refl)

-- what precedes an end is the registry
pub of_index : (n r : List ℕ) → is_registry_rest n (r ++ codes "_INDEX") ≡ bytes_eq n r
of_index n r =
    let apart : bytes_eq protocol_end (r ++ codes "_INDEX") ≡ false = protocol_apart r _ _ (λ h. omega arith) in
    fours (same_end n r (codes "_INDEX")) (apart_at_end n _ _ r _ _ (λ h. omega arith))
    (apart_at_end n _ _ r _ _ (λ h. omega arith))
    (protocol_none (bytes_eq n (codes "crates-io")) (is_named (r ++ codes "_INDEX")) apart)
    ∙ first_of (bytes_eq n r)

pub of_token : (n r : List ℕ) → is_registry_rest n (r ++ codes "_TOKEN") ≡ bytes_eq n r
of_token n r =
    let apart : bytes_eq protocol_end (r ++ codes "_TOKEN") ≡ false = protocol_apart r _ _ (λ h. omega arith) in
    fours (apart_at_end n _ _ r _ _ (λ h. omega arith)) (same_end n r (codes "_TOKEN"))
    (apart_at_end n _ _ r _ _ (λ h. omega arith))
    (protocol_none (bytes_eq n (codes "crates-io")) (is_named (r ++ codes "_TOKEN")) apart)
    ∙ second_of (bytes_eq n r)

pub of_provider : (n r : List ℕ) → is_registry_rest n (r ++ codes "_CREDENTIAL_PROVIDER") ≡ bytes_eq n r
of_provider n r =
    let apart : bytes_eq protocol_end (r ++ codes "_CREDENTIAL_PROVIDER") ≡ false =
    protocol_apart r _ _ (λ h. omega arith) in
    fours (apart_at_end n _ _ r _ _ (λ h. omega arith)) (apart_at_end n _ _ r _ _ (λ h. omega arith))
    (same_end n r (codes "_CREDENTIAL_PROVIDER"))
    (protocol_none (bytes_eq n (codes "crates-io")) (is_named (r ++ codes "_CREDENTIAL_PROVIDER")) apart)
    ∙ third_of (bytes_eq n r)

-- no other variable is a registry's
pub of_none : (n rest : List ℕ) → (rest ≡ n ++ codes "_INDEX" → ⊥) → (rest ≡ n ++ codes "_TOKEN" → ⊥)
    → (rest ≡ n ++ codes "_CREDENTIAL_PROVIDER" → ⊥) → bytes_eq rest protocol_end ≡ false
    → is_registry_rest n rest ≡ false
of_none n rest index token provider protocol =
    fours (no_end n (codes "_INDEX") rest index) (no_end n (codes "_TOKEN") rest token)
    (no_end n (codes "_CREDENTIAL_PROVIDER") rest provider)
    (protocol_none (bytes_eq n (codes "crates-io")) (is_named rest) (flipped rest protocol_end protocol))

-- a variable whose name begins otherwise is none of a registry
pub of_other : (n variable : List ℕ) → ((t : List ℕ) → variable ≡ codes "CARGO_REGISTRIES_" ++ t → ⊥)
    → is_registry_variable n variable ≡ false
of_other n variable other =
    fours (apart (n ++ codes "_INDEX")) (apart (n ++ codes "_TOKEN")) (apart (n ++ codes "_CREDENTIAL_PROVIDER"))
    (protocol_none (bytes_eq n (codes "crates-io")) (λ x. bytes_eq x.name variable) (apart protocol_end))
  where
    apart : (t : List ℕ) → bytes_eq (codes "CARGO_REGISTRIES_" ++ t) variable ≡ false
    apart t =
        elim (same_keys (codes "CARGO_REGISTRIES_" ++ t) variable) [
          | inl same ↦ absurd (other t (sym same))
          | inr (differ, differ') ↦ differ
        ]
