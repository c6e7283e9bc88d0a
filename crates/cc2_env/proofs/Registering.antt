-- The table `registries`, as a loop over the variables sets it registry by registry.
use Rattle.std.proofs.Common.{◌≡◌, ℕ, Bool, true, false, cond, List, [], ◌∷◌, ◌++◌, Option, Some, None, String, BTreeMap, Global, string_bytes, refl, sym, ap, subst, ◌∙◌, inl, inr}
use Rattle.std.specs.Prelude.{◌||◌}
use Rattle.std.specs.List.{list_any}
use Rattle.std.specs.List.Sorted.{IsStrictlySortedBy}
use Rattle.std.specs.Map.{keys_of}
use Rattle.std.specs.Str.{bytes_eq}
use Rattle.std.specs.BTreeMap.{get_by_text}
use Rattle.std.specs.String.{string_cmp}
use Rattle.cc2_error.specs.declared.error.Error.{Error}
use Rattle.cc2_value.specs.Cells.{field, name, KeyPath}
use Rattle.cc2_value.specs.Shown.{map_at, entry_at}
use Rattle.cc2_value.proofs.Found.{same_keys, same_bytes}
use Rattle.cc2_tables.specs.Registries.{registries_fields}
use Rattle.cc2_tables.specs.declared.registries.RegistriesConfigValue.{RegistriesConfigValue}
use Rattle.cc2_env.specs.Kept.{Variables}
use Rattle.cc2_env.specs.Ranked.{Named, set_or, first_set, named_in, IsRanked, IsRankCause}
use Rattle.cc2_env.specs.Ranks.{registries_ranks, registries_rank}
use Rattle.cc2_env.specs.Registries.{is_registry_variable, IsRegistrySet}
use Rattle.cc2_env.specs.Tokens.{DifferInTokens}
use Rattle.cc2_env.proofs.TokenFaults.{field_hidden}
use Rattle.cc2_env.proofs.Keeping.{Entry}
use Rattle.cc2_env.proofs.Members.{IsFieldCause, field_cause, member_cause, first_is, IsMemberSoFar, member_set, member_cells_are, member_free}
use Rattle.cc2_env.proofs.Naming.{variables_among, among_before, among_here}

abbrev pub Registries : Type 0
Registries = BTreeMap (String Global) RegistriesConfigValue

first_fresh : (ns : List Named) → first_set (variables_among []) ns ≡ None
first_fresh [] = refl
first_fresh (n ∷ ns) = first_fresh ns

both_false : (b c : Bool) → b || c ≡ false → (b ≡ false) × (c ≡ false)
both_false true c h = cc
both_false false c h = (refl, h)

-- an entry that is none of the variables
first_other : (done : List Entry) (e : Entry) (ns : List Named)
    → list_any (λ x. bytes_eq x.name (string_bytes e.0)) ns ≡ false
    → first_set (variables_among done) ns ≡ first_set (variables_among (done ++ e ∷ [])) ns
first_other done e [] h = refl
first_other done e (n ∷ ns) h =
    let apart = both_false (bytes_eq n.name (string_bytes e.0))
    (list_any (λ x. bytes_eq x.name (string_bytes e.0)) ns) h in
    ap (λ o. set_or n o (first_set (variables_among done) ns)) (sym (among_before done e n.name apart.0))
    ∙ ap (set_or n (variables_among (done ++ e ∷ []) n.name)) (first_other done e ns apart.1)

module _ (vars : Variables) (was : Registries) where
  -- what is at a name, when the entries done were met
  abbrev pub IsRegistrySoFar : List Entry → Option RegistriesConfigValue → List ℕ → Type 0
  IsRegistrySoFar done o n =
      IsMemberSoFar vars registries_fields (registries_ranks n)
      (first_set (variables_among done) (named_in (registries_ranks n))) (get_by_text was n) o

  abbrev pub AreRegistriesSoFar : List Entry → Registries → Type 0
  AreRegistriesSoFar done m = (n : List ℕ) → IsRegistrySoFar done (get_by_text m n) n

  abbrev state : List ℕ → Option RegistriesConfigValue → Option (Named × List ℕ) → Type 0
  state n o f = IsMemberSoFar vars registries_fields (registries_ranks n) f (get_by_text was n) o

  pub registries_start : AreRegistriesSoFar [] was
  registries_start n = subst (state n (get_by_text was n)) (sym (first_fresh (named_in (registries_ranks n)))) refl

  -- an entry that is no registry's
  pub registries_past : (done : List Entry) (e : Entry) (m : Registries)
      → ((n : List ℕ) → is_registry_variable n (string_bytes e.0) ≡ false) → AreRegistriesSoFar done m
      → AreRegistriesSoFar (done ++ e ∷ []) m
  registries_past done e m none so_far n =
      subst (state n (get_by_text m n)) (first_other done e (named_in (registries_ranks n)) (none n)) (so_far n)

  -- an entry of a registry, which is set by all of its variables
  pub registries_more : (done : List Entry) (e : Entry) (more : List Entry) (m m' : Registries) (r : List ℕ)
      → IsStrictlySortedBy string_cmp (keys_of (done ++ e ∷ more))
      → ((n : List ℕ) → is_registry_variable n (string_bytes e.0) ≡ bytes_eq n r)
      → IsRegistrySet vars m r m' → AreRegistriesSoFar done m → AreRegistriesSoFar (done ++ e ∷ []) m'
  registries_more done e more m m' r sorted its (v, entry, set) so_far n =
      elim (same_keys n r) [
        | inl same ↦ subst (λ (k : List ℕ). IsRegistrySoFar (done ++ e ∷ []) (get_by_text m' k) k) (sym same) here
        | inr (apart, apart') ↦
            let stays : get_by_text m n ≡ get_by_text m' n =
            sym (entry n ∙ ap (λ b. cond b (Some v) (get_by_text m n)) apart') in
            subst (λ (o : Option RegistriesConfigValue). IsRegistrySoFar (done ++ e ∷ []) o n) stays
            (subst (state n (get_by_text m n)) (first_other done e (named_in (registries_ranks n)) (its n ∙ apart))
            (so_far n))
      ]
    where
      here : IsRegistrySoFar (done ++ e ∷ []) (get_by_text m' r) r
      here =
          let first = first_is (variables_among (done ++ e ∷ [])) (named_in (registries_ranks r)) (string_bytes e.0)
          e.1.items (its r ∙ same_bytes r) (among_here done e more (string_bytes e.0) sorted refl) in
          let got : get_by_text m' r ≡ Some v = entry r ∙ ap (λ b. cond b (Some v) (get_by_text m r)) (same_bytes r) in
          subst (state r (get_by_text m' r)) (sym first.1)
          (member_set vars registries_fields (registries_ranks r)
          (first_set (variables_among done) (named_in (registries_ranks r))) first.0 (get_by_text was r)
          (get_by_text m r) (get_by_text m' r) v got set (so_far r))

  -- all entries were met
  pub registries_ranked : (m : Registries)
      → ((n : List ℕ) → state n (get_by_text m n) (first_set vars (named_in (registries_ranks n))))
      → IsRanked (map_at (entry_at registries_fields)) registries_rank vars was m
  registries_ranked m so_far = (cells, refusals)
    where
      cells : (p : KeyPath) → map_at (entry_at registries_fields) m p ≡ registries_rank.cells vars
          (map_at (entry_at registries_fields) was) p
      cells [] = refl
      cells (field k ∷ p) = refl
      cells (name n ∷ p) = member_cells_are vars registries_fields (registries_ranks n) (get_by_text was n)
          (get_by_text m n) _ refl (so_far n) p

      refusals : (p : KeyPath) → registries_rank.refusals vars (map_at (entry_at registries_fields) was) p ≡ []
      refusals [] = refl
      refusals (field k ∷ p) = refl
      refusals (name n ∷ p) = member_free vars registries_fields (registries_ranks n) (get_by_text was n)
          (get_by_text m n) _ refl (so_far n) p

  -- a registry's variable is refused
  pub registry_cause : (n : List ℕ) (e : Error) → IsFieldCause vars (registries_ranks n) e
      → IsRankCause (map_at (entry_at registries_fields)) registries_rank vars was e
  registry_cause n e h =
      elim (member_cause vars (registries_ranks n) (λ q. map_at (entry_at registries_fields) was (name n ∷ q)) e h) [
        | inl m ↦ inl m
        | inr (p, c) ↦ inr (name n ∷ p, c)
      ]

  -- a cause beside what the loop has made is one beside what was at its start
  pub registries_cause : (m : Registries) (e : Error) → IsRankCause (map_at (entry_at registries_fields))
      registries_rank vars m e → IsRankCause (map_at (entry_at registries_fields)) registries_rank vars was e
  registries_cause m e (inl memory) = inl memory
  registries_cause m e (inr ([], c)) = inr ([], c)
  registries_cause m e (inr (field k ∷ p, c)) = inr (field k ∷ p, c)
  registries_cause m e (inr (name n ∷ p, c)) =
      registry_cause n e (field_cause vars (λ x q. map_at (entry_at registries_fields) x (name n ∷ q))
      (registries_ranks n) m e (inr (p, c)))

-- beside an environment that differs in the bytes of tokens that aren't text
pub registries_hidden : (vars other : Variables) (was m : Registries) (e : Error) → DifferInTokens vars other
    → IsRankCause (map_at (entry_at registries_fields)) registries_rank vars m e
    → IsRankCause (map_at (entry_at registries_fields)) registries_rank other was e
registries_hidden vars other was m e differ (inl memory) = inl memory
registries_hidden vars other was m e differ (inr ([], c)) = inr ([], c)
registries_hidden vars other was m e differ (inr (field k ∷ p, c)) = inr (field k ∷ p, c)
registries_hidden vars other was m e differ (inr (name n ∷ p, c)) =
    registry_cause other was n e
    (field_hidden vars other differ (registries_ranks n) e
    (field_cause vars (λ x q. map_at (entry_at registries_fields) x (name n ∷ q)) (registries_ranks n) m e
    (inr (p, c))))
