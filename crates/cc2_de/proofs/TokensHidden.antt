-- Why variables refuse a configuration says nothing of a token's bytes.
use Rattle.std.proofs.Common.{◌≡◌, Bool, true, false, cond, ℕ, List, [], ◌∷◌, Option, Some, None, Result, Ok, Err, IfErr, refl, subst, inl, inr}
use Rattle.std.specs.List.{Contains}
use Rattle.std.specs.Str.{bytes_eq}
use Rattle.cc2_error.specs.Causes.{Refusal, refusal_of}
use Rattle.cc2_error.specs.declared.error.Error.{Error}
use Rattle.cc2_value.specs.Cells.{field, name, KeyPath, Cell}
use Rattle.cc2_env.specs.Kept.{Variables}
use Rattle.cc2_env.specs.Ranked.{Named, Ranking, unset, by, Row, row_at, rows_refusals, by_field, MemberRow, rows_of, by_member, by_name, names_refusals, ranking_or, where_absent, IsRankCause}
use Rattle.cc2_env.specs.Ranks.{config_ranks}
use Rattle.cc2_env.specs.Tokens.{DifferInTokens}
use Rattle.cc2_env.proofs.TokenFaults.{first_hidden}
use Rattle.cc2_de.specs.Config.{config_at}
use Rattle.cc2_de.specs.ConfigRanks.{config_rank}
use Rattle.cc2_de.specs.declared.config.Config.{Config}

-- variables that differ in tokens alone are refused alike
pub record Hides (r : Ranking) : Type 0 where
  pub refusals : (vars other : Variables) → DifferInTokens vars other → (look : KeyPath → Option Cell) (p : KeyPath)
      → r.refusals vars look p ≡ r.refusals other look p

abbrev pub AllHide : List Row → Type 0
AllHide [] = Unit {0}
AllHide (row ∷ rows) = Hides row.1 × AllHide rows

unset_hides : Hides unset
unset_hides = record { refusals = λ vars other differ look p. refl }

by_hides : (ns : List Named) → Hides (by ns)
by_hides ns = record { refusals = λ vars other differ look p. first_hidden vars other differ ns }

either_hides : (b : Bool) (r s : Ranking) → Hides r → Hides s → Hides (cond b r s)
either_hides true r s h k = h
either_hides false r s h k = k

row_hides : (rows : List Row) → AllHide rows → (k : List ℕ) → Hides (row_at rows k)
row_hides [] h k = unset_hides
row_hides (row ∷ rows) h k = either_hides (bytes_eq row.0 k) row.1 (row_at rows k) h.0 (row_hides rows h.1 k)

module _ (rows : List Row) (h : AllHide rows) (vars other : Variables) (differ : DifferInTokens vars other)
    (look : KeyPath → Option Cell) where
  field_hidden : (p : KeyPath) → rows_refusals rows vars look p ≡ rows_refusals rows other look p
  field_hidden [] = refl
  field_hidden (field k ∷ p) = (row_hides rows h k).refusals vars other differ (λ q. look (field k ∷ q)) p
  field_hidden (name k ∷ p) = refl

fields_hide : (rows : List Row) → AllHide rows → Hides (by_field rows)
fields_hide rows h = record { refusals = field_hidden rows h }

module _ (at : List ℕ → Ranking) (h : (k : List ℕ) → Hides (at k)) (vars other : Variables)
    (differ : DifferInTokens vars other) (look : KeyPath → Option Cell) where
  name_hidden : (p : KeyPath) → names_refusals at vars look p ≡ names_refusals at other look p
  name_hidden [] = refl
  name_hidden (field k ∷ p) = refl
  name_hidden (name k ∷ p) = (h k).refusals vars other differ (λ q. look (name k ∷ q)) p

names_hide : (at : List ℕ → Ranking) → ((k : List ℕ) → Hides (at k)) → Hides (by_name at)
names_hide at h = record { refusals = name_hidden at h }

members_hide : (rows : List MemberRow) → AllHide (rows_of rows)
members_hide [] = tt
members_hide (row ∷ rows) = (by_hides row.1, members_hide rows)

member_hides : (rows : List MemberRow) → Hides (by_member rows)
member_hides rows = record { refusals = field_hidden (rows_of rows) (members_hide rows) }

or_hides : (was : Option Cell) (r : Ranking) → Hides r → Hides (ranking_or was r)
or_hides None r h = h
or_hides (Some c) r h = unset_hides

where_absent_hides : (r : Ranking) → Hides r → Hides (where_absent r)
where_absent_hides r h = record {
  refusals = λ vars other differ look p. (or_hides (look []) r h).refusals vars other differ look p;
}

-- the same of one variable, of two and of three, whose names are read off the ranking
one : (a : Named) → Hides (by (a ∷ []))
one a = by_hides (a ∷ [])

two : (a b : Named) → Hides (by (a ∷ (b ∷ [])))
two a b = by_hides (a ∷ (b ∷ []))

three : (a b c : Named) → Hides (by (a ∷ (b ∷ (c ∷ []))))
three a b c = by_hides (a ∷ (b ∷ (c ∷ [])))

-- of every table
tables_hide : AllHide config_ranks
tables_hide =
    search (one, two, three, unset_hides, fields_hide, names_hide, member_hides, where_absent_hides) depth 40

-- of the configuration
pub config_hidden : {T : Type 0} (result : Result T Error) (vars : Variables) (a : Config)
    → IfErr result (IsRankCause config_at config_rank vars a)
    → IfErr result (λ e. (other : Variables) → DifferInTokens vars other
    → IsRankCause config_at config_rank other a e)
config_hidden (Ok v) vars a h = tt
config_hidden (Err e) vars a (inl wants) = λ other differ. inl wants
config_hidden (Err e) vars a (inr (p, has)) =
    λ other differ. inr (
      p,
      subst (λ (rs : List Refusal). Contains rs (refusal_of e))
          (field_hidden config_ranks tables_hide vars other differ (config_at a) p) has,
    )
