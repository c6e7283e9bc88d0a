-- A setting in place, and a table, row by row.
use Rattle.std.proofs.Common.{◌≡◌, ℕ, Bool, cond, List, [], ◌∷◌, Option, Some, None, Result, Ok, Err, refl, sym, subst, inl, inr}
use Rattle.std.proofs.lemmas.Bool.{cases_Bool}
use Rattle.std.proofs.lemmas.Slice.Eq.{bytes_eq-Decides}
use Rattle.std.specs.Option.{is_some}
use Rattle.std.specs.Str.{bytes_eq}
use Rattle.cc2_error.specs.Causes.{Refusal}
use Rattle.cc2_error.specs.declared.error.Error.{Error}
use Rattle.cc2_value.specs.Cells.{field, name, KeyPath, Cell, Payload, number, truth, word, command, provider}
use Rattle.cc2_value.specs.Copies.{IsBare}
use Rattle.cc2_value.specs.Shown.{Field, leaf_at, option_at, fields_at, entry_at}
use Rattle.cc2_leaf.specs.declared.path_and_args.PathAndArgs.{PathAndArgs}
use Rattle.cc2_leaf.specs.Commands.{command_at}
use Rattle.cc2_resolved.specs.Answers.{Answer, shown_at, single}
use Rattle.cc2_resolved.specs.Resolving.{payload_for}
use Rattle.cc2_resolved.specs.Sites.{Site}
use Rattle.cc2_value.specs.Visits.{Look}
use Rattle.cc2_resolved.specs.Rows.{Resolving, by, Row, how_at, shown_in, by_row, rows_at, by_entry, entry_shown, IsResolved, IsRefusedSo, IsCause, AllResolved, IsCauseAt}

-- what is to be made of a setting
abbrev pub wanted : {A : Type 0} → (Cell → Result (Option Answer) Refusal) → (A → Cell) → Option A → Result (Option Answer) Refusal
wanted how cell None = Ok None
wanted how cell (Some a) = how (cell a)

pub setting_resolved : {A : Type 0} (how : Site → Cell → Result (Option Answer) Refusal) (site : Site) (cell : A → Cell) (setting : Option A) (answer : Option Answer)
    → wanted (how site) cell setting ≡ Ok answer → IsResolved (by how) site (option_at (leaf_at cell) setting) (shown_at answer)
setting_resolved how site cell None answer h = record { is = at }
  where
    at : (p : KeyPath) → by how site (option_at (leaf_at cell) None) p ≡ Ok (shown_at answer p)
    at [] = h
    at (k ∷ p) = refl
setting_resolved how site cell (Some a) answer h = record { is = at }
  where
    at : (p : KeyPath) → by how site (option_at (leaf_at cell) (Some a)) p ≡ Ok (shown_at answer p)
    at [] = h
    at (k ∷ p) = refl

module _ {A : Type 0} (site : Site) (look : Look) (a : A) where
  row_resolved : (rows : List (Row A)) → AllResolved rows site look a → (k : List ℕ) (p : KeyPath)
      → how_at rows k site (λ q. look (field k ∷ q)) p ≡ Ok (shown_in rows a k p)
  row_resolved [] h k p = refl
  row_resolved (r ∷ rs) h k p =
      elim (cases_Bool (bytes_eq r.key k)) [
        | inl same ↦
            subst (λ (b : Bool). (cond b r.how (how_at rs k)) site (λ q. look (field k ∷ q)) p ≡ Ok (cond b (r.shows a p) (shown_in rs a k p))) (sym same)
            (subst (λ (key : List ℕ). r.how site (λ q. look (field key ∷ q)) p ≡ Ok (r.shows a p)) ((bytes_eq-Decides r.key k).0 same) (h.0.is p))
        | inr apart ↦
            subst (λ (b : Bool). (cond b r.how (how_at rs k)) site (λ q. look (field k ∷ q)) p ≡ Ok (cond b (r.shows a p) (shown_in rs a k p))) (sym apart)
            (row_resolved rs h.1 k p)
      ]

  -- a table whose rows are resolved is resolved
  pub table_resolved : (rows : List (Row A)) → AllResolved rows site look a → IsResolved (by_row rows) site look (rows_at rows a)
  table_resolved rows h = record { is = at }
    where
      at : (p : KeyPath) → by_row rows site look p ≡ Ok (rows_at rows a p)
      at [] = refl
      at (field k ∷ p) = row_resolved rows h k p
      at (name k ∷ p) = refl

answered : (r : Result (Option Answer) Refusal) (x : Option Answer) (refusal : Refusal) → r ≡ Ok x → r ≡ Err refusal → ⊥
answered r x refusal h k = cc

-- where a place is resolved no error applies
pub none_refused : (how : Resolving) (site : Site) (look : Look) (shown : KeyPath → Option Answer) → IsResolved how site look shown
    → (refusal : Refusal) → ¬ (IsRefusedSo how site look refusal)
none_refused how site look shown h refusal (p, k) = answered (how site look p) (shown p) refusal (h.is p) k

-- the refusal of a row is one of the table
pub row_refused : {A : Type 0} (rows : List (Row A)) (site : Site) (look : Look) (k : List ℕ) (e : Error) → IsCauseAt rows site look k e → IsCause (by_row rows) site look e
row_refused rows site look k e (inl m) = inl m
row_refused rows site look k e (inr h) = inr (field k ∷ h.0, h.1)

-- the same of a table that is a member of a map
pub entry_resolved : {A B : Type 0} (rows : List (Row B)) (site : Site) (fs : List (Field A)) (a : A) (b : B)
    → IsResolved (by_row rows) site (fields_at fs a) (rows_at rows b) → IsResolved (by_entry rows) site (entry_at fs a) (entry_shown rows b)
entry_resolved rows site fs a b h = record { is = at }
  where
    at : (p : KeyPath) → by_entry rows site (entry_at fs a) p ≡ Ok (entry_shown rows b p)
    at [] = refl
    at (field k ∷ p) = h.is (field k ∷ p)
    at (name k ∷ p) = refl

-- what is resolved of equal cells
pub along : (how : Resolving) (site : Site) (u v : Look) (shown : KeyPath → Option Answer) → ((p : KeyPath) → u p ≡ v p) → IsResolved how site u shown → IsResolved how site v shown
along how site u v shown e h = subst (λ (look : Look). IsResolved how site look shown) (λ i p. e p i) h

-- a number, a truth value or a text stays
pub bare_settled : (site : Site) (payload : Payload) → IsBare payload → payload_for site payload ≡ Ok (single payload)
bare_settled site (number n) bare = refl
bare_settled site (truth b) bare = refl
bare_settled site (word text) bare = refl
bare_settled site (command array path args) bare = absurd bare
bare_settled site (provider array p) bare = absurd bare

-- what holds of a site holds where the same names are aliases
pub same_aliases : (P : (List ℕ → Bool) → Type 0) (is_alias other : List ℕ → Bool) → ((n : List ℕ) → is_alias n ≡ other n) → P is_alias → P other
same_aliases P is_alias other e h = subst P (λ i n. e n i) h

pub alias_there : (o : Option PathAndArgs) → is_some o ≡ is_some (option_at command_at o [])
alias_there None = refl
alias_there (Some c) = refl
