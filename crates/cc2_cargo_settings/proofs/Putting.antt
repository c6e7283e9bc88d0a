-- What settings show once a value is put at a path.
use Rattle.std.proofs.Common.{◌≡◌, ℕ, Bool, true, false, cond, List, [], ◌∷◌, String, Global, BTreeMap, Option, Some, None, length, map, arith, refl, sym, ap, ◌∙◌, inl, inr}
use Rattle.std.specs.Prelude.{unwrap_or}
use Rattle.std.specs.BTreeMap.{get_by_text}
use Rattle.std.specs.Str.{bytes_eq}
use Rattle.cc2_value.proofs.Found.{same_bytes, same_keys}
use Rattle.cc2_cargo.specs.Raw.{Path, member_at, raw_at, raw_members_at}
use Rattle.cc2_cargo.specs.declared.raw.Raw.{Raw}
use Rattle.cc2_cargo.specs.declared.raw.Raw.TheViews.{Table}
use Rattle.cc2_cargo.proofs.Raws.{raw_table}
use Rattle.cc2_cargo_settings.specs.Changes.{Cells}
use Rattle.cc2_cargo_settings.specs.Under.{put_at, put_below}

abbrev Settings : Type 0
Settings = BTreeMap (String Global) Raw

-- a value in place of what the key has
abbrev pub Puts : List ℕ → Option Raw → Settings → Settings → Type 0
Puts key w m n = (k : List ℕ) → get_by_text n k ≡ cond (bytes_eq key k) w (get_by_text m k)

one_put : (b : Bool) (w : Raw) (o : Option Raw) (q : Path) → member_at (cond b (Some w) o) q ≡ unwrap_or (cond b (Some (raw_at w q)) None) (member_at o q)
one_put true w o q = refl
one_put false w o q = refl

-- at a key of the settings themselves
pub member_put : (key : List ℕ) (w : Raw) (m n : Settings) → Puts key (Some w) m n
    → (p : Path) → raw_members_at n p ≡ unwrap_or (put_at (key ∷ []) (raw_at w) p) (raw_members_at m p)
member_put key w m n puts [] = refl
member_put key w m n puts (k ∷ q) = ap (λ o. member_at o q) (puts k) ∙ one_put (bytes_eq key k) w (get_by_text m k) q

-- the table that is put has what its members show, over what was there
table_put : (inner t : Settings) (old : Option Raw) (next : List ℕ) (rest : Path) (cells : Cells)
    → ((p : Path) → raw_members_at inner p ≡ unwrap_or (put_at (next ∷ rest) cells p) (raw_members_at t p))
    → ((k : List ℕ) (p : Path) → raw_members_at t (k ∷ p) ≡ member_at old (k ∷ p))
    → (q : Path) → raw_at (Table inner) q ≡ unwrap_or (put_below (next ∷ rest) cells q) (member_at old q)
table_put inner t old next rest cells put was [] = raw_table inner []
table_put inner t old next rest cells put was (j ∷ q) =
    raw_table inner (j ∷ q) ∙ put (j ∷ q) ∙ ap (unwrap_or (put_at (next ∷ rest) cells (j ∷ q))) (was j q)

-- at a longer path, whose first key's member is taken out and put back
pub below_put : (key : List ℕ) (m taken n inner t : Settings) (next : List ℕ) (rest : Path) (cells : Cells)
    → Puts key None m taken → Puts key (Some (Table inner)) taken n
    → ((p : Path) → raw_members_at inner p ≡ unwrap_or (put_at (next ∷ rest) cells p) (raw_members_at t p))
    → ((k : List ℕ) (p : Path) → raw_members_at t (k ∷ p) ≡ member_at (get_by_text m key) (k ∷ p))
    → (p : Path) → raw_members_at n p ≡ unwrap_or (put_at (key ∷ (next ∷ rest)) cells p) (raw_members_at m p)
below_put key m taken n inner t next rest cells takes puts put was [] = refl
below_put key m taken n inner t next rest cells takes puts put was (k ∷ q) =
    elim (same_keys k key) [
      | inl same ↦
          let is : bytes_eq key k ≡ true = ap (bytes_eq key) same ∙ same_bytes key in
          ap (λ o. member_at o q) (puts k ∙ ap (λ b. cond b (Some (Table inner)) (get_by_text taken k)) is)
          ∙ table_put inner t (get_by_text m key) next rest cells put was q
          ∙ ap (λ l. unwrap_or (put_below (next ∷ rest) cells q) (member_at (get_by_text m l) q)) (sym same)
          ∙ ap (λ b. unwrap_or (cond b (put_below (next ∷ rest) cells q) None) (member_at (get_by_text m k) q)) (sym is)
      | inr (apart, apart') ↦
          ap (λ o. member_at o q) (puts k ∙ ap (λ b. cond b (Some (Table inner)) (get_by_text taken k)) apart'
          ∙ takes k ∙ ap (λ b. cond b None (get_by_text m k)) apart')
          ∙ ap (λ b. unwrap_or (cond b (put_below (next ∷ rest) cells q) None) (member_at (get_by_text m k) q)) (sym apart')
    ]

pub no_keys : {A : Type 0} (f : A → List ℕ) (xs : List A) → length xs ≡ 0 → map f xs ≡ []
no_keys f [] none = refl
no_keys f (x ∷ xs) none = absurd (omega (arith, none))
