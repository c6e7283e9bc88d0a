-- From the trees of parts to those of what they are in.
use Rattle.std.proofs.Common.{◌≡◌, ◌≤◌, ◌==◌, ℕ, suc, not, ◌&&◌, length, get_or, Bool, true, false, cond, List, [], ◌∷◌, ◌++◌}
use Rattle.std.proofs.Common.{map, drop, Option, Some, None, option_map, Result, Ok, Err, OnOk, String, Global, refl, sym, ap, ◌∙◌, arith}
use Rattle.std.proofs.lemmas.Bool.{false≢true, true≢false, eqb-true}
use Rattle.std.specs.Bool.{IsTrue}
use Rattle.std.specs.Prelude.{◌||◌, if◌then◌else◌}
use Rattle.std.specs.List.{list_any}
use Rattle.std.proofs.lemmas.Slice.Eq.{bytes_eq-Decides}
use Rattle.std.specs.Borrow.{Bor}
use Rattle.std.specs.Str.{bytes_eq}
use Rattle.serde_json.specs.Data.{Data, Members, object, array}
use Rattle.serde_json.specs.View.{view, items_of, members_view}
use Rattle.serde_json.specs.declared.value.Value.{Value}
use Rattle.cc2_value.specs.Cells.{Key, field, name, KeyPath, Cell, Setting, Text, Joined, is_entry}
use Rattle.cc2_value.specs.Rows.{part_at, row_at, texts_of, are_distinct, keys_of_fields, looks_of_fields}
use Rattle.cc2_value.specs.Shown.{Field, field_at, leaf_at, option_at, table_at, place_at}
use Rattle.cc2_value.specs.Visits.{Look}
use Rattle.cc2_value.specs.Values.{word_of}
use Rattle.cc2_value.specs.declared.value.Value as Text
use Rattle.cc2_leaf.specs.Env.{env_at}
use Rattle.cc2_leaf.specs.ManyProviders.{joined_at}
use Rattle.cc2_leaf.specs.Providers.{setting_of_provider}
use Rattle.cc2_leaf.specs.declared.provider.CredentialProvider.{CredentialProvider}
use Rattle.cc2_leaf.specs.declared.env.EnvConfigValue.{EnvConfigValue}
use Rattle.cc2_leaf.specs.declared.env.EnvConfigValue.TheVariants as variable
use Rattle.cc2_json.specs.Forms.{cell_data, setting_data}
use Rattle.cc2_json.specs.Json.{is_none_in, put_branches, put_told, tree_data, ArePut, IsJsonOf, IsObjectOf}
use Rattle.cc2_json.specs.Trees.{Tree, nothing, leaf, table, tree_at, branch_at, row_branches, is_place, lacks, AreProper, IsTreeOf, AreTreesOf}
use Rattle.cc2_json.specs.declared.form.Form.{Form}

leaf_shows : (c : Cell) (p : KeyPath) → tree_at (leaf c) p ≡ leaf_at (λ (u : Cell). u) c p
leaf_shows c [] = refl
leaf_shows c (k ∷ p) = refl

cell_alone : {A : Type 0} (cell : A → Cell) (a : A) (p : KeyPath) → leaf_at (λ (u : Cell). u) (cell a) p ≡ leaf_at cell a p
cell_alone cell a [] = refl
cell_alone cell a (k ∷ p) = refl

-- a value that is one cell
pub leaf_tree : {A : Type 0} (look : A → KeyPath → Option Cell) (cell : A → Cell) (a : A) → ((p : KeyPath) → look a p ≡ leaf_at cell a p)
    → is_entry (cell a) ≡ false → IsTreeOf (look a) (leaf (cell a))
leaf_tree look cell a alone no_table = record { proper = no_table; shows = λ p. leaf_shows (cell a) p ∙ cell_alone cell a p ∙ sym (alone p) }

-- what a field shows is the part at its key
pub same_part : {A : Type 0} (fs : List (Field A)) (a : A) (q : List ℕ) (p : KeyPath) → field_at fs a q p ≡ part_at (keys_of_fields fs) (looks_of_fields fs a) q p
same_part [] a q p = refl
same_part (f ∷ fs) a q p = ap (λ o. cond (bytes_eq f.key q) (f.cells a p) o) (same_part fs a q p)

-- which of two texts is compared with the other doesn't matter
same_text : (k l : List ℕ) → bytes_eq l k ≡ bytes_eq k l
same_text k l = go (bytes_eq k l) refl (bytes_eq l k) refl
  where
    go : (a : Bool) → bytes_eq k l ≡ a → (b : Bool) → bytes_eq l k ≡ b → b ≡ a
    go true is true is' = refl
    go false is false is' = refl
    go true is false is' = absurd (true≢false (sym ((bytes_eq-Decides l k).1 (sym ((bytes_eq-Decides k l).0 is))) ∙ is'))
    go false is true is' = absurd (true≢false (sym ((bytes_eq-Decides k l).1 (sym ((bytes_eq-Decides l k).0 is'))) ∙ is))

-- the trees of a row have its cells, each at its key
pub row_shows : (ks : List (List ℕ)) (ls : List Look) (ts : List Tree) → AreTreesOf ls ts → (k : Key) (p : KeyPath) → branch_at (row_branches ks ts) k p ≡ row_at ks ls (k ∷ p)
row_shows [] ls ts of (field q) p = refl
row_shows [] ls ts of (name q) p = refl
row_shows (k ∷ ks) [] [] of (field q) p = refl
row_shows (k ∷ ks) [] [] of (name q) p = refl
row_shows (k ∷ ks) [] (t ∷ ts) of q p = absurd of
row_shows (k ∷ ks) (l ∷ ls) [] of q p = absurd of
row_shows (k ∷ ks) (l ∷ ls) (t ∷ ts) of (field q) p =
    ap (λ o. cond (bytes_eq k q) o (branch_at (row_branches ks ts) (field q) p)) (of.0.shows p)
    ∙ ap (λ o. cond (bytes_eq k q) (l p) o) (row_shows ks ls ts of.1 (field q) p)
row_shows (k ∷ ks) (l ∷ ls) (t ∷ ts) of (name q) p = row_shows ks ls ts of.1 (name q) p

new_lacks : (k : List ℕ) (ks : List (List ℕ)) (ts : List Tree) → list_any (bytes_eq k) ks ≡ false → lacks (field k) (row_branches ks ts) ≡ true
new_lacks k [] ts h = refl
new_lacks k (l ∷ ks) [] h = refl
new_lacks k (l ∷ ks) (t ∷ ts) h = go (bytes_eq k l) (same_text k l) h (new_lacks k ks ts)
  where
    go : (b : Bool) → bytes_eq l k ≡ b → (b || list_any (bytes_eq k) ks) ≡ false → (list_any (bytes_eq k) ks ≡ false → lacks (field k) (row_branches ks ts) ≡ true)
        → (if bytes_eq l k then false else lacks (field k) (row_branches ks ts)) ≡ true
    go true same h rest = absurd (true≢false h)
    go false apart h rest = ap (λ c. if c then false else lacks (field k) (row_branches ks ts)) apart ∙ rest h

both_true : (a b : Bool) → (not a && b) ≡ true → (a ≡ false) × (b ≡ true)
both_true false b h = (refl, h)
both_true true b h = absurd (true≢false (sym h))

-- a row of distinct keys is proper
pub row_proper : (ks : List (List ℕ)) (ls : List Look) (ts : List Tree) → AreTreesOf ls ts → are_distinct ks ≡ true → AreProper (row_branches ks ts)
row_proper [] ls ts of h = tt
row_proper (k ∷ ks) ls [] of h = tt
row_proper (k ∷ ks) [] (t ∷ ts) of h = absurd of
row_proper (k ∷ ks) (l ∷ ls) (t ∷ ts) of h =
    let parts = both_true (list_any (bytes_eq k) ks) (are_distinct ks) h in
    (new_lacks k ks ts parts.0, refl, of.0.proper, row_proper ks ls ts of.1 parts.1)

-- two rows, one after the other
pub both_trees : (ls ms : List Look) (ts us : List Tree) → AreTreesOf ls ts → AreTreesOf ms us → AreTreesOf (ls ++ ms) (ts ++ us)
both_trees [] ms [] us of of' = of'
both_trees [] ms (t ∷ ts) us of of' = absurd of
both_trees (l ∷ ls) ms [] us of of' = absurd of
both_trees (l ∷ ls) ms (t ∷ ts) us of of' = (of.0, both_trees ls ms ts us of.1 of')

module _ (form : Form) where
  pub none_put : (ks : List (List ℕ)) (m : Members) → put_branches form (row_branches ks []) m ≡ m
  none_put [] m = refl
  none_put (k ∷ ks) m = refl

  -- the second row's members are put first
  pub both_put : (ks : List (List ℕ)) (ls : List Look) (ts us : List Tree) (m : Members) → AreTreesOf ls ts
      → put_branches form (row_branches ks (ts ++ us)) m ≡ put_branches form (row_branches ks ts) (put_branches form (row_branches (drop (length ls) ks) us) m)
  both_put ks [] [] us m of = sym (none_put ks (put_branches form (row_branches ks us) m))
  both_put ks [] (t ∷ ts) us m of = absurd of
  both_put ks (l ∷ ls) [] us m of = absurd of
  both_put [] (l ∷ ls) (t ∷ ts) us m of = refl
  both_put (k ∷ ks) (l ∷ ls) (t ∷ ts) us m of = ap (λ n. put_told form (field k) (tree_data form t) n) (both_put ks ls ts us m of.1)

  -- what is put of two rows
  pub pair_put : (ks : List (List ℕ)) (ls ms : List Look) (n : ℕ) (x y z : List (String Global × Value)) → length ls ≡ n
      → ArePut form (drop n ks) ms x y → ArePut form ks ls y z → ArePut form ks (ls ++ ms) x z
  pair_put ks ls ms n x y z count back front =
      record {
        trees = front.trees ++ back.trees;
        of = both_trees ls ms front.trees back.trees front.of back.of;
        are = front.are
            ∙ ap (put_branches form (row_branches ks front.trees)) (back.are ∙ ap (λ i. put_branches form (row_branches (drop i ks) back.trees) (members_view x)) (sym count))
            ∙ sym (both_put ks ls front.trees back.trees (members_view x) front.of);
      }

  -- what is put of one part
  pub one_put : (ks : List (List ℕ)) (k : List ℕ) (look : Look) (json : Option Value) (x y : List (String Global × Value)) → IsJsonOf form look json
      → members_view y ≡ put_told form (field k) (option_map view json) (members_view x) → ArePut form (k ∷ ks) (look ∷ []) x y
  one_put ks k look json x y is put =
      record {
        trees = is.tree ∷ [];
        of = (is.of, tt);
        are = put ∙ ap (λ o. put_told form (field k) o (members_view x)) is.is ∙ ap (λ m. put_told form (field k) (tree_data form is.tree) m) (sym (none_put ks (members_view x)));
      }

  -- what is put of one part at the first of some keys
  pub first_put : (keys : List (Bor (List ℕ))) (nul : Bor (List ℕ)) (look : Look) (json : Option Value) (x y : List (String Global × Value)) → 1 ≤ length keys
      → IsJsonOf form look json → members_view y ≡ put_told form (field (get_or keys 0 nul).now) (option_map view json) (members_view x)
      → ArePut form (texts_of keys) (look ∷ []) x y
  first_put [] nul look json x y counted is put = absurd (omega (arith, counted))
  first_put (key ∷ keys) nul look json x y counted is put = one_put (texts_of keys) key.now look json x y is put

  -- nothing shows nothing
  pub none_json : {A : Type 0} (look : A → KeyPath → Option Cell) (o : Option A) → o ≡ None → IsJsonOf form (λ p. option_at look o p) None
  none_json look o is = record { tree = nothing; of = record { proper = tt; shows = λ p. sym (ap (λ r. option_at look r p) is) }; is = refl }

  place : (member : Bool) → is_place (place_at member) ≡ true
  place true = refl
  place false = refl

  -- the tree of a table, by those of its fields
  pub table_tree : {A : Type 0} (member : Bool) (fs : List (Field A)) (a : A) (ts : List Tree) → are_distinct (keys_of_fields fs) ≡ true → AreTreesOf (looks_of_fields fs a) ts
      → IsTreeOf (table_at member fs a) (table (place_at member) (row_branches (keys_of_fields fs) ts))
  table_tree member fs a ts distinct of = record { proper = (place member, row_proper (keys_of_fields fs) (looks_of_fields fs a) ts of distinct); shows = at }
    where
      at : (p : KeyPath) → tree_at (table (place_at member) (row_branches (keys_of_fields fs) ts)) p ≡ table_at member fs a p
      at [] = refl
      at (field q ∷ p) = row_shows (keys_of_fields fs) (looks_of_fields fs a) ts of (field q) p ∙ sym (same_part fs a q p)
      at (name q ∷ p) = row_shows (keys_of_fields fs) (looks_of_fields fs a) ts of (name q) p

  -- a table whose fields are put in an object
  pub table_is : {A : Type 0} (member : Bool) (fs : List (Field A)) (a : A) (json : Value) (x y : List (String Global × Value)) → are_distinct (keys_of_fields fs) ≡ true → x ≡ []
      → ArePut form (keys_of_fields fs) (looks_of_fields fs a) x y → view json ≡ object (members_view y) → IsJsonOf form (table_at member fs a) (Some json)
  table_is member fs a json x y distinct none put is =
      record {
        tree = table (place_at member) (row_branches (keys_of_fields fs) put.trees);
        of = table_tree member fs a put.trees distinct put.of;
        is = ap Some (is ∙ ap object (put.are ∙ ap (λ l. put_branches form (row_branches (keys_of_fields fs) put.trees) (members_view l)) none));
      }

-- an object of what fields show
pub object_is : {A : Type 0} (form : Form) (fs : List (Field A)) (a : A) (look : Look) (d : Data) (x y : List (String Global × Value)) → are_distinct (keys_of_fields fs) ≡ true → x ≡ []
    → ((q : List ℕ) (p : KeyPath) → look (field q ∷ p) ≡ field_at fs a q p) → ((q : List ℕ) (p : KeyPath) → look (name q ∷ p) ≡ None)
    → ArePut form (keys_of_fields fs) (looks_of_fields fs a) x y → d ≡ object (members_view y) → IsObjectOf form look d
object_is form fs a look d x y distinct none fielded named put is =
    record {
      branches = row_branches (keys_of_fields fs) put.trees;
      proper = row_proper (keys_of_fields fs) (looks_of_fields fs a) put.trees put.of distinct;
      shows = at;
      is = is ∙ ap object (put.are ∙ ap (λ l. put_branches form (row_branches (keys_of_fields fs) put.trees) (members_view l)) none);
    }
  where
    at : (k : Key) (p : KeyPath) → branch_at (row_branches (keys_of_fields fs) put.trees) k p ≡ look (k ∷ p)
    at (field q) p = row_shows (keys_of_fields fs) (looks_of_fields fs a) put.trees put.of (field q) p ∙ sym (same_part fs a q p) ∙ sym (fielded q p)
    at (name q) p = row_shows (keys_of_fields fs) (looks_of_fields fs a) put.trees put.of (name q) p ∙ sym (named q p)

-- what holds of an Ok follows from what holds of it
pub on_ok : {A E P Q : Type 0} (r : Result A E) → (P → Q) → OnOk r P → OnOk r Q
on_ok (Ok a) f h = f h
on_ok (Err e) f h = h

-- providers that are joined
pub no_providers : (form : Form) (ps : List CredentialProvider) → (length ps == 0) ≡ true → IsJsonOf form (λ p. joined_at (map setting_of_provider ps) p) None
no_providers form [] none = record { tree = nothing; of = record { proper = tt; shows = λ p. refl }; is = refl }
no_providers form (c ∷ ps) none = absurd (omega (arith, eqb-true (suc (length ps)) 0 none))

providers_at : (s : Setting) (ss : List Setting) (p : KeyPath) → tree_at (leaf (Joined (s ∷ ss))) p ≡ joined_at (s ∷ ss) p
providers_at s ss [] = refl
providers_at s ss (k ∷ p) = refl

pub some_providers : (form : Form) (ps : List CredentialProvider) (json : Value) → (length ps == 0) ≡ false
    → view json ≡ array (items_of (map (setting_data form.origins) (map setting_of_provider ps)))
    → IsJsonOf form (λ p. joined_at (map setting_of_provider ps) p) (Some json)
some_providers form [] json some is = absurd (false≢true (sym some))
some_providers form (c ∷ ps) json some is =
    record {
      tree = leaf (Joined (setting_of_provider c ∷ map setting_of_provider ps));
      of = record { proper = refl; shows = providers_at (setting_of_provider c) (map setting_of_provider ps) };
      is = ap Some is;
    }

-- whether there are members
pub members_none : (ms : List (String Global × Value)) (b : Bool) → (IsTrue b → length ms ≡ 0) × (length ms ≡ 0 → IsTrue b) → b ≡ is_none_in (members_view ms)
members_none [] b h = h.1 refl
members_none (m ∷ ms) true h = absurd (omega (arith, h.0 refl))
members_none (m ∷ ms) false h = refl

-- a value of `env` that is a text
pub env_text : (form : Form) (e : EnvConfigValue) (text : Text.Value (String Global)) (json : Value) → e ≡ variable.Value text
    → Some (view json) ≡ cell_data form.origins (Text (word_of text ∷ [])) → IsJsonOf form (env_at e) (Some json)
env_text form e text json is told =
    record {
      tree = leaf (Text (word_of text ∷ []));
      of = record { proper = refl; shows = λ p. leaf_shows (Text (word_of text ∷ [])) p ∙ cell_alone (λ x. Text (word_of x ∷ [])) text p ∙ sym (ap (λ v. env_at v p) is) };
      is = told;
    }
