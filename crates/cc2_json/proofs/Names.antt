-- Members that a loop over a map puts, name by name.
use Rattle.std.proofs.Common.{◌≡◌, ℕ, true, false, cond, List, [], ◌∷◌, ◌++◌, Option, Some, None, option_map, String, BTreeMap, Global, refl, sym, ap, ◌∙◌, string_bytes, inl, inr, true≢false}
use Rattle.std.specs.Prelude.{◌&&◌, is_some, if◌then◌else◌}
use Rattle.std.specs.List.Sorted.{IsStrictlySortedBy}
use Rattle.std.specs.Map.{keys_of}
use Rattle.std.specs.Str.{bytes_eq}
use Rattle.std.specs.String.{string_cmp}
use Rattle.serde_json.specs.Data.{object}
use Rattle.serde_json.specs.View.{view, members_view}
use Rattle.serde_json.specs.declared.value.Value.{Value}
use Rattle.cc2_value.specs.Cells.{Key, field, name, KeyPath}
use Rattle.cc2_value.specs.Shown.{option_at, map_at}
use Rattle.cc2_value.specs.Visits.{Look}
use Rattle.cc2_value.proofs.Found.{found, same_keys, found_here, found_fresh, sorted_front, found_before, same_bytes}
use Rattle.cc2_json.specs.Json.{put_branches, put_told, tree_data, AreNamesPut, IsJsonOf}
use Rattle.cc2_json.specs.Trees.{Tree, nothing, leaf, table, Branches, no_branches, branch, tree_at, branch_at, is_member, lacks, IsProper, AreProper}
use Rattle.cc2_json.specs.declared.form.Form.{Form}

-- a value that has a cell of its own fits a name
member_fits : (t : Tree) → IsProper t → is_some (tree_at t []) ≡ true → is_member t ≡ true
member_fits nothing proper there = refl
member_fits (leaf c) proper there = refl
member_fits (table None bs) proper there = absurd (true≢false (sym there))
member_fits (table (Some c) bs) proper there = proper.0

module _ {V : Type 0} (form : Form) (look : V → Look) (there : (v : V) → is_some (look v []) ≡ true) where
  -- the entries done are put, each at its name
  pub record ArePutSoFar (done : List (String Global × V)) (x y : List (String Global × Value)) : Type 0 where
    pub branches : Branches
    pub proper : AreProper branches
    pub named : (k : List ℕ) (p : KeyPath) → branch_at branches (name k) p ≡ option_at look (found k done) p
    pub unfielded : (k : List ℕ) (p : KeyPath) → branch_at branches (field k) p ≡ None
    pub no_field : (k : List ℕ) → lacks (field k) branches ≡ true
    pub no_name : (k : List ℕ) → found k done ≡ None → lacks (name k) branches ≡ true
    pub are : members_view y ≡ put_branches form branches (members_view x)

  pub none_so_far : (x : List (String Global × Value)) → ArePutSoFar [] x x
  none_so_far x =
      record {
        branches = no_branches;
        proper = tt;
        named = λ k p. refl;
        unfielded = λ k p. refl;
        no_field = λ k. refl;
        no_name = λ k h. refl;
        are = refl;
      }

  -- one entry more
  pub named_more : (done : List (String Global × V)) (e : String Global × V) (more : List (String Global × V)) (json : Option Value)
      (x y z : List (String Global × Value)) → IsStrictlySortedBy string_cmp (keys_of (done ++ e ∷ more)) → IsJsonOf form (look e.1) json
      → members_view z ≡ put_told form (name (string_bytes e.0)) (option_map view json) (members_view y)
      → ArePutSoFar done x y → ArePutSoFar (done ++ e ∷ []) x z
  named_more done e more json x y z sorted is put so_far =
      record {
        branches = branch (name bs) is.tree so_far.branches;
        proper = (
          ap (λ b. b && lacks (field bs) so_far.branches) (so_far.no_name bs (found_fresh done e more sorted)) ∙ so_far.no_field bs,
          member_fits is.tree is.of.proper (ap is_some (is.of.shows []) ∙ there e.1),
          is.of.proper,
          so_far.proper,
        );
        named = named;
        unfielded = so_far.unfielded;
        no_field = so_far.no_field;
        no_name = no_name;
        are = put ∙ ap (λ o. put_told form (name bs) o (members_view y)) is.is ∙ ap (λ m. put_told form (name bs) (tree_data form is.tree) m) so_far.are;
      }
    where
      bs : List ℕ
      bs = string_bytes e.0

      named : (k : List ℕ) (p : KeyPath) → branch_at (branch (name bs) is.tree so_far.branches) (name k) p ≡ option_at look (found k (done ++ e ∷ [])) p
      named k p =
          elim (same_keys k bs) [
            | inl same ↦
                ap (λ q. cond (bytes_eq bs q) (tree_at is.tree p) (branch_at so_far.branches (name q) p)) same
                ∙ ap (λ b. cond b (tree_at is.tree p) (branch_at so_far.branches (name bs) p)) (same_bytes bs)
                ∙ is.of.shows p
                ∙ ap (λ o. option_at look o p) (sym (found_here done e [] (sorted_front done e more sorted)))
                ∙ ap (λ q. option_at look (found q (done ++ e ∷ [])) p) (sym same)
            | inr (apart, apart') ↦
                ap (λ b. cond b (tree_at is.tree p) (branch_at so_far.branches (name k) p)) apart'
                ∙ so_far.named k p
                ∙ ap (λ o. option_at look o p) (sym (found_before k done e apart))
          ]

      -- a name that isn't found now was not found before, and is another one
      no_name : (k : List ℕ) → found k (done ++ e ∷ []) ≡ None → lacks (name k) (branch (name bs) is.tree so_far.branches) ≡ true
      no_name k none =
          elim (same_keys k bs) [
            | inl same ↦
                absurd (true≢false (ap is_some (sym (found_here done e [] (sorted_front done e more sorted)) ∙ ap (λ q. found q (done ++ e ∷ [])) (sym same) ∙ none)))
            | inr (apart, apart') ↦
                ap (λ b. if b then false else lacks (name k) so_far.branches) apart' ∙ so_far.no_name k (sym (found_before k done e apart) ∙ none)
          ]

  -- all entries are put
  pub map_put : (m : BTreeMap (String Global) V) (x y : List (String Global × Value)) → ArePutSoFar m.entries x y → AreNamesPut form (map_at look m) x y
  map_put m x y put = record { branches = put.branches; proper = put.proper; no_field = put.no_field; shows = at; are = put.are }
    where
      at : (k : Key) (p : KeyPath) → branch_at put.branches k p ≡ map_at look m (k ∷ p)
      at (field k) p = put.unfielded k p
      at (name k) p = put.named k p

  -- a map whose entries are put in an object
  pub map_json : (m : BTreeMap (String Global) V) (json : Value) (y : List (String Global × Value)) → AreNamesPut form (map_at look m) [] y
      → view json ≡ object (members_view y) → IsJsonOf form (map_at look m) (Some json)
  map_json m json y put is =
      record { tree = table None put.branches; of = record { proper = (refl, put.proper); shows = at }; is = ap Some (is ∙ ap object put.are) }
    where
      at : (p : KeyPath) → tree_at (table None put.branches) p ≡ map_at look m p
      at [] = refl
      at (k ∷ p) = put.shows k p
