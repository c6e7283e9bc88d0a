-- Items and members that are written one after the other, and JSON without floats.
use Rattle.std.proofs.Common.{◌≡◌, ◌&&◌, ℕ, Bool, true, false, not, List, [], ◌∷◌, ◌++◌, map, String, Global, Less, Greater}
use Rattle.std.proofs.Common.{string_bytes, nat_cmp, refl, ap, ◌∙◌}
use Rattle.std.proofs.lemmas.Cmp.{nat_list_cmp_total}
use Rattle.std.specs.Cmp.Lexicographic.{slice_cmp}
use Rattle.std.specs.List.{AllByRecursion}
use Rattle.std.specs.List.Sorted.{IsStrictlySortedBy}
use Rattle.std.specs.Map.{keys_of}
use Rattle.std.specs.Ordering.{match_ordering, ordering_reverse}
use Rattle.std.specs.String.{string_cmp}
use Rattle.serde_json.specs.Data.{Data, Items, no_items, item, Members, no_members, member, put}
use Rattle.serde_json.specs.View.{view, items_of, items_view}
use Rattle.serde_json.specs.Written.{has_float, items_have_float, members_have_float}
use Rattle.serde_json.specs.declared.value.Value.{Value}
use Rattle.toml.specs.Data as toml
use Rattle.toml.specs.View.{view as toml_view, members_view as toml_members}
use Rattle.toml.specs.declared.value.Value.{Value as TomlValue}
use Rattle.cc2_json.proofs.Floats.{integer_free, list_free, neither, placed_free}
use Rattle.cc2_cargo.specs.Raw.{RawValue}
use Rattle.cc2_json.specs.declared.form.Form.{Form}
use Rattle.cc2_cargo_answers.specs.RawJson.{is_secret_key, items_json, members_json, or_redacted, setting_json, toml_json}

-- items, and others after them
abbrev pub behind : Items → Items → Items
behind no_items others = others
behind (item d ds) others = item d (behind ds others)

pub behind_more : (vs : List Value) (v : Value) (others : Items) → behind (items_view (vs ++ v ∷ [])) others ≡ behind (items_view vs) (item (view v) others)
behind_more [] v others = refl
behind_more (w ∷ vs) v others = ap (item (view w)) (behind_more vs v others)

pub behind_none : (ds : Items) → behind ds no_items ≡ ds
behind_none no_items = refl
behind_none (item d ds) = ap (item d) (behind_none ds)

-- members, and one more at the end
abbrev pub push : Members → List ℕ → Data → Members
push no_members k d = member k d no_members
push (member l e ms) k d = member l e (push ms k d)

-- the key sorts after those of all members
abbrev pub ComesLast : List ℕ → Members → Type 0
ComesLast k no_members = Unit {0}
ComesLast k (member l e ms) = (slice_cmp nat_cmp k l ≡ Greater) × ComesLast k ms

pub put_last : (k : List ℕ) (d : Data) (ms : Members) → ComesLast k ms → put k d ms ≡ push ms k d
put_last k d no_members h = refl
put_last k d (member l e ms) h =
    ap (λ o. match_ordering o (member k d (member l e ms)) (member l d ms) (member l e (put k d ms))) h.0 ∙ ap (member l e) (put_last k d ms h.1)

-- the key sorts after those of all entries
abbrev pub IsAfter : {X : Type 0} → List ℕ → List (String Global × X) → Type 0
IsAfter k [] = Unit {0}
IsAfter k (e ∷ es) = (slice_cmp nat_cmp k (string_bytes e.0) ≡ Greater) × IsAfter k es

middle : {X : Type 0} (first : String Global × X) (es : List (String Global × X)) (e : String Global × X) (more : List (String Global × X))
    → AllByRecursion (λ y. string_cmp first.0 y ≡ Less) (keys_of (es ++ e ∷ more)) → string_cmp first.0 e.0 ≡ Less
middle first [] e more h = h.0
middle first (x ∷ es) e more h = middle first es e more h.1

pub after_those : {X : Type 0} (done : List (String Global × X)) (e : String Global × X) (more : List (String Global × X))
    → IsStrictlySortedBy string_cmp (keys_of (done ++ e ∷ more)) → IsAfter (string_bytes e.0) done
unfolding IsStrictlySortedBy
after_those [] e more h = tt
after_those (first ∷ done) e more h =
    (nat_list_cmp_total.antisymm (string_bytes e.0) (string_bytes first.0) ∙ ap ordering_reverse (middle first done e more h.0), after_those done e more h.1)

module _ (hides : Bool) where
  -- what is written of an entry
  abbrev pub entry_json : String Global × TomlValue → Data
  entry_json e = or_redacted (hides && is_secret_key (string_bytes e.0)) (toml_json hides (toml_view e.1))

  last_toml : (k : List ℕ) (es : List (String Global × TomlValue)) → IsAfter k es → ComesLast k (members_json hides (toml_members es))
  last_toml k [] h = tt
  last_toml k (e ∷ es) h = (h.0, last_toml k es h.1)

  push_toml : (es : List (String Global × TomlValue)) (e : String Global × TomlValue)
      → push (members_json hides (toml_members es)) (string_bytes e.0) (entry_json e) ≡ members_json hides (toml_members (es ++ e ∷ []))
  push_toml [] e = refl
  push_toml (x ∷ es) e = ap (member (string_bytes x.0) (entry_json x)) (push_toml es e)

  -- one member of a TOML table more
  pub toml_more : (done : List (String Global × TomlValue)) (e : String Global × TomlValue) (more : List (String Global × TomlValue))
      → IsStrictlySortedBy string_cmp (keys_of (done ++ e ∷ more))
      → put (string_bytes e.0) (entry_json e) (members_json hides (toml_members done)) ≡ members_json hides (toml_members (done ++ e ∷ []))
  toml_more done e more sorted =
      put_last (string_bytes e.0) (entry_json e) (members_json hides (toml_members done)) (last_toml (string_bytes e.0) done (after_those done e more sorted))
      ∙ push_toml done e

-- ---- without floats

redacted_free : (hidden : Bool) (d : Data) → has_float d ≡ false → has_float (or_redacted hidden d) ≡ false
redacted_free true d free = refl
redacted_free false d free = free

module _ (hides : Bool) where
  mutual
    toml_free : (d : toml.Data) → has_float (toml_json hides d) ≡ false
    toml_free (toml.string s) = refl
    toml_free (toml.integer z) = integer_free z
    toml_free (toml.float x) = refl
    toml_free (toml.boolean b) = refl
    toml_free (toml.datetime t) = refl
    toml_free (toml.array ds) = items_free ds
    toml_free (toml.table ms) = members_free ms

    items_free : (ds : toml.Items) → items_have_float (items_json hides ds) ≡ false
    items_free toml.no_items = refl
    items_free (toml.item d ds) = neither (has_float (toml_json hides d)) (items_have_float (items_json hides ds)) (toml_free d) (items_free ds)

    members_free : (ms : toml.Members) → members_have_float (members_json hides ms) ≡ false
    members_free toml.no_members = refl
    members_free (toml.member k d ms) =
        let shown = or_redacted (hides && is_secret_key k) (toml_json hides d) in
        neither (has_float shown) (members_have_float (members_json hides ms))
        (redacted_free (hides && is_secret_key k) (toml_json hides d) (toml_free d)) (members_free ms)

pub setting_free : (form : Form) (s : RawValue) → has_float (setting_json form s) ≡ false
setting_free form s = placed_free form.origins s.origin (toml_json (not form.tokens) s.value) (toml_free (not form.tokens) s.value)

pub settings_free : (form : Form) (ss : List RawValue) → items_have_float (items_of (map (setting_json form) ss)) ≡ false
settings_free form ss = list_free (setting_json form) ss (setting_free form)
