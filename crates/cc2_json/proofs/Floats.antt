-- The JSON of a look has no float.
use Rattle.std.proofs.Common.{◌≡◌, ◌||◌, ℕ, ℤ, pos, negsuc, Bool, true, false, List, [], ◌∷◌, ◌++◌, map, Option}
use Rattle.std.proofs.Common.{Some, None, Ordering, Less, Equal, Greater, true≢false, refl, sym, ap, ◌∙◌, subst, inl, inr, ◌⊎◌}
use Rattle.std.proofs.lemmas.List.{append-nil}
use Rattle.std.specs.Cmp.Lexicographic.{slice_cmp}
use Rattle.std.specs.Ordering.{nat_cmp, match_ordering}
use Rattle.std.specs.Prelude.{if◌then◌else◌, codes, is_some, option_and_then}
use Rattle.serde_json.specs.Data.{Data, null, boolean, number, string, array, object, Members, no_members, member}
use Rattle.serde_json.specs.Find.{is_float, of_integer, as_object, get, get_member}
use Rattle.serde_json.specs.View.{items_of}
use Rattle.serde_json.specs.Written.{has_float, items_have_float, members_have_float}
use Rattle.cc2_value.specs.Cells as cell
use Rattle.cc2_value.specs.Cells.{Key, KeyPath, Cell, Origin, Payload, Setting, Word}
use Rattle.cc2_value.specs.Visits.{Look}
use Rattle.cc2_json.specs.Forms.{command_texts, first_origin, hides, or_null, origin_data, payload_data, placed}
use Rattle.cc2_json.specs.Forms.{provider_texts, redacted, setting_data, told_at, word_data, word_texts, words_data}
use Rattle.cc2_json.specs.Reader.{data_at, texts, end_key, cell_json, json_at, ComesBefore, AreInOrder, IsTableAt, IsUnshadowed, IsExpected, IsJsonOfLook}
use Rattle.cc2_json.specs.TomlPlaces.{Free}
use Rattle.cc2_json.specs.declared.form.Form.{Form}
use Rattle.cc2_json.proofs.Members.{cmp, equal_texts, below_lacks, first_found, none_some, some_same}
use Rattle.cc2_json.proofs.One.{along, is_there}

pub neither : (a b : Bool) → a ≡ false → b ≡ false → (a || b) ≡ false
neither false b h k = k
neither true b h k = absurd (true≢false h)

pub not_first : (a b : Bool) → (a || b) ≡ false → a ≡ false
not_first false b h = refl
not_first true b h = absurd (true≢false h)

pub not_second : (a b : Bool) → (a || b) ≡ false → b ≡ false
not_second false b h = h
not_second true b h = absurd (true≢false h)

member_free : (k : List ℕ) (ms : Members) → members_have_float ms ≡ false → Free (get_member k ms)
member_free k no_members all = tt
member_free k (member l e ms) all = go (member_free k ms) (slice_cmp nat_cmp k l)
  where
    go : (members_have_float ms ≡ false → Free (get_member k ms)) → (o : Ordering) → Free (match_ordering o (get_member k ms) (Some e) (get_member k ms))
    go behind Less = behind (not_second (has_float e) (members_have_float ms) all)
    go behind Equal = not_first (has_float e) (members_have_float ms) all
    go behind Greater = behind (not_second (has_float e) (members_have_float ms) all)

pub get_free : (k : List ℕ) (d : Data) → has_float d ≡ false → Free (get k d)
get_free k null h = tt
get_free k (boolean b) h = tt
get_free k (number n) h = tt
get_free k (string s) h = tt
get_free k (array ds) h = tt
get_free k (object ms) h = member_free k ms h

inside_free : (r : List (List ℕ)) (d : Data) → has_float d ≡ false → Free (data_at r d)
inside_free [] d h = h
inside_free (q ∷ r) d h = go (get q d) (get_free q d h) (inside_free r)
  where
    go : (o : Option Data) → Free o → ((e : Data) → has_float e ≡ false → Free (data_at r e)) → Free (option_and_then (data_at r) o)
    go None free below = tt
    go (Some e) free below = below e free

-- ---- cells

pub list_free : {A : Type 0} (f : A → Data) (xs : List A) → ((a : A) → has_float (f a) ≡ false) → items_have_float (items_of (map f xs)) ≡ false
list_free f [] h = refl
list_free f (a ∷ more) h = neither (has_float (f a)) (items_have_float (items_of (map f more))) (h a) (list_free f more h)

texts_free : (ts : List (List ℕ)) → items_have_float (items_of (map string ts)) ≡ false
texts_free [] = refl
texts_free (t ∷ ts) = texts_free ts

words_free : (is_array : Bool) (ts : List (List ℕ)) → has_float (words_data is_array ts) ≡ false
words_free true ts = texts_free ts
words_free false ts = refl

pub integer_free : (z : ℤ) → is_float (of_integer z) ≡ false
integer_free (pos n) = refl
integer_free (negsuc n) = refl

payload_free : (p : Payload) → has_float (payload_data p) ≡ false
payload_free (cell.number z) = integer_free z
payload_free (cell.truth b) = refl
payload_free (cell.word text) = refl
payload_free (cell.command is_array path args) = words_free is_array (command_texts path args)
payload_free (cell.provider is_array p) = words_free is_array (provider_texts p)

origin_free : (o : Option Origin) → has_float (origin_data o) ≡ false
origin_free None = refl
origin_free (Some (cell.file path)) = refl
origin_free (Some (cell.variable variable)) = refl
origin_free (Some (cell.command_line None)) = refl
origin_free (Some (cell.command_line (Some path))) = refl

pub placed_free : (origins : Bool) (o : Option Origin) (d : Data) → has_float d ≡ false → has_float (placed origins o d) ≡ false
placed_free true o d h = neither (has_float (origin_data o)) (has_float d || false) (origin_free o) (neither (has_float d) false h refl)
placed_free false o d h = h

setting_free : (origins : Bool) (s : Setting) → has_float (setting_data origins s) ≡ false
setting_free origins s = placed_free origins s.origin (payload_data s.payload) (payload_free s.payload)

word_free : (origins : Bool) (w : Word) → has_float (word_data origins w) ≡ false
word_free origins w = placed_free origins w.origin (string w.text) refl

or_null_free : (o : Option Data) → Free o → has_float (or_null o) ≡ false
or_null_free None h = refl
or_null_free (Some d) h = h

redacted_free : (origins : Bool) (d : Data) → has_float d ≡ false → has_float (redacted origins d) ≡ false
redacted_free true d h = neither (has_float (or_null (get (codes "origin") d))) false (or_null_free _ (get_free (codes "origin") d h)) refl
redacted_free false d h = refl

pub told_free : (form : Form) (k : Key) (d : Data) → has_float d ≡ false → has_float (told_at form k d) ≡ false
told_free form k d h = go (hides form k)
  where
    go : (b : Bool) → has_float (if b then redacted form.origins d else d) ≡ false
    go true = redacted_free form.origins d h
    go false = h

cell_free : (form : Form) (k : Key) (o : Option Cell) → Free (cell_json form k o)
cell_free form k None = tt
cell_free form k (Some (cell.Single s)) = told_free form k (setting_data form.origins s) (setting_free form.origins s)
cell_free form k (Some (cell.Text ws)) =
    told_free form k (placed form.origins (first_origin ws) (words_data false (word_texts ws)))
    (placed_free form.origins (first_origin ws) (words_data false (word_texts ws)) refl)
cell_free form k (Some (cell.Items ws)) = told_free form k (array (items_of (map (word_data form.origins) ws))) (list_free (word_data form.origins) ws (word_free form.origins))
cell_free form k (Some (cell.Joined ss)) = told_free form k (array (items_of (map (setting_data form.origins) ss))) (list_free (setting_data form.origins) ss (setting_free form.origins))
cell_free form k (Some cell.Entry) = tt
cell_free form k (Some cell.Undecoded) = tt
cell_free form k (Some (cell.Marks b e)) = tt

value_free : (form : Form) (look : Look) (p : KeyPath) → Free (json_at form look p)
value_free form look [] = tt
value_free form look (k ∷ p) = cell_free form (end_key k p) (look (k ∷ p))

-- ---- the whole

found_behind : (l k : List ℕ) (e u : Data) (ms : Members) → ComesBefore l ms → get_member k ms ≡ Some u → get_member k (member l e ms) ≡ Some u
found_behind l k e u ms below h = go (cmp k l) refl
  where
    go : (o : Ordering) → cmp k l ≡ o → match_ordering o (get_member k ms) (Some e) (get_member k ms) ≡ Some u
    go Less is = h
    go Equal is = absurd (none_some u (sym (ap (λ q. get_member q ms) (equal_texts k l is) ∙ below_lacks l ms below) ∙ h))
    go Greater is = h

module _ (form : Form) (look : Look) (d : Data) (x : IsJsonOfLook form look d) where
  -- a value, or what lies within it
  within : (q : List (List ℕ)) (v : Data) → data_at q d ≡ Some v → (p : KeyPath) (r : List (List ℕ)) → IsUnshadowed form look p → texts p ++ r ≡ q → is_some (json_at form look p) ≡ true
      → has_float v ≡ false
  within q v at p r stands leads value =
      let told = is_there (json_at form look p) value in
      let inside : data_at q d ≡ data_at r told.0 =
      ap (λ s. data_at s d) (sym leads) ∙ along (texts p) r d ∙ ap (option_and_then (data_at r)) (x.values p told.0 stands told.1) in
      subst Free (sym inside ∙ at) (inside_free r told.0 (subst Free told.1 (value_free form look p)))

  -- a table is an object in order
  table_there : (q : List (List ℕ)) (v : Data) → data_at q d ≡ Some v → (p : KeyPath) (r : List (List ℕ)) → IsUnshadowed form look p → texts p ++ r ≡ q → r ≡ [] → IsTableAt form look p
      → (ms : Members) × (v ≡ object ms) × AreInOrder ms
  table_there q v at p r stands leads none table =
      let there = x.tables p stands table in
      let same : texts p ≡ q = sym (append-nil (texts p)) ∙ ap (λ s. texts p ++ s) (sym none) ∙ leads in
      (there.0, some_same v (object there.0) (sym at ∙ ap (λ s. data_at s d) (sym same) ∙ there.1), there.2)

  flat_free : (q : List (List ℕ)) (v : Data) → data_at q d ≡ Some v → as_object v ≡ None → IsExpected form look q → has_float v ≡ false
  flat_free q v at flat (p, r, stands, leads, inr value) = within q v at p r stands leads value
  flat_free q v at flat (p, r, stands, leads, inl (none, table)) =
      let there = table_there q v at p r stands leads none table in absurd (none_some there.0 (sym flat ∙ ap as_object there.1))

  ordered_or_free : (q : List (List ℕ)) (ms : Members) → data_at q d ≡ Some (object ms) → IsExpected form look q → AreInOrder ms ⊎ (has_float (object ms) ≡ false)
  ordered_or_free q ms at (p, r, stands, leads, inr value) = inr (within q (object ms) at p r stands leads value)
  ordered_or_free q ms at (p, r, stands, leads, inl (none, table)) =
      let there = table_there q (object ms) at p r stands leads none table in inl (subst AreInOrder (sym (some_same ms there.0 (ap as_object there.1))) there.2)

  mutual
    free_at : (v : Data) (q : List (List ℕ)) → data_at q d ≡ Some v → has_float v ≡ false
    free_at null q at = refl
    free_at (boolean b) q at = refl
    free_at (number n) q at = flat_free q (number n) at refl (x.nothing_else q (number n) at)
    free_at (string s) q at = refl
    free_at (array ds) q at = flat_free q (array ds) at refl (x.nothing_else q (array ds) at)
    free_at (object ms) q at =
        elim (ordered_or_free q ms at (x.nothing_else q (object ms) at)) [
          | inr free ↦ free
          | inl ordered ↦
              members_free ms q ordered (λ k u found. along q (k ∷ []) d ∙ ap (option_and_then (data_at (k ∷ []))) at ∙ ap (option_and_then (data_at [])) found)
        ]

    members_free : (ms : Members) (q : List (List ℕ)) → AreInOrder ms → ((k : List ℕ) (u : Data) → get_member k ms ≡ Some u → data_at (q ++ k ∷ []) d ≡ Some u)
        → members_have_float ms ≡ false
    members_free no_members q ordered at = refl
    members_free (member l e ms) q ordered at =
        neither (has_float e) (members_have_float ms) (free_at e (q ++ l ∷ []) (at l e (first_found l e ms)))
        (members_free ms q ordered.1 (λ k u found. at k u (found_behind l k e u ms ordered.0 found)))

  pub no_float : has_float d ≡ false
  no_float = free_at d [] refl

pub is_free : (form : Form) (look : Look) (d : Data) → IsJsonOfLook form look d → has_float d ≡ false
is_free form look d x = no_float form look d x
