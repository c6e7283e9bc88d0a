-- The variable that set a value, by JSON and by cells.
use Rattle.std.proofs.Common.{◌≡◌, ◌⊎◌, ℕ, List, [], ◌∷◌, ◌++◌, map, Option, Some, None, Bool, true, false, bytes_eq, true≢false, refl, sym, ap, ◌∙◌, subst}
use Rattle.std.specs.Prelude.{◌||◌, ◌&&◌, codes, if◌then◌else◌, is_some, option_and_then}
use Rattle.serde_json.specs.Data.{Data, Items, string, object, array, no_members}
use Rattle.serde_json.specs.Find.{as_null, as_str, get, get_member}
use Rattle.serde_json.specs.View.{items_of}
use Rattle.cc2_value.specs.Cells as cell
use Rattle.cc2_value.specs.Cells.{Key, field, name, KeyPath, Setting, Word, Origin, Cell, Single, Entry, Undecoded, key_text}
use Rattle.cc2_value.specs.Visits.{Look}
use Rattle.cc2_json.specs.Forms.{placed, setting_data, word_data, words_data, word_texts, first_origin, payload_data, cell_data, hides, redacted, told_at}
use Rattle.cc2_json.specs.Json.{is_bare, tree_data, put_branches, IsObjectOf}
use Rattle.cc2_json.specs.Reader.{is_token, texts, below, cell_json, IsUnshadowed, TokensAreValues}
use Rattle.cc2_json.specs.Trees.{is_place, fits, IsProper, AreProper, Tree, nothing, leaf, table, Branches, tree_at, branch_at}
use Rattle.cc2_json.proofs.Members.{none_some, some_same}
use Rattle.cc2_json.proofs.Branches.{tree_of, proper_of, told}
use Rattle.cc2_json.proofs.Leaves.{leaf_told}
use Rattle.cc2_json.proofs.Read.{seen, step, front, behind, whole, table_whole, found_front, fine_below, none_at, IsFine, IsFront}
use Rattle.cc2_json.proofs.Tokens.{is_array, TokensAreNoArrays}
use Rattle.cc2_json.specs.AtKey.{tells_place, is_origin, is_leaf, at_key}
use Rattle.cc2_lint_settings.specs.Keys.{set_variable, are_set, first_setter, cell_setter, IsSetAt, IsSetterOf}
use Rattle.cc2_lint_settings.specs.Setters.{variable_of, all_set, setter_of_items, setter_of, is_browser, setter_at}
use Rattle.cc2_lint_settings.specs.Settings.{with_origins}

-- the variable at a path of keys, that of the browser too
abbrev set_at : List (List ℕ) → Data → Option (List ℕ)
set_at path d = option_and_then setter_of (at_key true path d)

-- ---- cells

placed_variable : (o : Option Origin) (d : Data) → variable_of (placed true o d) ≡ set_variable o
placed_variable None d = refl
placed_variable (Some (cell.file path)) d = refl
placed_variable (Some (cell.variable v)) d = refl
placed_variable (Some (cell.command_line None)) d = refl
placed_variable (Some (cell.command_line (Some path))) d = refl

redacted_variable : (o : Option Origin) (d : Data) → variable_of (redacted true (placed true o d)) ≡ set_variable o
redacted_variable None d = refl
redacted_variable (Some (cell.file path)) d = refl
redacted_variable (Some (cell.variable v)) d = refl
redacted_variable (Some (cell.command_line None)) d = refl
redacted_variable (Some (cell.command_line (Some path))) d = refl

placed_leaf : (o : Option Origin) (d : Data) → is_leaf true (placed true o d) ≡ true
placed_leaf None d = refl
placed_leaf (Some (cell.file path)) d = refl
placed_leaf (Some (cell.variable v)) d = refl
placed_leaf (Some (cell.command_line None)) d = refl
placed_leaf (Some (cell.command_line (Some path))) d = refl

redacted_leaf : (o : Option Origin) (d : Data) → is_leaf true (redacted true (placed true o d)) ≡ true
redacted_leaf None d = refl
redacted_leaf (Some (cell.file path)) d = refl
redacted_leaf (Some (cell.variable v)) d = refl
redacted_leaf (Some (cell.command_line None)) d = refl
redacted_leaf (Some (cell.command_line (Some path))) d = refl

module _ {A : Type 0} (origin : A → Option Origin) (data_of : A → Data) where
  each : List A → Items
  each xs = items_of (map (λ a. placed true (origin a) (data_of a)) xs)

  all_same : (xs : List A) → all_set (items_of (map (λ a. placed true (origin a) (data_of a)) xs)) ≡ are_set (map origin xs)
  all_same [] = refl
  all_same (x ∷ xs) =
      ap (λ o. is_some o && all_set (items_of (map (λ a. placed true (origin a) (data_of a)) xs))) (placed_variable (origin x) (data_of x))
      ∙ ap (λ b. is_some (set_variable (origin x)) && b) (all_same xs)

  items_same : (xs : List A) → setter_of_items (items_of (map (λ a. placed true (origin a) (data_of a)) xs)) ≡ first_setter (map origin xs)
  items_same [] = refl
  items_same (x ∷ xs) =
      ap (λ b. if b then variable_of (placed true (origin x) (data_of x)) else None) (all_same xs)
      ∙ ap (λ o. if are_set (map origin xs) then o else None) (placed_variable (origin x) (data_of x))

-- no array has the key of a token
abbrev IsSingleAt : Key → Option Cell → Type 0
IsSingleAt k o = is_token k ≡ true → is_array o ≡ false

unhidden : (k : Key) → (is_token k ≡ true → ⊥) → hides with_origins k ≡ false
unhidden (name q) h = refl
unhidden (field q) h = go (bytes_eq q (codes "token")) h
  where
    go : (b : Bool) → (b ≡ true → ⊥) → b ≡ false
    go true h = absurd (h refl)
    go false h = refl

placed_set : (k : Key) (o : Option Origin) (d : Data) → setter_of (told_at with_origins k (placed true o d)) ≡ set_variable o
placed_set k o d = go (hides with_origins k)
  where
    go : (b : Bool) → setter_of (if b then redacted true (placed true o d) else placed true o d) ≡ set_variable o
    go true = redacted_variable o d
    go false = placed_variable o d

array_set : (k : Key) (ds : Items) → (is_token k ≡ true → ⊥) → setter_of (told_at with_origins k (array ds)) ≡ setter_of_items ds
array_set k ds h = ap (λ b. setter_of (if b then redacted true (array ds) else array ds)) (unhidden k h)

-- the variable that set a cell, by its JSON
cell_set : (k : Key) (c : Cell) (w : Data) → IsSingleAt k (Some c) → cell_json with_origins k (Some c) ≡ Some w → setter_of w ≡ cell_setter c
cell_set k (Single s) w single h = sym (ap setter_of (some_same _ w h)) ∙ placed_set k s.origin (payload_data s.payload)
cell_set k (cell.Text ws) w single h = sym (ap setter_of (some_same _ w h)) ∙ placed_set k (first_origin ws) (words_data false (word_texts ws))
cell_set k (cell.Items ws) w single h =
    sym (ap setter_of (some_same _ w h)) ∙ array_set k (items_of (map (word_data true) ws)) (λ is. true≢false (single is))
    ∙ items_same (λ (v : Word). v.origin) (λ (v : Word). string v.text) ws
cell_set k (cell.Joined ss) w single h =
    sym (ap setter_of (some_same _ w h)) ∙ array_set k (items_of (map (setting_data true) ss)) (λ is. true≢false (single is))
    ∙ items_same (λ (s : Setting). s.origin) (λ (s : Setting). payload_data s.payload) ss
cell_set k Entry w single h = absurd (none_some w h)
cell_set k Undecoded w single h = absurd (none_some w h)
cell_set k (cell.Marks flags doc_flags) w single h = absurd (none_some w h)

placed_ends : (k : Key) (o : Option Origin) (d : Data) (x : List ℕ) (xs : List (List ℕ)) → at_key true (x ∷ xs) (told_at with_origins k (placed true o d)) ≡ None
placed_ends k o d x xs = go (hides with_origins k)
  where
    go : (b : Bool) → at_key true (x ∷ xs) (if b then redacted true (placed true o d) else placed true o d) ≡ None
    go true = ap (λ b. if b then None else option_and_then (at_key true xs) (get x (redacted true (placed true o d)))) (redacted_leaf o d)
    go false = ap (λ b. if b then None else option_and_then (at_key true xs) (get x (placed true o d))) (placed_leaf o d)

array_ends : (k : Key) (ds : Items) (x : List ℕ) (xs : List (List ℕ)) → at_key true (x ∷ xs) (told_at with_origins k (array ds)) ≡ None
array_ends k ds x xs = go (hides with_origins k)
  where
    go : (b : Bool) → at_key true (x ∷ xs) (if b then redacted true (array ds) else array ds) ≡ None
    go true = refl
    go false = refl

-- no keys lead further from a cell
cell_ends : (k : Key) (c : Cell) (w : Data) (x : List ℕ) (xs : List (List ℕ)) → cell_json with_origins k (Some c) ≡ Some w → at_key true (x ∷ xs) w ≡ None
cell_ends k (Single s) w x xs h = ap (at_key true (x ∷ xs)) (sym (some_same _ w h)) ∙ placed_ends k s.origin (payload_data s.payload) x xs
cell_ends k (cell.Text ws) w x xs h = ap (at_key true (x ∷ xs)) (sym (some_same _ w h)) ∙ placed_ends k (first_origin ws) (words_data false (word_texts ws)) x xs
cell_ends k (cell.Items ws) w x xs h = ap (at_key true (x ∷ xs)) (sym (some_same _ w h)) ∙ array_ends k (items_of (map (word_data true) ws)) x xs
cell_ends k (cell.Joined ss) w x xs h = ap (at_key true (x ∷ xs)) (sym (some_same _ w h)) ∙ array_ends k (items_of (map (setting_data true) ss)) x xs
cell_ends k Entry w x xs h = absurd (none_some w h)
cell_ends k Undecoded w x xs h = absurd (none_some w h)
cell_ends k (cell.Marks flags doc_flags) w x xs h = absurd (none_some w h)

-- ---- a table isn't written where it was set

abbrev IsNoPlace : Data → Type 0
IsNoPlace d = (as_str d ≡ None) × (as_null d ≡ None)

told_shape : (k : Key) (d w : Data) → IsNoPlace d → told with_origins k (Some d) ≡ Some w → IsNoPlace w
told_shape (name q) d w plain h = subst IsNoPlace (some_same d w h) plain
told_shape (field q) d w plain h = go (is_bare d) (hides with_origins (field q)) h
  where
    go : (b c : Bool) → (if b then None else Some (if c then redacted true d else d)) ≡ Some w → IsNoPlace w
    go true c h = absurd (none_some w h)
    go false true h = subst IsNoPlace (some_same _ w h) (refl, refl)
    go false false h = subst IsNoPlace (some_same d w h) plain

shape : (t : Tree) (k : Key) (w : Data) → told with_origins k (tree_data with_origins t) ≡ Some w → IsNoPlace w
shape nothing k w h = absurd (none_at with_origins k w h)
shape (leaf (Single s)) k w h = told_shape k (setting_data true s) w (refl, refl) h
shape (leaf (cell.Text ws)) k w h = told_shape k (placed true (first_origin ws) (words_data false (word_texts ws))) w (refl, refl) h
shape (leaf (cell.Items ws)) k w h = told_shape k (array (items_of (map (word_data true) ws))) w (refl, refl) h
shape (leaf (cell.Joined ss)) k w h = told_shape k (array (items_of (map (setting_data true) ss))) w (refl, refl) h
shape (leaf Entry) k w h = told_shape k (object no_members) w (refl, refl) h
shape (leaf Undecoded) k w h = absurd (none_at with_origins k w h)
shape (leaf (cell.Marks flags doc_flags)) k w h = absurd (none_at with_origins k w h)
shape (table own bs) k w h = told_shape k (object (put_branches with_origins bs no_members)) w (refl, refl) h

-- nothing at a key of it, or no text
abbrev IsNoPlaceAt : List ℕ → Data → Type 0
IsNoPlaceAt q d = (f : Data) → get q d ≡ Some f → IsNoPlace f

-- no value has the key beside its origin
pub record IsApart (q : List ℕ) : Type 0 where
  pub of_redacted : (d : Data) → get q (redacted true d) ≡ None
  pub of_placed : (o : Option Origin) (d : Data) → get q (placed true o d) ≡ None

module _ (q : List ℕ) (off : IsApart q) where
  told_origin : (k : Key) (d w : Data) → IsNoPlaceAt q d → told with_origins k (Some d) ≡ Some w → IsNoPlaceAt q w
  told_origin (name j) d w plain h = subst (IsNoPlaceAt q) (some_same d w h) plain
  told_origin (field j) d w plain h = go (is_bare d) (hides with_origins (field j)) h
    where
      go : (b c : Bool) → (if b then None else Some (if c then redacted true d else d)) ≡ Some w → IsNoPlaceAt q w
      go true c h = absurd (none_some w h)
      go false true h = subst (IsNoPlaceAt q) (some_same _ w h) (λ f e. absurd (none_some f (sym (off.of_redacted d) ∙ e)))
      go false false h = subst (IsNoPlaceAt q) (some_same d w h) plain

  placed_origin : (k : Key) (o : Option Origin) (d w : Data) → told with_origins k (Some (placed true o d)) ≡ Some w → IsNoPlaceAt q w
  placed_origin k o d w h = told_origin k (placed true o d) w (λ f e. absurd (none_some f (sym (off.of_placed o d) ∙ e))) h

  no_place : (t : Tree) → IsProper t → (k : Key) (w : Data) → told with_origins k (tree_data with_origins t) ≡ Some w → IsNoPlaceAt q w
  no_place nothing proper k w h = absurd (none_at with_origins k w h)
  no_place (leaf (Single s)) proper k w h = placed_origin k s.origin (payload_data s.payload) w h
  no_place (leaf (cell.Text ws)) proper k w h = placed_origin k (first_origin ws) (words_data false (word_texts ws)) w h
  no_place (leaf (cell.Items ws)) proper k w h = told_origin k (array (items_of (map (word_data true) ws))) w (λ f e. absurd (none_some f e)) h
  no_place (leaf (cell.Joined ss)) proper k w h = told_origin k (array (items_of (map (setting_data true) ss))) w (λ f e. absurd (none_some f e)) h
  no_place (leaf Entry) proper k w h = told_origin k (object no_members) w (λ f e. absurd (none_some f e)) h
  no_place (leaf Undecoded) proper k w h = absurd (none_at with_origins k w h)
  no_place (leaf (cell.Marks flags doc_flags)) proper k w h = absurd (none_at with_origins k w h)
  no_place (table own bs) proper k w h =
      told_origin k (object (put_branches with_origins bs no_members)) w
      (λ f e. let found = found_front with_origins (tree_at (table own bs)) bs proper.1 (λ l. refl) q f e in shape (tree_of found.0 bs) found.0 f found.3) h

-- and so at each key of an origin
pub record IsNoOrigin (d : Data) : Type 0 where
  pub shape : IsNoPlace d
  pub file : IsNoPlaceAt (codes "file") d
  pub variable : IsNoPlaceAt (codes "variable") d
  pub command_line : IsNoPlaceAt (codes "command-line") d

no_origin : (t : Tree) → IsProper t → (k : Key) (w : Data) → told with_origins k (tree_data with_origins t) ≡ Some w → IsNoOrigin w
no_origin t proper k w h =
    record {
      shape = shape t k w h;
      file = no_place (codes "file") (record { of_redacted = λ d. refl; of_placed = λ o d. refl }) t proper k w h;
      variable = no_place (codes "variable") (record { of_redacted = λ d. refl; of_placed = λ o d. refl }) t proper k w h;
      command_line = no_place (codes "command-line") (record { of_redacted = λ d. refl; of_placed = λ o d. refl }) t proper k w h;
    }

not_place : (o : Option Data) → ((f : Data) → o ≡ Some f → IsNoPlace f) → tells_place o ≡ false
not_place None h = refl
not_place (Some f) h = ap (λ x. is_some x || is_some (as_null f)) (h f refl).0 ∙ ap is_some (h f refl).1

not_origin : (o : Option Data) → ((d : Data) → o ≡ Some d → IsNoOrigin d) → is_origin o ≡ false
not_origin None h = refl
not_origin (Some d) h =
    let is = h d refl in
    ap (λ x. is_some x || (tells_place (get (codes "file") d) || (tells_place (get (codes "variable") d) || tells_place (get (codes "command-line") d)))) is.shape.1
    ∙ ap (λ b. b || (tells_place (get (codes "variable") d) || tells_place (get (codes "command-line") d))) (not_place (get (codes "file") d) is.file)
    ∙ ap (λ b. b || tells_place (get (codes "command-line") d)) (not_place (get (codes "variable") d) is.variable)
    ∙ not_place (get (codes "command-line") d) is.command_line

no_variable : (o : Option Data) → ((d : Data) → o ≡ Some d → IsNoOrigin d) → option_and_then as_str (option_and_then (get (codes "variable")) o) ≡ None
no_variable None h = refl
no_variable (Some d) h = go (get (codes "variable") d) (h d refl).variable
  where
    go : (o : Option Data) → ((f : Data) → o ≡ Some f → IsNoPlace f) → option_and_then as_str o ≡ None
    go None h = refl
    go (Some f) h = (h f refl).0

module _ (look : Look) (bs : Branches) (proper : AreProper bs) (shows : (k : Key) → branch_at bs k ≡ below look k) where
  origin_member : (d : Data) → get_member (codes "origin") (put_branches with_origins bs no_members) ≡ Some d → IsNoOrigin d
  origin_member d e =
      let found = found_front with_origins look bs proper shows (codes "origin") d e in
      no_origin (tree_of found.0 bs) (proper_of bs proper found.0).0 found.0 d found.3

  table_no_leaf : is_leaf true (object (put_branches with_origins bs no_members)) ≡ false
  table_no_leaf = not_origin _ origin_member

  table_unset : setter_of (object (put_branches with_origins bs no_members)) ≡ None
  table_unset = no_variable _ origin_member

-- ---- from JSON to cells

abbrev IsSetIn : Look → List (List ℕ) → List ℕ → Type 0
IsSetIn look path by = (p : KeyPath) × IsUnshadowed with_origins look p × (texts p ≡ path) × (option_and_then cell_setter (look p) ≡ Some by)

-- a step down: what is at the member
stepped : (x : List ℕ) (xs : List (List ℕ)) (d : Data) (by : List ℕ) → option_and_then setter_of (at_key true (x ∷ xs) d) ≡ Some by
    → (w : Data) × (get x d ≡ Some w) × (set_at xs w ≡ Some by)
stepped x xs d by h = go (is_leaf true d) (get x d) h
  where
    go : (b : Bool) (o : Option Data) → option_and_then setter_of (if b then None else option_and_then (at_key true xs) o) ≡ Some by
        → (w : Data) × (o ≡ Some w) × (set_at xs w ≡ Some by)
    go true o h = absurd (none_some by h)
    go false None h = absurd (none_some by h)
    go false (Some w) h = (w, refl, h)

further : (look : Look) (l : Key) (x : List ℕ) (xs : List (List ℕ)) (by : List ℕ) → key_text l ≡ x → IsFront with_origins l look → IsSetIn (below look l) xs by → IsSetIn look (x ∷ xs) by
further look l x xs by same stands (p, standing, leads, set) =
    (l ∷ p, behind with_origins look l p stands standing, ap (λ y. y ∷ texts p) same ∙ ap (λ ys. x ∷ ys) leads, set)

abbrev IsSingleIn : Key → Look → Type 0
IsSingleIn k look = IsSingleAt k (look []) × TokensAreNoArrays look

single_below : (look : Look) → TokensAreNoArrays look → (l : Key) → IsSingleIn l (below look l)
single_below look single l = (λ is. single [] l is, λ p k is. single (l ∷ p) k is)

set_in : (path : List (List ℕ)) (t : Tree) → IsProper t → (k : Key) → fits k t ≡ true → IsFine with_origins k (tree_at t) → IsSingleIn k (tree_at t) → (w : Data) (by : List ℕ)
    → told with_origins k (tree_data with_origins t) ≡ Some w → set_at path w ≡ Some by → IsSetIn (tree_at t) path by
set_in path nothing proper k fit fine single w by is h = absurd (none_at with_origins k w is)
set_in [] (leaf c) proper k fit fine single w by is h =
    ([], tt, refl, sym (cell_set k c w single.0 (sym (leaf_told with_origins k c proper) ∙ is)) ∙ h)
set_in (x ∷ xs) (leaf c) proper k fit fine single w by is h =
    absurd (none_some by (sym (ap (option_and_then setter_of) (cell_ends k c w x xs (sym (leaf_told with_origins k c proper) ∙ is))) ∙ h))
set_in [] (table own bs) proper k fit fine single w by is h =
    absurd (none_some by (sym (ap setter_of (table_whole with_origins k own bs w proper.1 fine is) ∙ table_unset (tree_at (table own bs)) bs proper.1 (λ l. refl)) ∙ h))
set_in (x ∷ xs) (table own bs) proper k fit fine single w by is h =
    let look = tree_at (table own bs) in
    let on = stepped x xs (object (put_branches with_origins bs no_members)) by (sym (ap (λ d. set_at (x ∷ xs) d) (table_whole with_origins k own bs w proper.1 fine is)) ∙ h) in
    let found = found_front with_origins look bs proper.1 (λ l. refl) x on.0 on.1 in
    let good = proper_of bs proper.1 found.0 in
    let deep = subst (IsFine with_origins found.0) (seen bs found.0) (fine_below with_origins look fine.1 found.0) in
    let alone = subst (IsSingleIn found.0) (seen bs found.0) (single_below look single.1 found.0) in
    further look found.0 x xs by found.1 found.2
    (subst (λ y. IsSetIn y xs by) (sym (seen bs found.0)) (set_in xs (tree_of found.0 bs) good.0 found.0 good.1 deep alone on.0 by found.3 on.2))

-- ---- from cells to JSON

place_set : (own : Option Cell) (by : List ℕ) → is_place own ≡ true → option_and_then cell_setter own ≡ Some by → ⊥
place_set None by place h = none_some by h
place_set (Some (Single s)) by place h = true≢false (sym place)
place_set (Some (cell.Text ws)) by place h = true≢false (sym place)
place_set (Some (cell.Items ws)) by place h = true≢false (sym place)
place_set (Some (cell.Joined ss)) by place h = true≢false (sym place)
place_set (Some Entry) by place h = none_some by h
place_set (Some Undecoded) by place h = true≢false (sym place)
place_set (Some (cell.Marks flags doc_flags)) by place h = true≢false (sym place)

told_leaf : (k : Key) (c : Cell) (by : List ℕ) → cell_setter c ≡ Some by → (w : Data) × (cell_json with_origins k (Some c) ≡ Some w)
told_leaf k (Single s) by h = (_, refl)
told_leaf k (cell.Text ws) by h = (_, refl)
told_leaf k (cell.Items ws) by h = (_, refl)
told_leaf k (cell.Joined ss) by h = (_, refl)
told_leaf k Entry by h = absurd (none_some by h)
told_leaf k Undecoded by h = absurd (none_some by h)
told_leaf k (cell.Marks flags doc_flags) by h = absurd (none_some by h)

down : (x : List ℕ) (xs : List (List ℕ)) (d w : Data) → is_leaf true d ≡ false → get x d ≡ Some w → set_at (x ∷ xs) d ≡ set_at xs w
down x xs d w no_leaf found =
    ap (λ b. option_and_then setter_of (if b then None else option_and_then (at_key true xs) (get x d))) no_leaf
    ∙ ap (λ o. option_and_then setter_of (option_and_then (at_key true xs) o)) found

all_in : (p : KeyPath) (t : Tree) → IsProper t → (k : Key) → IsFine with_origins k (tree_at t) → IsSingleIn k (tree_at t) → (by : List ℕ) → IsUnshadowed with_origins (tree_at t) p
    → option_and_then cell_setter (tree_at t p) ≡ Some by → (w : Data) × (told with_origins k (tree_data with_origins t) ≡ Some w) × (set_at (texts p) w ≡ Some by)
all_in p nothing proper k fine single by stands h = absurd (none_some by h)
all_in [] (leaf c) proper k fine single by stands h =
    let w = told_leaf k c by h in (w.0, leaf_told with_origins k c proper ∙ w.1, cell_set k c w.0 single.0 w.1 ∙ h)
all_in (l ∷ r) (leaf c) proper k fine single by stands h = absurd (none_some by h)
all_in [] (table own bs) proper k fine single by stands h = absurd (place_set own by proper.0 h)
all_in (l ∷ r) (table own bs) proper k fine single by stands h =
    let look = tree_at (table own bs) in
    let both = front with_origins look l r stands in
    let deep = subst (IsFine with_origins l) (seen bs l) (fine_below with_origins look fine.1 l) in
    let alone = subst (IsSingleIn l) (seen bs l) (single_below look single.1 l) in
    let found = all_in r (tree_of l bs) (proper_of bs proper.1 l).0 l deep alone by (subst (λ y. IsUnshadowed with_origins y r) (seen bs l) both.1)
    (sym (ap (λ y. option_and_then cell_setter (y r)) (seen bs l)) ∙ h) in
    let here = step with_origins look bs proper.1 (λ m. refl) l found.0 both.0 found.1 in (
      object (put_branches with_origins bs no_members),
      whole with_origins k own bs proper.1 fine (key_text l) found.0 here,
      down (key_text l) (texts r) (object (put_branches with_origins bs no_members)) found.0 (table_no_leaf look bs proper.1 (λ m. refl)) here ∙ found.2,
    )

-- ---- the whole

outward : (look : Look) (l : Key) (x : List ℕ) (xs : List (List ℕ)) (by : List ℕ) → key_text l ≡ x → IsFront with_origins l look → IsSetIn (below look l) xs by → IsSetAt look (x ∷ xs) by
outward look l x xs by same stands (p, standing, leads, set) =
    (l, p, behind with_origins look l p stands standing, ap (λ y. y ∷ texts p) same ∙ ap (λ ys. x ∷ ys) leads, set)

module _ (look : Look) (values : TokensAreValues look) (single : TokensAreNoArrays look) (bs : Branches) (proper : AreProper bs) (shows : (k : Key) → branch_at bs k ≡ below look k) where
  same_look : (l : Key) → below look l ≡ tree_at (tree_of l bs)
  same_look l = sym (shows l) ∙ seen bs l

  sets : (path : List (List ℕ)) (by : List ℕ) → set_at path (object (put_branches with_origins bs no_members)) ≡ Some by → IsSetAt look path by
  sets [] by h = absurd (none_some by (sym (table_unset look bs proper shows) ∙ h))
  sets (x ∷ xs) by h =
      let on = stepped x xs (object (put_branches with_origins bs no_members)) by h in
      let found = found_front with_origins look bs proper shows x on.0 on.1 in
      let good = proper_of bs proper found.0 in
      let deep = subst (IsFine with_origins found.0) (same_look found.0) (fine_below with_origins look values found.0) in
      let alone = subst (IsSingleIn found.0) (same_look found.0) (single_below look single found.0) in
      outward look found.0 x xs by found.1 found.2
      (subst (λ y. IsSetIn y xs by) (sym (same_look found.0)) (set_in xs (tree_of found.0 bs) good.0 found.0 good.1 deep alone on.0 by found.3 on.2))

  all : (path : List (List ℕ)) (by : List ℕ) → IsSetAt look path by → set_at path (object (put_branches with_origins bs no_members)) ≡ Some by
  all path by (l, r, stands, leads, set) =
      let both = front with_origins look l r stands in
      let deep = subst (IsFine with_origins l) (same_look l) (fine_below with_origins look values l) in
      let alone = subst (IsSingleIn l) (same_look l) (single_below look single l) in
      let found = all_in r (tree_of l bs) (proper_of bs proper l).0 l deep alone by (subst (λ y. IsUnshadowed with_origins y r) (same_look l) both.1)
      (sym (ap (λ y. option_and_then cell_setter (y r)) (same_look l)) ∙ set) in
      let here = step with_origins look bs proper shows l found.0 both.0 found.1 in
      ap (λ q. set_at q (object (put_branches with_origins bs no_members))) (sym leads)
      ∙ down (key_text l) (texts r) (object (put_branches with_origins bs no_members)) found.0 (table_no_leaf look bs proper shows) here ∙ found.2

unbrowsed : (b : Bool) (o : Option (List ℕ)) (v : List ℕ) → (if b then None else o) ≡ Some v → (b ≡ false) × (o ≡ Some v)
unbrowsed true o v h = absurd (none_some v h)
unbrowsed false o v h = (refl, h)

-- what the JSON of a look says is what its cells do
pub by_cells : (look : Look) → TokensAreValues look → TokensAreNoArrays look → (d : Data) → IsObjectOf with_origins look d → IsSetterOf look (λ path. setter_at path d)
by_cells look values single d x =
    let shows : (k : Key) → branch_at x.branches k ≡ below look k = λ k. λ i p. x.shows k p i in
    record {
      sets = λ path by h.
          let plain = unbrowsed (is_browser path) (set_at path d) by h in
          (plain.0, sets look values single x.branches x.proper shows path by (sym (ap (set_at path) x.is) ∙ plain.1));
      all = λ path by unbrowsed set.
          ap (λ b. if b then None else set_at path d) unbrowsed ∙ ap (set_at path) x.is ∙ all look values single x.branches x.proper shows path by set;
    }
