-- Copies: with no origin they show the same, and the copies of the parts make that of the whole.
use Rattle.std.proofs.Common.{◌≡◌, ℕ, Bool, true, false, cond, List, [], ◌∷◌, ◌++◌, map, length, zero, suc, Option, Some, None, is_some, option_map, String, BTreeMap, Global, refl, sym, ap, ◌∙◌}
use Rattle.std.proofs.lemmas.List.{map-id}
use Rattle.std.specs.BTreeMap.{get_by_text}
use Rattle.std.specs.List.{slice_get}
use Rattle.std.specs.Str.{bytes_eq}
use Rattle.cc2_value.specs.Cells.{field, name, KeyPath, Origin, Word, Provider, builtin, token_from_stdout, plugin, maybe_alias, Payload, number}
use Rattle.cc2_value.specs.Cells.{truth, word, command, provider, Setting, Cell, Single, Text, Items, Joined, Entry, Undecoded, Marks}
use Rattle.cc2_value.specs.Copies.{words_set, provider_set, payload_set, is_builtin, setting_set, cell_set, IsCopied, IsSame}
use Rattle.cc2_value.specs.Shown.{Field, field_at, table_at, option_at, list_at, map_at}
use Rattle.cc2_value.specs.Visits.{FieldsCopied}
use Rattle.cc2_value.proofs.Built.{IsBuilt}

words_kept : (ws : List Word) → words_set None ws ≡ ws
words_kept ws = map-id ws

provider_kept : (p : Provider) → provider_set None p ≡ p
provider_kept (builtin n) = refl
provider_kept (token_from_stdout array path args) = ap (token_from_stdout array path) (words_kept args)
provider_kept (plugin array path args) = ap (plugin array path) (words_kept args)
provider_kept (maybe_alias w) = refl

payload_kept : (p : Payload) → payload_set None p ≡ p
payload_kept (number n) = refl
payload_kept (truth b) = refl
payload_kept (word text) = refl
payload_kept (command array path args) = ap (command array path) (words_kept args)
payload_kept (provider array p) = ap (provider array) (provider_kept p)

either_way : {A : Type 0} (b : Bool) (a : A) → cond b a a ≡ a
either_way true a = refl
either_way false a = refl

setting_kept : (s : Setting) → setting_set None s ≡ s
setting_kept s = rw (payload_kept s.payload, either_way (is_builtin s.payload) s.origin)

settings_kept : (ss : List Setting) → map (setting_set None) ss ≡ ss
settings_kept [] = refl
settings_kept (s ∷ ss) = rw (setting_kept s, settings_kept ss)

pub cell_kept : (c : Cell) → cell_set None c ≡ c
cell_kept (Single s) = ap Single (setting_kept s)
cell_kept (Text ws) = ap Text (words_kept ws)
cell_kept (Items ws) = ap Items (words_kept ws)
cell_kept (Joined ss) = ap Joined (settings_kept ss)
cell_kept Entry = refl
cell_kept Undecoded = refl
cell_kept (Marks b d) = refl

cells_kept : (c : Option Cell) → option_map (cell_set None) c ≡ c
cells_kept None = refl
cells_kept (Some c) = ap Some (cell_kept c)

-- a copy with no origin is the same
pub same_from_copy : {A : Type 0} (look : A → KeyPath → Option Cell) (x y : A) → IsCopied look None x y → IsSame look x y
same_from_copy look x y h p = h p ∙ cells_kept (look x p)

either_copied : (b : Bool) (origin : Option Origin) (u v x y : Option Cell) → x ≡ option_map (cell_set origin) u → y ≡ option_map (cell_set origin) v
    → cond b x y ≡ option_map (cell_set origin) (cond b u v)
either_copied true origin u v x y h k = h
either_copied false origin u v x y h k = k

field_copied : {A : Type 0} (fs : List (Field A)) (origin : Option Origin) (x y : A) → FieldsCopied fs origin x y
    → (k : List ℕ) (p : KeyPath) → field_at fs y k p ≡ option_map (cell_set origin) (field_at fs x k p)
field_copied [] origin x y h k p = refl
field_copied (f ∷ fs) origin x y h k p = either_copied (bytes_eq f.key k) origin _ _ _ _ (h.0 p) (field_copied fs origin x y h.1 k p)

-- a table whose fields are copied is copied
pub table_copied : {A : Type 0} (member : Bool) (fs : List (Field A)) (origin : Option Origin) (x y : A) → FieldsCopied fs origin x y → IsCopied (table_at member fs) origin x y
table_copied true fs origin x y h [] = refl
table_copied false fs origin x y h [] = refl
table_copied member fs origin x y h (field k ∷ p) = field_copied fs origin x y h k p
table_copied member fs origin x y h (name k ∷ p) = refl

module _ {V : Type 0} (look : V → KeyPath → Option Cell) (origin : Option Origin) where
  -- item by item, the second list is a copy of the first
  abbrev pub AreCopied : List V → List V → Type 0
  AreCopied [] [] = Unit {0}
  AreCopied [] (y ∷ ys) = ⊥
  AreCopied (x ∷ xs) [] = ⊥
  AreCopied (x ∷ xs) (y ∷ ys) = IsCopied look origin x y × AreCopied xs ys

  -- one item more
  pub copied_more : (xs ys : List V) (x y : V) → AreCopied xs ys → IsCopied look origin x y → AreCopied (xs ++ x ∷ []) (ys ++ y ∷ [])
  copied_more [] [] x y h k = (k, tt)
  copied_more [] (z ∷ ys) x y h k = absurd h
  copied_more (w ∷ xs) [] x y h k = absurd h
  copied_more (w ∷ xs) (z ∷ ys) x y h k = (h.0, copied_more xs ys x y h.1 k)

  pub length_copied : (xs ys : List V) → AreCopied xs ys → length ys ≡ length xs
  length_copied [] [] h = refl
  length_copied [] (y ∷ ys) h = absurd h
  length_copied (x ∷ xs) [] h = absurd h
  length_copied (x ∷ xs) (y ∷ ys) h = ap suc (length_copied xs ys h.1)

  item_copied : (xs ys : List V) (i : ℕ) (p : KeyPath) → AreCopied xs ys → option_at look (slice_get ys i) p ≡ option_map (cell_set origin) (option_at look (slice_get xs i) p)
  item_copied [] [] i p h = refl
  item_copied [] (z ∷ ys) i p h = absurd h
  item_copied (w ∷ xs) [] i p h = absurd h
  item_copied (w ∷ xs) (z ∷ ys) zero p h = h.0 p
  item_copied (w ∷ xs) (z ∷ ys) (suc i) p h = item_copied xs ys i p h.1

  -- a list whose items are copied is copied
  pub list_copied : (xs ys : List V) → AreCopied xs ys → IsCopied (list_at look) origin xs ys
  list_copied xs ys h [] = refl
  list_copied xs ys h (field k ∷ p) = refl
  list_copied xs ys h (name k ∷ p) = item_copied xs ys (length k) p h

  -- what a copy of a map shows of the entries done
  abbrev pub copy_seen : List ℕ → KeyPath → Option V → Option Cell
  copy_seen k p o = option_map (cell_set origin) (option_at look o p)

  -- all entries are copied
  pub map_copied : (m n : BTreeMap (String Global) V) → IsBuilt look copy_seen m.entries n → IsCopied (map_at look) origin m n
  map_copied m n built [] = refl
  map_copied m n built (field k ∷ p) = refl
  map_copied m n built (name k ∷ p) = sym (built k p)

-- a map's names, as cells
abbrev pub named_at : {V : Type 0} → V → KeyPath → Option Cell
named_at v p = Some Entry

abbrev pub name_seen : {V : Type 0} → List ℕ → KeyPath → Option V → Option Cell
name_seen k p o = option_at named_at o p

named_same : {V W : Type 0} (a : Option V) (b : Option W) → option_at named_at a [] ≡ option_at named_at b [] → is_some b ≡ is_some a
named_same None None h = refl
named_same None (Some w) h = cc
named_same (Some v) None h = cc
named_same (Some v) (Some w) h = refl

-- a map that is built of all entries of another has its names
pub names_copied : {V W : Type 0} (m : BTreeMap (String Global) V) (n : BTreeMap (String Global) W) → IsBuilt named_at name_seen m.entries n
    → (k : List ℕ) → is_some (get_by_text n k) ≡ is_some (get_by_text m k)
names_copied m n built k = named_same (get_by_text m k) (get_by_text n k) (built k [])
