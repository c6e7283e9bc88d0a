-- From the cells of its parts to those of a target table that is read.
use Rattle.std.proofs.Common.{codes, ◌≡◌, ◌≢◌, subst, arith, ℕ, Bool, List, [], ◌∷◌, ◌++◌, Option, Some, None, String, BTreeMap}
use Rattle.std.proofs.Common.{Global, refl, sym, ap, ◌∙◌, option_map, cond, string_bytes, true, false, inl, inr}
use Rattle.std.proofs.lemmas.Bool.{cases_Bool, false≢true}
use Rattle.std.specs.BTreeMap.{get_by_text, Updates}
use Rattle.std.specs.List.Sorted.{IsStrictlySortedBy}
use Rattle.std.specs.Map.{keys_of}
use Rattle.std.specs.String.{string_cmp}
use Rattle.toml.specs.Data.{Members, get_member}
use Rattle.toml.specs.View.{view, members_view, table_view}
use Rattle.toml.specs.declared.value.Value.{Value as TomlValue}
use Rattle.toml.proofs.Views.{Entry, view-lookup}
use Rattle.cc2_error.specs.Causes.{Refusal, refusal_of, memory}
use Rattle.cc2_error.specs.declared.error.Error.{Error}
use Rattle.cc2_value.specs.Cells.{field, name, KeyPath, Cell, Origin}
use Rattle.cc2_value.specs.Shown.{option_at}
use Rattle.cc2_value.specs.Ways.{Flaw, IsDecoded, IsFaultBehind}
use Rattle.cc2_value.proofs.Built.{IsBuilt, built_more}
use Rattle.cc2_value.proofs.Found.{found, same_keys, found_here, sorted_front, found_before, after_insert, same_bytes}
use Rattle.cc2_value.proofs.Taking.{AreSame, decoded_same, faults_same}
use Rattle.cc2_value.specs.Visits.{FieldsDecoded}
use Rattle.cc2_value.proofs.Decoded.{table_decoded}
use Rattle.cc2_target_table.specs.declared.target.TargetConfig.{TargetConfig}
use Rattle.cc2_target_table.specs.declared.target.Node.{Node}
use Rattle.cc2_target_table.specs.Target.{target_fields, target_at, node_at, mark_at}
use Rattle.cc2_target_table.specs.TargetReading.{is_field, own_faults, AreOwn, IsFaulty, if_sound, named_cell, member_cell, value_cell, read_target, IsKept, IsKeptOf}
use Rattle.cc2_target_table.proofs.Targets.{found_same}

-- a table whose fields and nested tables are read is read
pub target_read : (origin : Option Origin) (ms : Members) (t : TargetConfig) → FieldsDecoded target_fields origin ms t → IsKeptOf origin ms t.nested
    → IsDecoded target_at (λ p. read_target p origin (Some ms)) (own_faults (Some ms)) t
target_read origin ms t fields below = ((table_decoded false target_fields origin ms t fields).0, shown)
  where
    shown : (p : KeyPath) → target_at t p ≡ read_target p origin (Some ms)
    shown [] = refl
    shown (field k ∷ p) = (table_decoded false target_fields origin ms t fields).1 (field k ∷ p)
    shown (name k ∷ p) = found_same p (get_by_text t.nested k) ∙ sym (below k p)

-- the same of a value that is a table with these members
pub target_in : (origin : Option Origin) (o : Option Members) (ms : Members) (t : TargetConfig) → o ≡ Some ms
    → IsDecoded target_at (λ p. read_target p origin (Some ms)) (own_faults (Some ms)) t → IsDecoded target_at (λ p. read_target p origin o) (own_faults o) t
target_in origin o ms t is h = subst (λ (m : Option Members). IsDecoded target_at (λ p. read_target p origin m) (own_faults m) t) (sym is) h

-- what is kept of a table that is read, and of one that has a fault
pub kept_read : (p : KeyPath) (origin : Option Origin) (o : Option Members) (ms : Members) (t : TargetConfig) → o ≡ Some ms
    → IsDecoded target_at (λ p. read_target p origin (Some ms)) (own_faults (Some ms)) t
    → target_at t p ≡ if_sound (own_faults o) (read_target p origin o) (mark_at p)
kept_read p origin o ms t is h =
    h.1 p ∙ sym (ap (λ (fs : List Flaw). if_sound fs (read_target p origin (Some ms)) (mark_at p)) h.0)
    ∙ ap (λ (m : Option Members). if_sound (own_faults m) (read_target p origin m) (mark_at p)) (sym is)

marked : (fs : List Flaw) (sound mark : Option Cell) → IsFaulty fs → mark ≡ if_sound fs sound mark
marked [] sound mark h = absurd h
marked (f ∷ fs) sound mark h = refl

pub kept_mark : (p : KeyPath) (origin : Option Origin) (o : Option Members) (ms : Members) → o ≡ Some ms → IsFaulty (own_faults (Some ms))
    → mark_at p ≡ if_sound (own_faults o) (read_target p origin o) (mark_at p)
kept_mark p origin o ms is h =
    marked (own_faults (Some ms)) (read_target p origin (Some ms)) (mark_at p) h
    ∙ ap (λ (m : Option Members). if_sound (own_faults m) (read_target p origin m) (mark_at p)) (sym is)

-- what refuses a table, and is not out of memory, is a fault of it
pub fault_there : (flaws : List Flaw) (e : Error) → IsFaultBehind [] flaws e → ((refusal_of e).cause ≢ memory) → IsFaulty flaws
fault_there [] e (inl is) other = absurd (other (ap (λ (r : Refusal). r.cause) is))
fault_there [] e (inr (f, (i, lt, is), says)) other = absurd (omega (arith, lt))
fault_there (f ∷ fs) e h other = tt

module _ (origin : Option Origin) where
  -- what the entries done leave at a key
  abbrev pub entry_seen : List ℕ → KeyPath → Option TomlValue → Option Cell
  entry_seen k p o = named_cell k p (read_target p origin) (option_map view o)

  abbrev pub IsReadSoFar : List Entry → BTreeMap (String Global) Node → Type 0
  IsReadSoFar done m = IsBuilt node_at entry_seen done m

  neither : (b : Bool) → ◌≡◌ {A = Option Cell} (cond b None None) None
  neither true = refl
  neither false = refl

  pub read_start : (m : BTreeMap (String Global) Node) → m.entries ≡ [] → IsReadSoFar [] m
  read_start m empty k p = neither (is_field k) ∙ ap (λ es. option_at node_at (found k es) p) (sym empty)

  -- one entry more, whose key gets w
  pub read_more : (done : List Entry) (e : Entry) (more : List Entry) (m n : BTreeMap (String Global) Node) (key : String Global) (w : Node)
      → IsStrictlySortedBy string_cmp (keys_of (done ++ e ∷ more)) → string_bytes key ≡ string_bytes e.0 → is_field (string_bytes e.0) ≡ false
      → Updates string_cmp m n key (Some w) → IsKept origin (view e.1) w
      → IsReadSoFar done m → IsReadSoFar (done ++ e ∷ []) n
  read_more done e more m n key w sorted named free inserted kept so_far =
      built_more node_at entry_seen done e more m n key w sorted named inserted
      (λ p. ap (λ b. cond b None (value_cell p (read_target p origin) (view e.1))) free ∙ sym (kept p)) so_far

  -- one entry more, whose key is a field's
  pub read_past : (done : List Entry) (e : Entry) (m : BTreeMap (String Global) Node) → is_field (string_bytes e.0) ≡ true
      → IsReadSoFar done m → IsReadSoFar (done ++ e ∷ []) m
  read_past done e m own so_far k p =
      elim (same_keys k (string_bytes e.0)) [
        | inl same ↦
            let own_key : is_field k ≡ true = ap is_field same ∙ own in
            let nothing : (o : Option TomlValue) → entry_seen k p o ≡ None = λ o. ap (λ b. cond b None (member_cell p (read_target p origin) (option_map view o))) own_key in
            nothing (found k (done ++ e ∷ [])) ∙ sym (nothing (found k done)) ∙ so_far k p
        | inr (apart, apart') ↦ ap (entry_seen k p) (found_before k done e apart) ∙ so_far k p
      ]

  -- all entries are those of the table
  pub read_all : (es : List Entry) (m : BTreeMap (String Global) Node) → IsReadSoFar es m → IsKeptOf origin (members_view es) m
  read_all es m so_far k p = ap (named_cell k p (read_target p origin)) (sym (view-lookup k es)) ∙ so_far k p

-- the fields' values among the entries done
abbrev pub IsOwnSoFar : List Entry → BTreeMap (String Global) TomlValue → Type 0
IsOwnSoFar done own = (k : List ℕ) → get_by_text own k ≡ cond (is_field k) (found k done) None

none_either : (b : Bool) → ◌≡◌ {A = Option TomlValue} None (cond b None None)
none_either true = refl
none_either false = refl

pub own_start : (own : BTreeMap (String Global) TomlValue) → own.entries ≡ [] → IsOwnSoFar [] own
own_start own empty k = ap (found k) empty ∙ none_either (is_field k)

-- a field's value more
pub own_more : (done : List Entry) (e : Entry) (more : List Entry) (m n : BTreeMap (String Global) TomlValue)
    → IsStrictlySortedBy string_cmp (keys_of (done ++ e ∷ more)) → is_field (string_bytes e.0) ≡ true
    → Updates string_cmp m n e.0 (Some e.1) → IsOwnSoFar done m → IsOwnSoFar (done ++ e ∷ []) n
own_more done e more m n sorted own updates so_far k =
    let bs = string_bytes e.0 in
    elim (same_keys k bs) [
      | inl same ↦
          let here : found bs (done ++ e ∷ []) ≡ Some e.1 = found_here done e [] (sorted_front done e more sorted) in
          let got : get_by_text n bs ≡ Some e.1 = after_insert e.0 e.1 m n updates bs ∙ ap (λ b. cond b (Some e.1) (get_by_text m bs)) (same_bytes bs) in
          ap (get_by_text n) same ∙ got ∙ sym (ap (λ b. cond b (found bs (done ++ e ∷ [])) None) own ∙ here)
          ∙ ap (λ q. cond (is_field q) (found q (done ++ e ∷ [])) None) (sym same)
      | inr (apart, apart') ↦
          after_insert e.0 e.1 m n updates k ∙ ap (λ b. cond b (Some e.1) (get_by_text m k)) apart' ∙ so_far k
          ∙ ap (λ o. cond (is_field k) o None) (sym (found_before k done e apart))
    ]

-- one entry more, whose key is no field's
pub own_past : (done : List Entry) (e : Entry) (m : BTreeMap (String Global) TomlValue) → is_field (string_bytes e.0) ≡ false → IsOwnSoFar done m → IsOwnSoFar (done ++ e ∷ []) m
own_past done e m free so_far k =
    elim (same_keys k (string_bytes e.0)) [
      | inl same ↦
          let none : is_field k ≡ false = ap is_field same ∙ free in
          so_far k ∙ ap (λ b. cond b (found k done) None) none ∙ ap (λ b. cond b (found k (done ++ e ∷ [])) None) (sym none)
      | inr (apart, apart') ↦ so_far k ∙ ap (λ o. cond (is_field k) o None) (sym (found_before k done e apart))
    ]

-- the entries done have fields' keys alone
abbrev pub AreFields : List Entry → Type 0
AreFields done = (k : List ℕ) → is_field k ≡ false → found k done ≡ None

pub fields_more : (done : List Entry) (e : Entry) → is_field (string_bytes e.0) ≡ true → AreFields done → AreFields (done ++ e ∷ [])
fields_more done e own so_far k free =
    elim (same_keys k (string_bytes e.0)) [
      | inl same ↦ absurd (false≢true (sym free ∙ ap is_field same ∙ own))
      | inr (apart, apart') ↦ found_before k done e apart ∙ so_far k free
    ]

-- a table that has fields alone is its own, and has nothing nested
module _ (table : BTreeMap (String Global) TomlValue) (fields : AreFields table.entries) where
  pub own_alone : AreOwn table table
  own_alone k =
      elim (cases_Bool (is_field k)) [
        | inl own ↦ ap (λ b. cond b (get_by_text table k) None) (sym own)
        | inr free ↦ fields k free ∙ ap (λ b. cond b (get_by_text table k) None) (sym free)
      ]

  pub nothing_nested : (origin : Option Origin) (m : BTreeMap (String Global) Node) → m.entries ≡ [] → IsKeptOf origin (table_view table) m
  nothing_nested origin m empty k p =
      let none : None ≡ option_at node_at (get_by_text m k) p = ap (λ es. option_at node_at (found k es) p) (sym empty) in
      let cell = member_cell p (read_target p origin) (get_member k (table_view table)) in
      elim (cases_Bool (is_field k)) [
        | inl own ↦ ap (λ b. cond b None cell) own ∙ none
        | inr free ↦
            ap (λ b. cond b None cell) free
            ∙ ap (member_cell p (read_target p origin)) (sym (view-lookup k table.entries) ∙ ap (option_map view) (fields k free)) ∙ none
      ]

module _ (table own : BTreeMap (String Global) TomlValue) (h : AreOwn table own) where
  own_at : (k : List ℕ) → is_field k ≡ true → get_member k (table_view own) ≡ get_member k (table_view table)
  own_at k is = sym (view-lookup k own.entries) ∙ ap (option_map view) (h k ∙ ap (λ b. cond b (get_by_text table k) None) is) ∙ view-lookup k table.entries

  same_fields : AreSame target_fields (table_view own) (table_view table)
  same_fields = (own_at (codes "linker") refl, (own_at (codes "runner") refl, (own_at (codes "rustflags") refl, (own_at (codes "rustdocflags") refl, tt))))

  -- what is read of them is read of the table
  pub own_read : (origin : Option Origin) (t : TargetConfig) → FieldsDecoded target_fields origin (table_view own) t → FieldsDecoded target_fields origin (table_view table) t
  own_read origin t read = decoded_same target_fields origin (table_view own) (table_view table) t same_fields read

  pub own_same_faults : own_faults (Some (table_view own)) ≡ own_faults (Some (table_view table))
  own_same_faults = faults_same target_fields (table_view own) (table_view table) same_fields
