-- Values of the table `env`.
use Rattle.std.proofs.Common.{◌≡◌, ℕ, Bool, true, false, cond, List, [], ◌∷◌, ◌++◌, codes, Option, Some, None, option_map, String, Global, string_bytes, refl, sym, ap, subst, ◌∙◌, inl, inr}
use Rattle.std.proofs.lemmas.List.Elements.{Contains-append_left}
use Rattle.toml.specs.Data.{Data, Members, get_member, as_str}
use Rattle.cc2_error.specs.declared.error.Error.{Error}
use Rattle.std.specs.Str.{bytes_eq}
use Rattle.cc2_value.specs.Cells.{field, name, KeyPath, Cell, Origin, IsPointwise, word}
use Rattle.cc2_value.specs.Gathered.{reversed, HasNoList, IsReversed}
use Rattle.cc2_value.specs.Shown.{entry_at, field_at}
use Rattle.cc2_value.specs.Values.{setting_of}
use Rattle.cc2_value.specs.Ways.{Flaw, ill_typed, cells_in, faults_in, below, read_at, missing, plain_cell, IsDecoded, IsFaultBehind}
use Rattle.cc2_value.specs.declared.value.Value.{Value}
use Rattle.cc2_value.proofs.Tables.{table_joined, kept}
use Rattle.cc2_value.specs.Reading.{table_cells, table_faults, fields_faults}
use Rattle.cc2_value.specs.Singles.{text_way, text_value, truth_value}
use Rattle.cc2_leaf.specs.Env.{env_fields, env_at, env_cells, env_faults, missing_value}
use Rattle.cc2_leaf.specs.declared.env.EnvTable.{EnvTable}
use Rattle.cc2_leaf.specs.declared.env.EnvConfigValue.TheVariants as variable

pub tables_joined : (v w : Value (String Global)) (f f' r r' x y : Option (Value Bool)) → IsPointwise truth_value (f ∷ f' ∷ []) x → IsPointwise truth_value (r ∷ r' ∷ []) y
    → IsPointwise env_at (variable.Table v f r ∷ variable.Table w f' r' ∷ []) (variable.Table v x y)
tables_joined v w f f' r r' x y h k =
    let a : EnvTable = record { value = Some v; force = f; relative = r } in
    let b : EnvTable = record { value = Some w; force = f'; relative = r' } in
    let c : EnvTable = record { value = Some v; force = x; relative = y } in
    table_joined true env_fields a b c (kept (setting_of (λ s. word (string_bytes s))) v w, (h, (k, tt)))

has_value : (origin : Option Origin) (m : Option Data) (c : Cell) → Some c ≡ cells_in text_way origin m [] → missing_value m ≡ []
has_value origin None c h = cc
has_value origin (Some d) c h = refl

table_read : (origin : Option Origin) (s : Option (List ℕ)) (m : Option Members) (v : Value (String Global)) (f r : Option (Value Bool)) → s ≡ None
    → IsDecoded (entry_at env_fields) (table_cells true env_fields origin m) (table_faults env_fields m) (record { value = Some v; force = f; relative = r })
    → IsDecoded env_at (env_cells origin s m) (env_faults s m) (variable.Table v f r)
table_read origin (Some text) m v f r e h = cc
table_read origin None None v f r e h = cc (h.0)
table_read origin None (Some ms) v f r e h =
    (ap (λ fs. fs ++ missing_value (get_member (codes "value") ms)) h.0 ∙ has_value origin (get_member (codes "value") ms) _ (h.1 (field (codes "value") ∷ [])), h.1)

no_text : (origin : Option Origin) (s : Option (List ℕ)) (d : Data) (rest : List Flaw)
    → None ≡ read_at (plain_cell (λ x. x) origin) (option_map word s) []
    → below (field (codes "value")) (missing (option_map word s)) ++ rest ≡ []
    → missing_value (Some d) ≡ (field (codes "value") ∷ [], ill_typed) ∷ []
no_text origin None d rest h k = cc
no_text origin (Some t) d rest h k = cc

no_value : (origin : Option Origin) (m : Option Data) (rest : List Flaw) → None ≡ cells_in text_way origin m [] → below (field (codes "value")) (faults_in text_way m) ++ rest ≡ []
    → missing_value m ≡ (field (codes "value") ∷ [], ill_typed) ∷ []
no_value origin None rest h k = refl
no_value origin (Some d) rest h k = no_text origin (as_str d) d rest h k

valueless : (keys : List (List ℕ)) (origin : Option Origin) (s : Option (List ℕ)) (m : Option Members) (f r : Option (Value Bool)) (e : Error) → s ≡ None
    → IsDecoded (entry_at env_fields) (table_cells true env_fields origin m) (table_faults env_fields m) (record { value = None; force = f; relative = r })
    → IsFaultBehind keys ((field (codes "value") ∷ [], ill_typed) ∷ []) e → IsFaultBehind keys (env_faults s m) e
valueless keys origin (Some text) m f r e is h k = cc
valueless keys origin None None f r e is h k = cc (h.0)
valueless keys origin None (Some ms) f r e is h k =
    subst (λ (flaws : List Flaw). IsFaultBehind keys flaws e)
    (sym (ap (λ fs. fs ++ missing_value (get_member (codes "value") ms)) h.0 ∙ no_value origin (get_member (codes "value") ms) _ (h.1 (field (codes "value") ∷ [])) h.0)) k

-- what refuses the table refuses the variable
pub table_refused : (keys : List (List ℕ)) (s : Option (List ℕ)) (m : Option Members) (e : Error) → s ≡ None → IsFaultBehind keys (table_faults env_fields m) e → IsFaultBehind keys (env_faults s m) e
table_refused keys (Some text) m e is h = cc
table_refused keys None None e is h = h
table_refused keys None (Some ms) e is (inl m) = inl m
table_refused keys None (Some ms) e is (inr h) = inr (h.0, Contains-append_left (fields_faults env_fields ms) (missing_value (get_member (codes "value") ms)) h.0 h.1, h.2)

abbrev IsTable : Option Origin → Option Members → EnvTable → Type 0
IsTable origin m t = IsDecoded (entry_at env_fields) (table_cells true env_fields origin m) (table_faults env_fields m) t

abbrev with_value : EnvTable → Option (Value (String Global)) → EnvTable
with_value t o = record { value = o; force = t.force; relative = t.relative }

-- a table that was read and has a value is the value of a variable
pub value_found : (origin : Option Origin) (s : Option (List ℕ)) (m : Option Members) (t : EnvTable) (v : Value (String Global)) → s ≡ None → t.value ≡ Some v
    → IsDecoded (entry_at env_fields) (table_cells true env_fields origin m) (table_faults env_fields m) t
    → IsDecoded env_at (env_cells origin s m) (env_faults s m) (variable.Table v t.force t.relative)
value_found origin s m t v e is h = table_read origin s m v t.force t.relative e (subst (λ (u : EnvTable). IsTable origin m u) (ap (with_value t) is) h)

-- a table that was read and has none is refused
pub value_missed : (keys : List (List ℕ)) (origin : Option Origin) (s : Option (List ℕ)) (m : Option Members) (t : EnvTable) (e : Error) → s ≡ None → t.value ≡ None
    → IsDecoded (entry_at env_fields) (table_cells true env_fields origin m) (table_faults env_fields m) t
    → IsFaultBehind keys ((field (codes "value") ∷ [], ill_typed) ∷ []) e → IsFaultBehind keys (env_faults s m) e
value_missed keys origin s m t e none is h k = valueless keys origin s m t.force t.relative e none (subst (λ (u : EnvTable). IsTable origin m u) (ap (with_value t) is) h) k

-- a value of a variable shows no list
truth_unlisted : (o : Option (Value Bool)) (p : KeyPath) → option_map reversed (truth_value o p) ≡ truth_value o p
truth_unlisted None p = refl
truth_unlisted (Some b) [] = refl
truth_unlisted (Some b) (k ∷ p) = refl

word_unlisted : (o : Option (Value (String Global))) (p : KeyPath) → option_map reversed (text_value o p) ≡ text_value o p
word_unlisted None p = refl
word_unlisted (Some v) [] = refl
word_unlisted (Some v) (k ∷ p) = refl

either_unlisted : (b : Bool) (u v : Option Cell) → option_map reversed u ≡ u → option_map reversed v ≡ v → option_map reversed (cond b u v) ≡ cond b u v
either_unlisted true u v h k = h
either_unlisted false u v h k = k

fields_unlisted : (t : EnvTable) (k : List ℕ) (p : KeyPath) → option_map reversed (field_at env_fields t k p) ≡ field_at env_fields t k p
fields_unlisted t k p =
    either_unlisted (bytes_eq (codes "value") k) _ _ (word_unlisted t.value p)
    (either_unlisted (bytes_eq (codes "force") k) _ _ (truth_unlisted t.force p)
    (either_unlisted (bytes_eq (codes "relative") k) _ _ (truth_unlisted t.relative p) refl))

pub unlisted : HasNoList env_at
unlisted (variable.Value v) [] = refl
unlisted (variable.Value v) (k ∷ p) = refl
unlisted (variable.Table v f r) [] = refl
unlisted (variable.Table v f r) (name k ∷ p) = refl
unlisted (variable.Table v f r) (field k ∷ p) = fields_unlisted (record { value = Some v; force = f; relative = r }) k p

pub same_reversed : (e : _) → IsReversed env_at e e
same_reversed e p = sym (unlisted e p)
