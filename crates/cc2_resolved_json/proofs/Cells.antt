-- The JSON of what is one cell, of variables and of maps.
use Rattle.std.proofs.Common.{◌≡◌, ◌==◌, ℕ, suc, length, Bool, true, false, cond, List, [], ◌∷◌, map, Option, Some}
use Rattle.std.proofs.Common.{None, option_map, Result, Ok, Err, IfOk, String, BTreeMap, Global, refl, sym, ap, subst, ◌∙◌, string_bytes, arith}
use Rattle.std.proofs.lemmas.Bool.{false≢true, true≢false, eqb-true}
use Rattle.std.specs.BTreeMap.{get_by_text}
use Rattle.std.specs.Prelude.{codes}
use Rattle.std.specs.Str.{bytes_eq}
use Rattle.std.specs.declared.alloc.AllocError.{AllocError}
use Rattle.serde_json.specs.Data.{string, array}
use Rattle.serde_json.specs.View.{view, items_of}
use Rattle.serde_json.specs.declared.value.Value.{Value}
use Rattle.cc2_value.specs.Cells.{Key, field, name, KeyPath, is_entry, Single, Items, Payload, truth, word, Word, Origin}
use Rattle.cc2_value.specs.Shown.{single_at, option_at, map_at}
use Rattle.cc2_value.specs.Values.{origin_of, setting_of}
use Rattle.cc2_value.specs.Visits.{Look}
use Rattle.cc2_value.specs.declared.value.Value as placed
use Rattle.cc2_leaf.specs.Env.{env_at}
use Rattle.cc2_leaf.specs.declared.env.EnvConfigValue.TheVariants as variable
use Rattle.cc2_json.specs.Forms.{cell_data, setting_data, word_data, word_texts, words_data}
use Rattle.cc2_json.specs.Json.{IsJsonOf}
use Rattle.cc2_json.specs.Trees.{nothing, leaf, tree_at}
use Rattle.cc2_json.specs.declared.form.Form.{Form}
use Rattle.cc2_resolved.specs.Providers.{provider_of, providers_in}
use Rattle.cc2_resolved.specs.declared.env.EnvConfigValue.{EnvConfigValue}
use Rattle.cc2_resolved.specs.declared.provider.CredentialProvider.{CredentialProvider}
use Rattle.cc2_resolved.specs.Answers as answer
use Rattle.cc2_resolved.specs.Answers.{Answer, single, texts, command, provider, targets, entry, providers, shown_at, listed_providers}
use Rattle.cc2_resolved.specs.Env.{variable_shown}
use Rattle.cc2_resolved.specs.Rows.{names_at, option_shown}
use Rattle.cc2_resolved_json.specs.Plain.{as_variable, bare_words, cell_of, plain_at, provider_setting, set_nowhere, value_at, variable_or, without_origins}

-- nothing shows nothing
pub plain_none : (p : KeyPath) → plain_at (λ q. None) p ≡ None
plain_none [] = refl
plain_none (k ∷ p) = plain_none p

pub shown_none : (p : KeyPath) → plain_at (shown_at None) p ≡ None
shown_none [] = refl
shown_none (k ∷ p) = plain_none p

-- a table of the answers is an entry
no_variable : (a : Answer) → is_entry (cell_of a) ≡ false → as_variable (Some a) ≡ None
no_variable (single payload) whole = refl
no_variable (texts ts) whole = refl
no_variable (command c) whole = refl
no_variable (provider q) whole = refl
no_variable (providers ps) whole = refl
no_variable (targets ts) whole = refl
no_variable entry whole = refl
no_variable (answer.variable v) whole = absurd (true≢false whole)

-- nothing is below a value
pub whole_below : (a : Answer) → is_entry (cell_of a) ≡ false → (k : Key) (p : KeyPath) → plain_at (shown_at (Some a)) (k ∷ p) ≡ None
whole_below a whole k p = ap (λ v. variable_or v k p (plain_at (λ q. None) p)) (no_variable a whole) ∙ plain_none p

-- the JSON of equal cells
pub along : (form : Form) (u v : Look) (json : Option Value) → ((p : KeyPath) → u p ≡ v p) → IsJsonOf form u json → IsJsonOf form v json
along form u v json e h = record { tree = h.tree; of = record { proper = h.of.proper; shows = λ p. h.of.shows p ∙ e p }; is = h.is }

module _ (tokens : Bool) where
  none_json : IsJsonOf (without_origins tokens) (plain_at (shown_at None)) None
  none_json = record { tree = nothing; of = record { proper = tt; shows = λ p. sym (shown_none p) }; is = refl }

  -- an answer that is no table
  pub answer_json : (a : Answer) (json : Value) → is_entry (cell_of a) ≡ false → Some (view json) ≡ cell_data false (cell_of a)
      → IsJsonOf (without_origins tokens) (plain_at (shown_at (Some a))) (Some json)
  answer_json a json whole is = record { tree = leaf (cell_of a); of = record { proper = whole; shows = at }; is = is }
    where
      at : (p : KeyPath) → tree_at (leaf (cell_of a)) p ≡ plain_at (shown_at (Some a)) p
      at [] = refl
      at (k ∷ p) = sym (whole_below a whole k p)

  -- a setting that isn't there
  pub unset_json : {A : Type 0} (answered : A → Answer) (o : Option A) → o ≡ None → IsJsonOf (without_origins tokens) (plain_at (shown_at (option_map answered o))) None
  unset_json answered o is = subst (λ o. IsJsonOf (without_origins tokens) (plain_at (shown_at (option_map answered o))) None) (sym is) none_json

  -- a setting that is there
  pub set_json : {A : Type 0} (answered : A → Answer) (o : Option A) (a : A) (json : Value) → o ≡ Some a → is_entry (cell_of (answered a)) ≡ false
      → Some (view json) ≡ cell_data false (cell_of (answered a)) → IsJsonOf (without_origins tokens) (plain_at (shown_at (option_map answered o))) (Some json)
  set_json answered o a json is whole told =
      subst (λ o. IsJsonOf (without_origins tokens) (plain_at (shown_at (option_map answered o))) (Some json)) (sym is) (answer_json (answered a) json whole told)

  pub no_providers : (ps : List CredentialProvider) → (length ps == 0) ≡ true → IsJsonOf (without_origins tokens) (plain_at (shown_at (listed_providers (providers_in ps)))) None
  no_providers [] none = none_json
  no_providers (c ∷ ps) none = absurd (omega (arith, eqb-true (suc (length ps)) 0 none))

  pub some_providers : (ps : List CredentialProvider) (json : Value) → (length ps == 0) ≡ false
      → view json ≡ array (items_of (map (setting_data false) (map provider_setting (providers_in ps))))
      → IsJsonOf (without_origins tokens) (plain_at (shown_at (listed_providers (providers_in ps)))) (Some json)
  some_providers [] json some is = absurd (false≢true (sym some))
  some_providers (c ∷ ps) json some is = answer_json (providers (provider_of c ∷ providers_in ps)) json refl (ap Some is)

-- an array of words that are set nowhere is one of their texts
words_same : (ws : List Word) → map (word_data false) ws ≡ map string (word_texts ws)
words_same [] = refl
words_same (w ∷ ws) = ap (λ ds. string w.text ∷ ds) (words_same ws)

pub items_json : (told ts : List (List ℕ)) (r : Result Value AllocError) → told ≡ word_texts (bare_words ts) → IfOk r (λ json. view json ≡ words_data true told)
    → IfOk r (λ json. Some (view json) ≡ cell_data false (Items (bare_words ts)))
items_json told ts (Ok json) e h = ap Some (h ∙ ap (λ us. array (items_of (map string us))) e ∙ ap (λ ds. array (items_of ds)) (sym (words_same (bare_words ts))))
items_json told ts (Err refused) e h = h

-- what holds of an Ok holds of all that shows the same
pub if_along : (form : Form) (u v : Look) (r : Result (Option Value) AllocError) → ((p : KeyPath) → u p ≡ v p) → IfOk r (IsJsonOf form u) → IfOk r (IsJsonOf form v)
if_along form u v (Ok json) e h = along form u v json e h
if_along form u v (Err refused) e h = h

-- a cell of a value that is set nowhere
bare_cell : (x y : Payload) (o : Option Origin) → x ≡ y → o ≡ None → Single (record { payload = x; origin = o }) ≡ Single (set_nowhere y)
bare_cell x y o e d = ap (λ z. Single (record { payload = z; origin = o })) e ∙ ap (λ r. Single (record { payload = y; origin = r })) d

value_same : {T : Type 0} (payload : T → Payload) (v : placed.Value T) (x : Payload) → payload v.val ≡ x → v.definition ≡ None → (p : KeyPath) → single_at (setting_of payload) v p ≡ value_at x p
value_same payload v x e d [] = ap Some (bare_cell (payload v.val) x (option_map origin_of v.definition) e (ap (option_map origin_of) d))
value_same payload v x e d (k ∷ p) = refl

either : {A : Type 0} (b : Bool) (x y u v : A) → x ≡ y → u ≡ v → cond b x u ≡ cond b y v
either true x y u v h k = h
either false x y u v h k = k

module _ (v : EnvConfigValue) (value : placed.Value (String Global)) (force relative : placed.Value Bool) where
  -- what a table of these values shows is what the variable does
  pub variable_same : string_bytes value.val ≡ string_bytes v.value → value.definition ≡ None → force.val ≡ v.force → force.definition ≡ None → relative.val ≡ v.relative
      → relative.definition ≡ None → (p : KeyPath) → env_at (variable.Table value (Some force) (Some relative)) p ≡ plain_at (variable_shown v) p
  variable_same text nowhere forced nowhere' is_relative nowhere'' [] = refl
  variable_same text nowhere forced nowhere' is_relative nowhere'' (field k ∷ p) =
      either (bytes_eq (codes "value") k) _ _ _ _ (value_same (λ s. word (string_bytes s)) value (word (string_bytes v.value)) (ap word text) nowhere p)
      (either (bytes_eq (codes "force") k) _ _ _ _ (value_same truth force (truth v.force) (ap truth forced) nowhere' p)
      (either (bytes_eq (codes "relative") k) _ _ _ _ (value_same truth relative (truth v.relative) (ap truth is_relative) nowhere'' p) refl))
  variable_same text nowhere forced nowhere' is_relative nowhere'' (name k ∷ p) = refl

module _ {V : Type 0} (shown : V → KeyPath → Option Answer) (m : BTreeMap (String Global) V) where
  member_same : (o : Option V) (p : KeyPath) → option_at (λ v. plain_at (shown v)) o p ≡ plain_at (option_shown shown o) p
  member_same None p = sym (plain_none p)
  member_same (Some v) p = refl

  -- the cells of a map are those of its members
  pub names_same : (p : KeyPath) → map_at (λ v. plain_at (shown v)) m p ≡ plain_at (names_at shown m) p
  names_same [] = refl
  names_same (field k ∷ p) = sym (plain_none p)
  names_same (name k ∷ p) = member_same (get_by_text m k) p
