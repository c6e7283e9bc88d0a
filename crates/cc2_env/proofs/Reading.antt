-- What the first of the variables that is set makes of a setting.
use Rattle.std.proofs.Common.{◌≡◌, ◌<◌, ℕ, zero, suc, length, Bool, true, false, not, cond, List, [], ◌∷◌, map, Option, Some, None, option_map, Result, Ok, Err}
use Rattle.std.proofs.Common.{String, Global, string_bytes, codes, IsErrAnd, IfErr, OnOk, arith, refl, sym, ap, subst, ◌∙◌, inl, inr, ◌⊎◌}
use Rattle.std.specs.List.{Contains}
use Rattle.std.specs.Option.{is_some}
use Rattle.std.specs.Str.{bytes_eq, is_utf8}
use Rattle.cc2_error.specs.Causes.{Refusal, refusal_of, plain}
use Rattle.cc2_base.specs.EnvTexts.{env_text_of, not_text_refusal}
use Rattle.cc2_error.specs.Outcomes.{IsWantOfMemory, IsRefusal}
use Rattle.cc2_error.specs.declared.error.Error.{Error}
use Rattle.cc2_value.specs.Cells.{KeyPath, Cell, Single, Setting, Origin, variable, word, truth}
use Rattle.cc2_value.specs.Shown.{single_at}
use Rattle.cc2_value.specs.Values.{origin_of, setting_of}
use Rattle.cc2_value.specs.Ways.{read_at, plain_cell}
use Rattle.cc2_value.specs.declared.value.Value.{Value}
use Rattle.cc2_value.specs.Singles.{text_value, truth_value}
use Rattle.cc2_leaf.specs.Commands.{command_value}
use Rattle.cc2_leaf.specs.TextWays.{TextWay, text_cause, IsTextFault, any_text_way, command_text_way}
use Rattle.cc2_leaf.specs.declared.path_and_args.PathAndArgs.{PathAndArgs}
use Rattle.cc2_env.specs.Kept.{Variables}
use Rattle.cc2_env.specs.Ranked.{Named, set_or, first_set, text_refusal, fault_refusal, value_refusals, read_cell, read_refusals, Ranking, by, IsRanked, IsRankCause}
use Rattle.cc2_env.specs.Ranks.{variable_by, named_by, one_by, browser_rank, protocol_variable, protocol_variables, filled, if_filled}
use Rattle.cc2_env.specs.Reads.{first_value, IsFound, IsFoundCause}

text_or : (b : Bool) (value text : List ℕ) (r : Refusal) → cond b (Ok value) (Err r) ≡ Ok text → (b ≡ true)
    × (value ≡ text)
text_or true value text r h = (refl, cc)
text_or false value text r h = cc

refusal_or : (b : Bool) (value : List ℕ) (r s : Refusal) → cond b (Ok value) (Err r) ≡ Err s → (b ≡ false) × (r ≡ s)
refusal_or true value r s h = cc
refusal_or false value r s h = (refl, cc)

-- a value that is text
pub is_text : (n value text : List ℕ) → env_text_of n value ≡ Ok text → (is_utf8 value ≡ true) × (value ≡ text)
unfolding env_text_of
is_text n value text h = text_or (is_utf8 value) value text (not_text_refusal n value) h

-- a value that isn't
pub is_no_text : (n value : List ℕ) (r : Refusal) → env_text_of n value ≡ Err r → (is_utf8 value ≡ false)
    × (not_text_refusal n value ≡ r)
unfolding env_text_of
is_no_text n value r h = refusal_or (is_utf8 value) value (not_text_refusal n value) r h

-- the refusals of a value that is text are those of its text
pub text_refusals : (n : Named) (value text : List ℕ) → env_text_of n.name value ≡ Ok text
    → value_refusals n value ≡ map (fault_refusal n) (n.way.faults text)
text_refusals n value text h =
    let is = is_text n.name value text h in
    ap (λ b. cond b (map (fault_refusal n) (n.way.faults value)) (not_text_refusal n.name value ∷ [])) is.0
    ∙ ap (λ v. map (fault_refusal n) (n.way.faults v)) is.1

-- a text without a fault
pub no_refusal : (n : Named) (value text : List ℕ) → env_text_of n.name value ≡ Ok text → n.way.faults text ≡ []
    → value_refusals n value ≡ []
no_refusal n value text h free = text_refusals n value text h ∙ ap (map (fault_refusal n)) free

-- a value that isn't text
pub text_refused : (n : Named) (value : List ℕ) (e : Error) → IsRefusal (env_text_of n.name value) e → IsWantOfMemory e
    ⊎ Contains (value_refusals n value) (refusal_of e)
text_refused n value e (inl m) = inl m
text_refused n value e (inr stated) =
    let no = is_no_text n.name value (refusal_of e) stated in
    inr (subst (λ (rs : List Refusal). Contains rs (refusal_of e))
    (sym (ap (λ b. cond b (map (fault_refusal n) (n.way.faults value)) (not_text_refusal n.name value ∷ [])) no.0))
    (0, omega arith, no.1))

contains_map : {A B : Type 0} (f : A → B) (xs : List A) (x : A) → Contains xs x → Contains (map f xs) (f x)
contains_map f [] x (i, lt, e) = absurd (omega (arith, lt))
contains_map f (y ∷ ys) x (zero, lt, e) = (0, omega arith, ap f e)
contains_map f (y ∷ ys) x (suc i, lt, e) =
    let less : i < length ys = omega (arith, lt) in
    let r = contains_map f ys x (i, less, e) in
    (suc r.0, omega (arith, r.1), r.2)

-- a text that is refused without a line
pub bare_refused : (n : Named) (value text : List ℕ) (e : Error) → n.has_line ≡ false
    → env_text_of n.name value ≡ Ok text → IsTextFault (n.way.faults text) e
    → IsWantOfMemory e ⊎ Contains (value_refusals n value) (refusal_of e)
bare_refused n value text e bare h (inl m) = inl m
bare_refused n value text e bare h (inr (f, has, says)) =
    let same : fault_refusal n f ≡ refusal_of e =
    ap (λ b. cond b (text_refusal n.name f) (plain (text_cause f))) bare ∙ sym says in
    inr (subst (λ (rs : List Refusal). Contains rs (refusal_of e)) (sym (text_refusals n value text h))
    (subst (Contains (map (fault_refusal n) (n.way.faults text))) same
    (contains_map (fault_refusal n) (n.way.faults text) f has)))

-- the same at the exit of a `?`
pub text_exit : {T : Type 0} (result : Result T Error) (n : Named) (value : List ℕ) (e : Error)
    → IsErrAnd result (λ f. f ≡ e) → IsRefusal (env_text_of n.name value) e
    → IfErr result (λ f. IsWantOfMemory f ⊎ Contains (value_refusals n value) (refusal_of f))
text_exit (Ok v) n value e is h = absurd is
text_exit (Err f) n value e is h =
    subst (λ (g : Error). IsWantOfMemory g ⊎ Contains (value_refusals n value) (refusal_of g)) (sym is)
    (text_refused n value e h)

err_exit : {T : Type 0} (P : Error → Type 0) (result : Result T Error) (e : Error) → IsErrAnd result (λ g. g ≡ e) → P e
    → IfErr result P
err_exit P (Ok v) e is h = absurd is
err_exit P (Err g) e is h = subst P (sym is) h

module _ {A : Type 0} (look : A → KeyPath → Option Cell) (vars : Variables) where
  -- none of the variables is set
  pub by_none : (ns : List Named) (a : A) → first_set vars ns ≡ None → IsRanked look (by ns) vars a a
  by_none ns a none = (λ p. sym (ap (λ f. read_cell f (look a p) p) none), λ p. ap read_refusals none)

  -- the first that is set is read
  pub by_set : (ns : List Named) (f : Named × List ℕ) (a b : A) → first_set vars ns ≡ Some f
      → value_refusals f.0 f.1 ≡ []
      → ((p : KeyPath) → look b p ≡ f.0.way.cells (Some (variable f.0.name)) f.1 p) → IsRanked look (by ns) vars a b
  by_set ns f a b found free shown =
      (λ p. shown p ∙ sym (ap (λ g. read_cell g (look a p) p) found), λ p. ap read_refusals found ∙ free)

  -- the first that is set is refused
  pub by_cause : (ns : List Named) (f : Named × List ℕ) (a : A) (e : Error) → first_set vars ns ≡ Some f
      → IsWantOfMemory e ⊎ Contains (value_refusals f.0 f.1) (refusal_of e)
      → IsRankCause look (by ns) vars a e
  by_cause ns f a e found (inl m) = inl m
  by_cause ns f a e found (inr c) =
      inr ([], subst (λ (rs : List Refusal). Contains rs (refusal_of e)) (sym (ap read_refusals found)) c)

  -- the same at the exit of a `?`
  pub by_exit : {T : Type 0} (result : Result T Error) (ns : List Named) (f : Named × List ℕ) (a : A) (e : Error)
      → IsErrAnd result (λ g. g ≡ e)
      → first_set vars ns ≡ Some f → IsWantOfMemory e ⊎ Contains (value_refusals f.0 f.1) (refusal_of e)
      → IfErr result (IsRankCause look (by ns) vars a)
  by_exit (Ok v) ns f a e is found h = absurd is
  by_exit (Err g) ns f a e is found h = subst (IsRankCause look (by ns) vars a) (sym is) (by_cause ns f a e found h)

  first_past : (n : Named) (ns : List Named) → vars n.name ≡ None → first_set vars (n ∷ ns) ≡ first_set vars ns
  first_past n ns none = ap (λ o. set_or n o (first_set vars ns)) none

  -- the first of the variables isn't set
  pub by_past : (n : Named) (ns : List Named) (a b : A) → vars n.name ≡ None → IsRanked look (by ns) vars a b
      → IsRanked look (by (n ∷ ns)) vars a b
  by_past n ns a b none h = (
    λ p. h.0 p ∙ sym (ap (λ g. read_cell g (look a p) p) (first_past n ns none)),
    λ p. ap read_refusals
        (first_past n ns none) ∙ h.1 p,
  )

  pub cause_past : (n : Named) (ns : List Named) (a : A) (e : Error) → vars n.name ≡ None
      → IsRankCause look (by ns) vars a e → IsRankCause look (by (n ∷ ns)) vars a e
  cause_past n ns a e none (inl m) = inl m
  cause_past n ns a e none (inr c) =
      inr (
        c.0,
        subst (λ (rs : List Refusal). Contains rs (refusal_of e))
            (sym (ap read_refusals (first_past n ns none))) c.1,
      )

-- the first name that is set, read in this way
abbrev named_first : TextWay → Option (List ℕ × List ℕ) → Option (Named × List ℕ)
named_first way f = option_map (λ g. (variable_by g.0 way, g.1)) f

one_more : (n : List ℕ) (way : TextWay) (o : Option (List ℕ)) (x y : Option (Named × List ℕ))
    → x ≡ named_first way (option_map (λ f. (f.0.name, f.1)) y) → set_or (variable_by n way) o x ≡ named_first way
    (option_map (λ f. (f.0.name, f.1)) (set_or (variable_by n any_text_way) o y))
one_more n way None x y h = h
one_more n way (Some v) x y h = refl

-- of names that are all read in one way
first_by : (vars : Variables) (way : TextWay) (names : List (List ℕ))
    → first_set vars (named_by way names) ≡ named_first way (first_value vars names)
first_by vars way [] = refl
first_by vars way (n ∷ names) =
    one_more n way (vars n) _ (first_set vars (named_by any_text_way names)) (first_by vars way names)

-- a name that isn't set
pub name_past : (vars : Variables) (n : List ℕ) (names : List (List ℕ)) → None ≡ vars n
    → first_value vars names ≡ first_value vars (n ∷ names)
name_past vars n names none =
    ap (λ o. option_map (λ f. (f.0.name, f.1))
    (set_or (variable_by n any_text_way) o (first_set vars (named_by any_text_way names)))) none

-- What is read in one way, and set in another: the cells and the refusals of the one are those of the other.
module _ {A B : Type 0} (look : A → KeyPath → Option Cell) (see : B → KeyPath → Option Cell) (vars : Variables)
    (read_way way : TextWay) (names : List (List ℕ)) where
  -- none of the names is set
  pub found_none : (b : B) → IsFound look read_way (first_value vars names) None
      → IsRanked see (by (named_by way names)) vars b b
  found_none b h = by_none see vars (named_by way names) b
      (first_by vars way names ∙ ap (named_first way) (none (first_value vars names) h))
    where
      none : (f : Option (List ℕ × List ℕ)) → IsFound look read_way f None → f ≡ None
      none None h = refl
      none (Some f) h = absurd h

  -- a value is set
  pub found_set : (a : A) (b c : B)
      → ((n v : List ℕ) → value_refusals (variable_by n read_way) v ≡ []
      → ((p : KeyPath) → look a p ≡ read_way.cells (Some (variable n)) v p)
      → (value_refusals (variable_by n way) v ≡ []) × ((p : KeyPath) → see c p ≡ way.cells (Some (variable n)) v p))
      → IsFound look read_way (first_value vars names) (Some a) → IsRanked see (by (named_by way names)) vars b c
  found_set a b c same h = set (first_value vars names) (first_by vars way names) h
    where
      set : (f : Option (List ℕ × List ℕ)) → first_set vars (named_by way names) ≡ named_first way f
          → IsFound look read_way f (Some a) → IsRanked see (by (named_by way names)) vars b c
      set None is h = absurd h
      set (Some f) is h =
          let shown = same f.0 f.1 h.0 h.1 in
          by_set see vars (named_by way names) (variable_by f.0 way, f.1) b c is shown.0 shown.1

  -- a value is refused, at the exit of a `?`
  pub found_exit : {T : Type 0} (result : Result T Error) (b : B) (e : Error)
      → ((n v : List ℕ) (r : Refusal) → Contains (value_refusals (variable_by n read_way) v) r
      → Contains (value_refusals (variable_by n way) v) r)
      → IsErrAnd result (λ g. g ≡ e) → IsFoundCause read_way (first_value vars names) e
      → IfErr result (IsRankCause see (by (named_by way names)) vars b)
  found_exit result b e same is h = exit (first_value vars names) (first_by vars way names) h
    where
      out : IsRankCause see (by (named_by way names)) vars b e
          → IfErr result (IsRankCause see (by (named_by way names)) vars b)
      out cause = err_exit (IsRankCause see (by (named_by way names)) vars b) result e is cause

      exit : (f : Option (List ℕ × List ℕ)) → first_set vars (named_by way names) ≡ named_first way f
          → IsFoundCause read_way f e → IfErr result (IsRankCause see (by (named_by way names)) vars b)
      exit f first (inl m) = out (inl m)
      exit None first (inr (i, lt, at)) = absurd (omega (arith, lt))
      exit (Some f) first (inr c) =
          out (by_cause see vars (named_by way names) (variable_by f.0 way, f.1) b e first
          (inr (same f.0 f.1 (refusal_of e) c)))

pub on_ok : {T E P Q : Type 0} (r : Result T E) → (P → Q) → OnOk r P → OnOk r Q
on_ok (Ok v) f h = f h
on_ok (Err e) f h = tt

pub if_err : {T E : Type 0} {P Q : E → Type 0} (r : Result T E) → ((e : E) → P e → Q e) → IfErr r P → IfErr r Q
if_err (Ok v) f h = tt
if_err (Err e) f h = f e h

-- a text that was read of a variable
abbrev pub IsText : Value (String Global) → Option Origin → List ℕ → Type 0
IsText read origin value =
    (p : KeyPath) → single_at (setting_of (λ s. word (string_bytes s))) read p ≡ read_at (plain_cell word origin)
    (Some value) p

same_setting : (x y : Setting) → Some (Single x) ≡ Some (Single y) → x ≡ y
same_setting x y h = cc h

same_word : (x y : List ℕ) → word x ≡ word y → x ≡ y
same_word x y h = cc h

module _ (read : Value (String Global)) (origin : Option Origin) (value : List ℕ) (h : IsText read origin value) where
  is_setting : setting_of (λ s. word (string_bytes s)) read ≡ record { payload = word value; origin = origin }
  is_setting = same_setting _ _ (h [])

  same_text : string_bytes read.val ≡ value
  same_text = same_word _ _ (ap (λ (s : Setting). s.payload) is_setting)

  same_origin : option_map origin_of read.definition ≡ origin
  same_origin = ap (λ (s : Setting). s.origin) is_setting

filled_shown : (read : Value (String Global)) (origin : Option Origin) (p : KeyPath) (value : List ℕ)
    → single_at (setting_of (λ s. word (string_bytes s))) read p ≡ read_at (plain_cell word origin) (Some value) p
    → text_value (if_filled value read) p ≡ read_at (plain_cell word origin) (filled value) p
filled_shown read origin p [] h = refl
filled_shown read origin p (b ∷ value) h = h

-- a wrapper, which the empty text takes away
pub wrapper_shown : (read : Value (String Global)) (origin : Option Origin) (value : List ℕ) → IsText read origin value
    → (p : KeyPath) → text_value (if_filled (string_bytes read.val) read) p ≡ read_at (plain_cell word origin)
    (filled value) p
wrapper_shown read origin value h p =
    let same : string_bytes read.val ≡ value = same_text read origin value h in
    subst (λ (text : List ℕ). text_value (if_filled text read) p ≡ read_at (plain_cell word origin) (filled value) p)
    (sym same) (filled_shown read origin p value (h p))

-- whether a text is `1`
pub one_shown : (read : Value (String Global)) (one : Value Bool) (origin : Option Origin) (value : List ℕ)
    → IsText read origin value
    → one.val ≡ bytes_eq (string_bytes read.val) (codes "1") → one.definition ≡ read.definition
    → (p : KeyPath) → truth_value (Some one) p ≡ read_at (plain_cell truth origin) (Some (bytes_eq value (codes "1"))) p
one_shown read one origin value h val from [] =
    let same : string_bytes read.val ≡ value = same_text read origin value h in
    let set : option_map origin_of read.definition ≡ origin = same_origin read origin value h in
    rw (val, from, same, set)
one_shown read one origin value h val from (k ∷ p) = refl

abbrev browser_alone : Ranking
browser_alone = one_by command_text_way (codes "BROWSER")

-- where no file has one the variable is looked at
pub browser_read : (vars : Variables) (browser after : Option PathAndArgs) → false ≡ is_some browser
    → IsRanked command_value browser_alone vars browser after
    → IsRanked command_value browser_rank vars browser after
browser_read vars None after h is = is
browser_read vars (Some b) after h is = cc

pub browser_cause : (vars : Variables) (browser : Option PathAndArgs) (e : Error) → false ≡ is_some browser
    → IsRankCause command_value browser_alone vars browser e
    → IsRankCause command_value browser_rank vars browser e
browser_cause vars None e h is = is
browser_cause vars (Some b) e h is = cc

-- the variable of the protocol of crates.io
pub protocol_first : (vars : Variables) (registry value : List ℕ) → false ≡ not (bytes_eq registry (codes "crates-io"))
    → Some value ≡ vars protocol_variable.name
    → first_set vars (protocol_variables registry) ≡ Some (protocol_variable, value)
protocol_first vars registry value is set =
    ap (λ b. first_set vars (cond b (protocol_variable ∷ []) [])) (is_true (bytes_eq registry (codes "crates-io")) is)
    ∙ sym (ap (λ o. set_or protocol_variable o None) set)
  where
    is_true : (b : Bool) → false ≡ not b → b ≡ true
    is_true true h = refl
    is_true false h = cc

-- why the value that is found is refused, by another name for what is found
pub found_as : (way : TextWay) (f g : Option (List ℕ × List ℕ)) (e : Error) → f ≡ g → IsFoundCause way f e → IsFoundCause way g e
found_as way f g e same h = subst (λ (o : Option (List ℕ × List ℕ)). IsFoundCause way o e) same h
