-- A spec path that is joined to a root stays one, and keeps its triple.
use Rattle.std.proofs.Common.{◌≡◌, ℕ, suc, ◌-◌, List, [], ◌∷◌, ◌++◌, length, cond, ◌||◌, Bool, true, false, Option, Some, None, option_map}
use Rattle.std.proofs.Common.{unwrap_or, refl, sym, ap, subst, ◌∙◌, eqb-true, arith, append-nil, length-append, ⊎_elim}
use Rattle.std.specs.Prelude.{IsSome, slice_get, if◌then◌else◌}
use Rattle.std.specs.Option.{option_and_then}
use Rattle.std.specs.Path.{path_join, path_components, path_names, leading_components, is_dot_at, root_dir, cur_dir}
use Rattle.std.proofs.lemmas.Bool.{eqb-false, or_cases, or_left, or_right}
use Rattle.std.proofs.lemmas.List.Folds.{list_any-append}
use Rattle.std.proofs.lemmas.Paths.{path_join_absolute, path_components_join}
use Rattle.cc2_base.specs.Paths.{joined, slash, begins_at_root, separator_after, components_of, file_name_of, as_file_name, stem_of, stem_of_name, extension_of, extension_of_name}
use Rattle.cc2_base.proofs.Components.{path_components_are}
use Rattle.cc2_base.proofs.Joining.{path_join_is, path_join_nothing}
use Rattle.cc2_resolved.specs.Texts.{holds}
use Rattle.cc2_resolved.specs.Targets.{says_json, is_spec_path, triple_of, spec_path_of, target_in, joined_to}

-- what the last of the components names
abbrev last_name : List (List ℕ) → Option (List ℕ)
last_name cs = option_and_then as_file_name (slice_get cs (length cs - 1))

file_name_is : (p : List ℕ) → file_name_of p ≡ last_name (components_of p)
unfolding file_name_of
file_name_is p = refl

-- it is named whatever precedes it
last_behind : (ds : List (List ℕ)) (c : List ℕ) (cs : List (List ℕ)) → last_name (ds ++ c ∷ cs) ≡ last_name (c ∷ cs)
last_behind [] c cs = refl
last_behind (d ∷ ds) c cs =
    let all = ds ++ c ∷ cs in
    ap (λ n. option_and_then as_file_name (slice_get (d ∷ all) n)) {x = length (d ∷ all) - 1} {y = suc (length all - 1)} (omega (arith, length-append ds (c ∷ cs)))
    ∙ last_behind ds c cs

-- what is at a path's head names no file, so its names do
names_end : (front head names : List (List ℕ)) (name : List ℕ) → last_name head ≡ None → last_name (head ++ names) ≡ Some name → last_name (front ++ names) ≡ Some name
names_end front head [] name none e =
    let no : None ≡ Some name = sym none ∙ ap last_name (sym (append-nil head)) ∙ e in
    cc
names_end front head (c ∷ cs) name none e = last_behind front c cs ∙ sym (last_behind head c cs) ∙ e

head_names_none : (root dot : Bool) → last_name (cond root (root_dir ∷ []) (cond dot (cur_dir ∷ []) [])) ≡ None
head_names_none true dot = refl
head_names_none false true = refl
head_names_none false false = refl

parts_are : (p : List ℕ) → components_of p ≡ leading_components p ++ path_names p
unfolding path_components
parts_are p = sym (path_components_are p)

-- a file's name is that of the joined path
file_name_joined : (r q name : List ℕ) → file_name_of q ≡ Some name → file_name_of (joined r q) ≡ Some name
file_name_joined [] q name e = ap file_name_of (sym (path_join_is [] q) ∙ path_join_nothing q) ∙ e
file_name_joined (b ∷ r) q name e = by (begins_at_root q) refl
  where
    by : (t : Bool) → begins_at_root q ≡ t → file_name_of (joined (b ∷ r) q) ≡ Some name
    by true is = ap file_name_of (sym (path_join_is (b ∷ r) q) ∙ path_join_absolute (b ∷ r) q (eqb-true _ slash is)) ∙ e
    by false is =
        let whole : components_of (joined (b ∷ r) q) ≡ path_components (b ∷ r) ++ path_names q =
        ap components_of (sym (path_join_is (b ∷ r) q)) ∙ sym (path_components_are (path_join (b ∷ r) q)) ∙ path_components_join (b ∷ r) q (omega arith) (eqb-false _ slash is) in
        file_name_is (joined (b ∷ r) q)
        ∙ ap last_name whole
        ∙ names_end (path_components (b ∷ r)) (leading_components q) (path_names q) name
        (head_names_none (begins_at_root q) (is_dot_at q 0))
        (ap last_name (sym (parts_are q)) ∙ sym (file_name_is q) ∙ e)

named : (name : Option (List ℕ)) (s : List ℕ) → option_map stem_of_name name ≡ Some s → (n : List ℕ) × (name ≡ Some n)
named None s e = cc
named (Some n) s e = (n, refl)

-- what has a stem has a file's name
has_name : (q s : List ℕ) → stem_of q ≡ Some s → (name : List ℕ) × (file_name_of q ≡ Some name)
unfolding stem_of
has_name q s e = named (file_name_of q) s e

stem_joined : (r q s : List ℕ) → stem_of q ≡ Some s → stem_of (joined r q) ≡ Some s
unfolding stem_of
stem_joined r q s e =
    let h = has_name q s e in
    ap (option_map stem_of_name) (file_name_joined r q h.0 h.1 ∙ sym h.1) ∙ e

extension_joined : (r q name : List ℕ) → file_name_of q ≡ Some name → extension_of (joined r q) ≡ extension_of q
unfolding extension_of
extension_joined r q name e = ap (option_and_then extension_of_name) (file_name_joined r q name e ∙ sym e)

behind : (byte : ℕ) (xs q : List ℕ) → holds byte q ≡ true → holds byte (xs ++ q) ≡ true
behind byte xs q h = list_any-append _ xs q ∙ or_right _ _ h

-- what is in a path is in the joined one
holds_joined : (byte : ℕ) (r q : List ℕ) → holds byte q ≡ true → holds byte (joined r q) ≡ true
unfolding joined
holds_joined byte r q h = by (begins_at_root q)
  where
    by : (t : Bool) → holds byte (cond t q (r ++ (separator_after r ++ q))) ≡ true
    by true = h
    by false = behind byte r _ (behind byte (separator_after r) q h)

spec_path_joined : (r q s : List ℕ) → is_spec_path q ≡ true → stem_of q ≡ Some s → is_spec_path (joined r q) ≡ true
spec_path_joined r q s is e =
    let h = has_name q s e in
    let json : List ℕ → Bool = λ p. unwrap_or (option_map says_json (extension_of p)) false in
    let held : List ℕ → Bool = λ p. holds 47 p || holds 92 p in
    ⊎_elim
    (λ named. or_left _ (held (joined r q)) (ap (λ o. unwrap_or (option_map says_json o) false) (extension_joined r q h.0 h.1) ∙ named))
    (λ in_it. or_right (json (joined r q)) _ (⊎_elim
    (λ front. or_left _ (holds 92 (joined r q)) (holds_joined 47 r q front))
    (λ back. or_right (holds 47 (joined r q)) _ (holds_joined 92 r q back))
    (or_cases (holds 47 q) (holds 92 q) in_it)))
    (or_cases (json q) (held q) is)

triple_joined : (r q s : List ℕ) → is_spec_path q ≡ true → stem_of q ≡ Some s → triple_of (joined r q) ≡ Some s
triple_joined r q s is e = ap (λ t. if t then stem_of (joined r q) else Some (joined r q)) (spec_path_joined r q s is e) ∙ stem_joined r q s e

some_is : (o : Option (List ℕ)) → IsSome o → (s : List ℕ) × (o ≡ Some s)
some_is None h = cc
some_is (Some s) h = (s, refl)

-- a target's spec path, joined to a root, has a triple, which is the target's
pub target_joined : (root text path whole : List ℕ) → IsSome (triple_of text) → Some path ≡ spec_path_of text → whole ≡ joined root path
    → IsSome (triple_of whole) × (target_in whole ≡ joined_to root (target_in text))
target_joined root text path whole has is made = by (is_spec_path text) refl
  where
    by : (t : Bool) → is_spec_path text ≡ t → IsSome (triple_of whole) × (target_in whole ≡ joined_to root (target_in text))
    by false e =
        let no : Some path ≡ None = is ∙ ap (λ t. if t then Some text else None) e in
        absurd (cc)
    by true e =
        let own_spec : spec_path_of text ≡ Some text = ap (λ t. if t then Some text else None) e in
        let own_triple : triple_of text ≡ stem_of text = ap (λ t. if t then stem_of text else Some text) e in
        let stem = some_is (stem_of text) (subst IsSome own_triple has) in
        let same : path ≡ text = let both : Some path ≡ Some text = is ∙ own_spec in cc in
        let whole_is : whole ≡ joined root text = made ∙ ap (joined root) same in
        let triple : triple_of whole ≡ Some stem.0 = ap triple_of whole_is ∙ triple_joined root text stem.0 e stem.1 in
        let spec : spec_path_of whole ≡ Some (joined root text) =
        ap spec_path_of whole_is ∙ ap (λ t. if t then Some (joined root text) else None) (spec_path_joined root text stem.0 e stem.1) in (
          subst IsSome (sym triple) refl,
          λ i. record {
            triple = (ap (λ o. unwrap_or o whole) triple ∙ sym (ap (λ o. unwrap_or o text) (own_triple ∙ stem.1))) i;
            spec_path = (spec ∙ sym (ap (option_map (joined root)) own_spec)) i;
          },
        )
