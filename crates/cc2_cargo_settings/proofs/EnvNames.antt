-- The entries of the table `env`, one after another, and by their names.
use Rattle.std.proofs.Common.{◌≡◌, ℕ, Bool, true, false, cond, ◌||◌, List, [], ◌∷◌, ◌++◌, map, Option, Some, None, is_some, Result, Ok, Err, IsErrAnd, String, BTreeMap, Global, Less, string_bytes, nat_cmp, append_assoc, refl, sym, ap, ◌∙◌, subst, inl, inr}
use Rattle.std.specs.Prelude.{bytes_eq, codes}
use Rattle.std.specs.BTreeMap.{get_by_text}
use Rattle.std.specs.Cmp.Lexicographic.{slice_cmp}
use Rattle.std.specs.List.{AllByRecursion, list_any}
use Rattle.std.specs.List.Sorted.{IsStrictlySortedBy}
use Rattle.std.specs.Map.{keys_of}
use Rattle.std.specs.String.{string_cmp}
use Rattle.std.specs.Global.{Vec}
use Rattle.std.proofs.lemmas.Map.Text.{is_eq-slice_cmp}
use Rattle.toml.specs.declared.value.Value.{Value as TomlValue}
use Rattle.cc2_base.specs.declared.machine.Machine.{Machine}
use Rattle.cc2_error.specs.Causes.{Refusal, refusal_of}
use Rattle.cc2_error.specs.Outcomes.{Gives, IsRefusal}
use Rattle.cc2_error.specs.declared.error.Error.{Error}
use Rattle.cc2_value.specs.Maps.{found}
use Rattle.cc2_value.specs.declared.value.Value.{Value}
use Rattle.cc2_cargo.specs.Raw as cell
use Rattle.cc2_cargo.specs.Raw.{Path, RawCell, below_raw, in_member, member_at, raw_at, raw_members_at, raw_value}
use Rattle.cc2_cargo.specs.declared.raw.Raw.{Raw}
use Rattle.cc2_cargo.specs.declared.raw.RawArray.{RawArray}
use Rattle.cc2_cargo.specs.declared.raw.Raw.TheBlock.{Single as single, Array as array}
use Rattle.cc2_cargo.specs.declared.raw.Raw.TheViews.{Table as table}
use Rattle.cc2_cargo.proofs.Raws.{raw_array, raw_single, raw_table, table_here}
use Rattle.cc2_cargo_settings.specs.EnvEntries.{then_ok}
use Rattle.cc2_cargo_settings.specs.EnvVariables.{AreNames, EnvVariable, variable_at, variables_at, variables_from}

-- variables, and others after them
abbrev pub behind : List EnvVariable → Result (List EnvVariable) Refusal → Result (List EnvVariable) Refusal
behind done (Ok others) = Ok (done ++ others)
behind done (Err refusal) = Err refusal

pub behind_more : (done more : List EnvVariable) (r : Result (List EnvVariable) Refusal)
    → behind (done ++ more) r ≡ behind done (then_ok r (λ others. Ok (more ++ others)))
behind_more done more (Ok others) = ap Ok (append_assoc done more others)
behind_more done more (Err refusal) = refl

pub behind_none : (done : List EnvVariable) (r : Result (List EnvVariable) Refusal)
    → behind done r ≡ behind done (then_ok r (λ others. Ok ([] ++ others)))
behind_none done (Ok others) = refl
behind_none done (Err refusal) = refl

-- the exit of a `?`
pub gives_exit : {T A : Type 0} (view : T → A) (r : Result T Error) (stated : Result A Refusal) (e : Error) → IsErrAnd r (λ f. f ≡ e)
    → IsRefusal stated e → Gives view r stated
gives_exit view (Ok value) stated e is h = absurd is
gives_exit view (Err f) stated e is h = subst (λ (g : Error). IsRefusal stated g) (sym is) h

-- the next name, after the variables so far
module _ (look : Path → Option RawCell) (machine : Machine) (dir : List ℕ) (all : Result (List EnvVariable) Refusal)
    (done : List EnvVariable) (n : List ℕ) (ns : List (List ℕ)) (is : all ≡ behind done (variables_at look machine dir (n ∷ ns)))
    (m : List ℕ) (same : m ≡ n) where
  with_set : (set : Result (Option (List ℕ)) Refusal) → variable_at look machine dir m ≡ set
      → all ≡ behind done (then_ok set (λ s. then_ok (variables_at look machine dir ns) (λ others. Ok (variables_from n s ++ others))))
  with_set set h =
      is ∙ ap (λ r. behind done (then_ok r (λ s. then_ok (variables_at look machine dir ns) (λ others. Ok (variables_from n s ++ others)))))
      (subst (λ x. variable_at look machine dir x ≡ set) same h)

  pub none_at : variable_at look machine dir m ≡ Ok None → all ≡ behind done (variables_at look machine dir ns)
  none_at h = with_set (Ok None) h ∙ sym (behind_none done (variables_at look machine dir ns))

  pub some_at : (text : List ℕ) (whole : List EnvVariable) → variable_at look machine dir m ≡ Ok (Some text) → whole ≡ done ++ (n, text) ∷ []
      → all ≡ behind whole (variables_at look machine dir ns)
  some_at text whole h are =
      with_set (Ok (Some text)) h ∙ sym (behind_more done ((n, text) ∷ []) (variables_at look machine dir ns))
      ∙ ap (λ vs. behind vs (variables_at look machine dir ns)) (sym are)

  pub refused_at : (e : Error) → IsRefusal (variable_at look machine dir m) e → IsRefusal all e
  refused_at e (inl memory) = inl memory
  refused_at e (inr h) = inr (with_set (Err (refusal_of e)) h)

all_bytes : (k : String Global) (es : List (String Global × Raw)) → AllByRecursion (λ y. string_cmp k y ≡ Less) (keys_of es)
    → AllByRecursion (λ y. slice_cmp nat_cmp (string_bytes k) y ≡ Less) (map string_bytes (keys_of es))
all_bytes k [] h = tt
all_bytes k (e ∷ es) h = (h.0, all_bytes k es h.1)

sorted_bytes : (es : List (String Global × Raw)) → IsStrictlySortedBy string_cmp (keys_of es) → IsStrictlySortedBy (slice_cmp nat_cmp) (map string_bytes (keys_of es))
unfolding IsStrictlySortedBy
sorted_bytes [] h = tt
sorted_bytes (e ∷ es) h = (all_bytes e.0 es h.0, sorted_bytes es h.1)

none_sorted : IsStrictlySortedBy (slice_cmp nat_cmp) []
unfolding IsStrictlySortedBy
none_sorted = tt

some_if : (b r : Bool) (x : Raw) (o : Option Raw) → r ≡ is_some o → (b || r) ≡ is_some (cond b (Some x) o)
some_if true r x o h = refl
some_if false r x o h = h

-- a name is listed where an entry has it
listed : (n : List ℕ) (es : List (String Global × Raw)) → list_any (bytes_eq n) (map string_bytes (keys_of es)) ≡ is_some (found n es)
listed n [] = refl
listed n (e ∷ es) =
    some_if (bytes_eq n (string_bytes e.0)) (list_any (bytes_eq n) (map string_bytes (keys_of es))) e.1 (found n es) (listed n es)
    ∙ ap (λ b. is_some (cond b (Some e.1) (found n es))) (sym (is_eq-slice_cmp n (string_bytes e.0)))

in_some : (o : Option Raw) → is_some o ≡ is_some (in_member (below_raw []) o)
in_some None = refl
in_some (Some r) = refl

module _ (settings : BTreeMap (String Global) Raw) where
  pub none_here : get_by_text settings (codes "env") ≡ None → raw_members_at settings (codes "env" ∷ []) ≡ None
  none_here is = ap (λ o. member_at o []) is

  pub none_named : get_by_text settings (codes "env") ≡ None → AreNames (raw_members_at settings) []
  none_named is = record { ascending = none_sorted; listed = λ n. sym (ap (λ o. is_some (member_at o (n ∷ []))) is) }

  module _ (r : Raw) (is : get_by_text settings (codes "env") ≡ Some r) where
    pub cell_here : (c : RawCell) → raw_at r [] ≡ Some c → raw_members_at settings (codes "env" ∷ []) ≡ Some c
    cell_here c at_it = ap (λ o. member_at o []) is ∙ at_it

    pub unnamed : ((n : List ℕ) → raw_at r (n ∷ []) ≡ None) → AreNames (raw_members_at settings) []
    unnamed none = record { ascending = none_sorted; listed = λ n. sym (ap (λ o. is_some (member_at o (n ∷ []))) is ∙ ap is_some (none n)) }

    pub single_named : (v : Value TomlValue) → r ≡ single v → AreNames (raw_members_at settings) []
    single_named v same = unnamed (λ n. ap (λ (x : Raw). raw_at x (n ∷ [])) same ∙ raw_single v (n ∷ []))

    pub array_named : (a : RawArray) → r ≡ array a → AreNames (raw_members_at settings) []
    array_named a same = unnamed (λ n. ap (λ (x : Raw). raw_at x (n ∷ [])) same ∙ raw_array a (n ∷ []))

    pub table_named : (m : BTreeMap (String Global) Raw) → r ≡ table m → IsStrictlySortedBy string_cmp (keys_of m.entries)
        → AreNames (raw_members_at settings) (map string_bytes (keys_of m.entries))
    table_named m same sorted = record {
      ascending = sorted_bytes m.entries sorted;
      listed = λ n. listed n m.entries ∙ in_some (found n m.entries)
          ∙ sym (ap (λ o. is_some (member_at o (n ∷ []))) is ∙ ap (λ (x : Raw). is_some (raw_at x (n ∷ []))) same ∙ ap is_some (raw_table m (n ∷ [])));
    }

    pub table_cell : (m : BTreeMap (String Global) Raw) → r ≡ table m → raw_members_at settings (codes "env" ∷ []) ≡ Some cell.table
    table_cell m same = cell_here cell.table (table_here r m same)
