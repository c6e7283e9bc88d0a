-- What entries answer under variables: one entry more, one that is passed over, one that answers, and one whose programs ran.
use Rattle.std.proofs.Common.{◌≡◌, ◌+◌, ◌<◌, ◌&&◌, ℕ, Bool, true, false, List, [], ◌∷◌, ◌++◌, String, Global, Option, Some, None, drop, get_or, length, map, refl, ap, ◌∙◌, slice_set, suc, zero}
use Rattle.std.specs.Cmp.Lexicographic.{pointwise}
use Rattle.std.specs.Prelude.{if◌then◌else◌}
use Rattle.std.specs.String.{string_eq}
use Rattle.cc2_base.specs.ToldPrograms.{Answers, answers_of}
use Rattle.cc2_cargo_settings.specs.EnvVariables.{EnvVariable, variable_view, variables_view}
use Rattle.cc2_cargo_target.proofs.Matching.{left_over}
use Rattle.cc2_cargo_target.specs.VariableTables.{answers_for, answers_in, first_of_two, same_variables}
use Rattle.cc2_cargo_target.specs.declared.variable_table.Entry.{Entry}

pub same-map : (xs ys : List (String Global × String Global))
    → pointwise (λ x y. string_eq x.0 y.0 && string_eq x.1 y.1) xs ys ≡ same_variables (map variable_view xs) (map variable_view ys)
same-map [] [] = refl
same-map [] (y ∷ ys) = refl
same-map (x ∷ xs) [] = refl
same-map (x ∷ xs) (y ∷ ys) = ap (λ b. (string_eq x.0 y.0 && string_eq x.1 y.1) && b) (same-map xs ys)

first_alone : (a : Option Answers) → first_of_two a None ≡ first_of_two None a
first_alone None = refl
first_alone (Some answers) = refl

first_of_three : (a b c : Option Answers) → first_of_two a (first_of_two b c) ≡ first_of_two (first_of_two a b) c
first_of_three None b c = refl
first_of_three (Some answers) b c = refl

-- one entry more
pub answers_pushed : (es : List Entry) (e : Entry) (vs : List EnvVariable)
    → answers_in (es ++ e ∷ []) vs ≡ first_of_two (answers_in es vs) (answers_for (variables_view e.variables) (answers_of e.programs) vs)
answers_pushed [] e vs = first_alone (answers_for (variables_view e.variables) (answers_of e.programs) vs)
answers_pushed (x ∷ es) e vs =
    let own = answers_for (variables_view x.variables) (answers_of x.programs) vs in
    ap (first_of_two own) (answers_pushed es e vs)
    ∙ first_of_three own (answers_in es vs) (answers_for (variables_view e.variables) (answers_of e.programs) vs)

at_entry : (es : List Entry) (i : ℕ) (d : Entry) (vs : List EnvVariable) (b : Bool) → i < length es
    → same_variables (variables_view (get_or es i d).variables) vs ≡ b
    → answers_in (drop i es) vs ≡ first_of_two (if b then Some (answers_of (get_or es i d).programs) else None) (answers_in (drop (i + 1) es) vs)
at_entry es i d vs b inside is =
    ap (λ rest. answers_in rest vs) (left_over es i d inside)
    ∙ ap (λ (c : Bool). first_of_two (if c then Some (answers_of (get_or es i d).programs) else None) (answers_in (drop (i + 1) es) vs)) is

-- the entry at a place answers
pub answers_found : (es : List Entry) (i : ℕ) (d : Entry) (vs : List EnvVariable) → i < length es
    → same_variables (variables_view (get_or es i d).variables) vs ≡ true → answers_in (drop i es) vs ≡ Some (answers_of (get_or es i d).programs)
answers_found es i d vs inside is = at_entry es i d vs true inside is

-- it is passed over
pub passed_over : (es : List Entry) (i : ℕ) (d : Entry) (vs : List EnvVariable) → i < length es
    → same_variables (variables_view (get_or es i d).variables) vs ≡ false → answers_in (drop i es) vs ≡ answers_in (drop (i + 1) es) vs
passed_over es i d vs inside is = at_entry es i d vs false inside is

-- what it answers is kept by a run of its programs
pub answers_kept : (es : List Entry) (i : ℕ) (e : Entry) (vs : List EnvVariable)
    → variables_view e.variables ≡ variables_view (get_or es i e).variables → answers_of e.programs ≡ answers_of (get_or es i e).programs
    → answers_in (slice_set es i e) vs ≡ answers_in es vs
answers_kept [] i e vs named same = refl
answers_kept (x ∷ es) zero e vs named same = λ j. first_of_two (answers_for (named j) (same j) vs) (answers_in es vs)
answers_kept (x ∷ es) (suc i) e vs named same =
    ap (first_of_two (answers_for (variables_view x.variables) (answers_of x.programs) vs)) (answers_kept es i e vs named same)
