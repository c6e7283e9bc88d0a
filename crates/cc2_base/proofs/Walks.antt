-- A walk, a directory at a time.
use Rattle.std.proofs.Common.{◌≡◌, ℕ, List, ◌∷◌, ◌++◌, Option, Some, None, refl, ap, ◌∙◌, sym, Bool, true, false, cond, ◌||◌, codes, is_some, if◌then◌else◌}
use Rattle.std.specs.List.{filter_map, list_any, cons_option}
use Rattle.std.specs.Option.{option_to_list}
use Rattle.cc2_base.specs.Told.{Tree}
use Rattle.cc2_base.specs.Paths.{joined, same_path}
use Rattle.cc2_base.specs.Walked.{where_there, chosen, or_else, folder_of, home_apart, home_apart_from, walked_over, chosen_for}
use Rattle.cc2_base.proofs.Joining.{joined_longer}

-- what is chosen for a folder, by the first file's path
chosen_by : Tree → List ℕ → List ℕ → Option (List ℕ)
chosen_by fs folder first = or_else (where_there fs first) (where_there fs (joined folder (codes "config.toml")))

-- the first is not there, so it is the second, where that is there
pub chosen-second : (fs : Tree) (folder first second : List ℕ) (there : Bool)
    → first ≡ joined folder (codes "config") → second ≡ first ++ codes ".toml"
    → false ≡ is_some (fs first) → there ≡ is_some (fs second)
    → (if there then Some second else None) ≡ chosen fs folder
unfolding chosen_by
chosen-second fs folder first second there e f absent is_there =
    let longer : second ≡ joined folder (codes "config.toml") = f ∙ ap (λ path. path ++ codes ".toml") e ∙ joined_longer folder in
    let by_test : (if there then Some second else None) ≡ where_there fs second = ap (λ b. if b then Some second else None) is_there in
    let other : Option (List ℕ) = where_there fs (joined folder (codes "config.toml")) in
    let none_first : other ≡ chosen_by fs folder first = ap (λ b. or_else (if b then Some first else None) other) absent in
    by_test ∙ ap (where_there fs) longer ∙ none_first ∙ ap (chosen_by fs folder) e

cons_option-append : (o : Option (List ℕ)) (xs ys : List (List ℕ)) → cons_option o xs ++ ys ≡ option_to_list o ++ (xs ++ ys)
cons_option-append None xs ys = refl
cons_option-append (Some x) xs ys = refl

without : (b r : Bool) (x : List ℕ) (ds : List (List ℕ)) → list_any (λ d. same_path (folder_of d) x) ds ≡ r → cond (b || r) None (Some x) ≡ home_apart ds (cond b None (Some x))
without true r x ds e = refl
without false r x ds e = ap (λ q. cond q None (Some x)) (sym e)

home_apart-cons : (d : List ℕ) (ds : List (List ℕ)) (home : Option (List ℕ)) → home_apart (d ∷ ds) home ≡ home_apart ds (home_apart_from (folder_of d) home)
home_apart-cons d ds None = refl
home_apart-cons d ds (Some x) = without (same_path (folder_of d) x) (list_any (λ q. same_path (folder_of q) x) ds) x ds refl

-- what is walked from a directory: what is chosen for it, and then the others, with the home apart from it
pub walked-cons : (fs : Tree) (d : List ℕ) (ds : List (List ℕ)) (home : Option (List ℕ))
    → walked_over fs (d ∷ ds) home ≡ option_to_list (chosen fs (folder_of d)) ++ walked_over fs ds (home_apart_from (folder_of d) home)
walked-cons fs d ds home =
    cons_option-append (chosen fs (folder_of d)) (filter_map (λ q. chosen fs (folder_of q)) ds) (chosen_for fs (home_apart (d ∷ ds) home))
    ∙ ap (λ h. option_to_list (chosen fs (folder_of d)) ++ (filter_map (λ q. chosen fs (folder_of q)) ds ++ chosen_for fs h)) (home_apart-cons d ds home)

pub walked_step : (fs : Tree) (d : List ℕ) (ds es : List (List ℕ)) (home rest found : Option (List ℕ)) (folder : List ℕ)
    → folder ≡ folder_of d → es ≡ ds → rest ≡ home_apart_from folder home → found ≡ chosen fs folder
    → walked_over fs (d ∷ ds) home ≡ option_to_list found ++ walked_over fs es rest
walked_step fs d ds es home rest found folder a b e f = cc (walked-cons fs d ds home)
