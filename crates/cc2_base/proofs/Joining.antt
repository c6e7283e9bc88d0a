-- Joined paths, in std's words.
use Rattle.std.proofs.Common.{◌≡◌, ℕ, ◌-◌, List, [], ◌∷◌, ◌++◌, length, get_or, cond, eqb, ◌||◌, Bool, true, false, refl, ap, ◌∙◌, append_assoc, codes}
use Rattle.std.specs.Path.{path_join}
use Rattle.cc2_base.specs.Paths.{joined, slash, separator_after}

separated : (t : Bool) (p q : List ℕ) → cond t p (p ++ slash ∷ []) ++ q ≡ p ++ (cond t [] (slash ∷ []) ++ q)
separated true p q = refl
separated false p q = append_assoc p (slash ∷ []) q

pub path_join_is : (p q : List ℕ) → path_join p q ≡ joined p q
unfolding path_join joined
path_join_is p q = ap (λ whole. cond (eqb (get_or q 0 0) slash) q whole) (separated (eqb (length p) 0 || eqb (get_or p (length p - 1) 0) slash) p q)

same_either_way : (b : Bool) (p : List ℕ) → cond b p p ≡ p
same_either_way true p = refl
same_either_way false p = refl

-- joined to nothing, a path is itself
pub path_join_nothing : (p : List ℕ) → path_join [] p ≡ p
unfolding path_join
path_join_nothing p = same_either_way (eqb (get_or p 0 0) slash) p

-- the second file's path of a folder is the first's with more after it
pub joined_longer : (p : List ℕ) → joined p (codes "config") ++ codes ".toml" ≡ joined p (codes "config.toml")
unfolding joined
joined_longer p = append_assoc p (separator_after p ++ codes "config") (codes ".toml") ∙ ap (λ name. p ++ name) (append_assoc (separator_after p) (codes "config") (codes ".toml"))
