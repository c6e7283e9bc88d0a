-- Worked examples of the path rules and the walk, computed on the definitions.
use Rattle.std.proofs.Common.{◌≡◌, ℕ, List, [], ◌∷◌, Some, None, true, false, codes, bytes_eq, cond, refl}
use Rattle.cc2_base.specs.Told.{Tree}
use Rattle.cc2_base.specs.Paths.{joined, components_of, parent_of, ancestors_of, same_path, file_name_of, stem_of, extension_of}
use Rattle.cc2_base.specs.Walked.{walked}

pub joined_to_nothing : joined [] (codes "a") ≡ codes "a"
unfolding joined
joined_to_nothing = refl

pub nothing_joined : joined (codes "a") [] ≡ codes "a/"
unfolding joined
nothing_joined = refl

pub parent_behind_two_slashes : parent_of (codes "a//b") ≡ Some (codes "a")
unfolding parent_of components_of
parent_behind_two_slashes = refl

pub parent_behind_a_dot : parent_of (codes "/a/./b") ≡ Some (codes "/a")
unfolding parent_of components_of
parent_behind_a_dot = refl

pub parent_of_a_dot : parent_of (codes ".") ≡ Some []
unfolding parent_of components_of
parent_of_a_dot = refl

pub ancestors_of_a_dot : ancestors_of (codes "/p/.") ≡ codes "/p/." ∷ codes "/" ∷ []
unfolding ancestors_of parent_of components_of
ancestors_of_a_dot = refl

pub ancestors_of_nothing : ancestors_of [] ≡ [] ∷ []
unfolding ancestors_of parent_of components_of
ancestors_of_nothing = refl

pub components_between_dots : components_of (codes "/./a//../b/.") ≡ codes "/" ∷ codes "a" ∷ codes ".." ∷ codes "b" ∷ []
unfolding components_of
components_between_dots = refl

pub leading_dot : components_of (codes "./a") ≡ codes "." ∷ codes "a" ∷ []
unfolding components_of
leading_dot = refl

pub not_the_same_behind_a_dot : same_path (codes "./a") (codes "a") ≡ false
unfolding same_path components_of
not_the_same_behind_a_dot = refl

pub not_the_same_above : same_path (codes "/a/b") (codes "/a") ≡ false
unfolding same_path components_of
not_the_same_above = refl

pub stem_before_a_slash : stem_of (codes "a.b.c/") ≡ Some (codes "a.b")
unfolding stem_of file_name_of parent_of components_of
stem_before_a_slash = refl

pub no_extension : extension_of (codes "/.cargo") ≡ None
unfolding extension_of file_name_of parent_of components_of
no_extension = refl

pub joined_behind_a_slash : joined (codes "/p/") (codes "q") ≡ codes "/p/q"
unfolding joined
joined_behind_a_slash = refl

pub joined_with_a_slash : joined (codes "/p") (codes "q") ≡ codes "/p/q"
unfolding joined
joined_with_a_slash = refl

pub absolute_stays : joined (codes "/p") (codes "/q") ≡ codes "/q"
unfolding joined
absolute_stays = refl

pub parent_below_the_root : parent_of (codes "/a") ≡ Some (codes "/")
unfolding parent_of components_of
parent_below_the_root = refl

pub parent_of_a_name : parent_of (codes "a") ≡ Some []
unfolding parent_of components_of
parent_of_a_name = refl

pub root_has_no_parent : parent_of (codes "//.//") ≡ None
unfolding parent_of components_of
root_has_no_parent = refl

pub nothing_has_no_parent : parent_of [] ≡ None
unfolding parent_of components_of
nothing_has_no_parent = refl

pub ancestors_of_two_names : ancestors_of (codes "a//b") ≡ codes "a//b" ∷ codes "a" ∷ [] ∷ []
unfolding ancestors_of parent_of components_of
ancestors_of_two_names = refl

pub ancestors_of_two_dots : ancestors_of (codes "..") ≡ codes ".." ∷ [] ∷ []
unfolding ancestors_of parent_of components_of
ancestors_of_two_dots = refl

pub same_behind_a_dot : same_path (codes "a/.") (codes "a") ≡ true
unfolding same_path components_of
same_behind_a_dot = refl

pub same_root : same_path (codes "/") (codes "//") ≡ true
unfolding same_path components_of
same_root = refl

pub same_two_dots : same_path (codes "..") (codes "../") ≡ true
unfolding same_path components_of
same_two_dots = refl

pub two_dots_take_nothing_back : same_path (codes "a/..") [] ≡ false
unfolding same_path components_of
two_dots_take_nothing_back = refl

pub two_dots_before : same_path (codes "../a") (codes "a") ≡ false
unfolding same_path components_of
two_dots_before = refl

pub stem_of_a_spec_path : stem_of (codes "dir/avr.json") ≡ Some (codes "avr")
unfolding stem_of file_name_of parent_of components_of
stem_of_a_spec_path = refl

pub extension_of_a_spec_path : extension_of (codes "dir/avr.json") ≡ Some (codes "json")
unfolding extension_of file_name_of parent_of components_of
extension_of_a_spec_path = refl

pub empty_extension : extension_of (codes "a.") ≡ Some []
unfolding extension_of file_name_of parent_of components_of
empty_extension = refl

pub stem_of_a_dotted_name : stem_of (codes "/.cargo") ≡ Some (codes ".cargo")
unfolding stem_of file_name_of parent_of components_of
stem_of_a_dotted_name = refl

pub two_dots_have_no_stem : stem_of (codes "a/..") ≡ None
unfolding stem_of file_name_of parent_of components_of
two_dots_have_no_stem = refl

pub root_has_no_stem : stem_of (codes "/") ≡ None
unfolding stem_of file_name_of parent_of components_of
root_has_no_stem = refl

pub same_home : same_path (codes "/p//.cargo/") (codes "/p/.cargo") ≡ true
unfolding same_path components_of
same_home = refl

-- empty files, at these paths
abbrev files_at : List (List ℕ) → Tree
files_at [] path = None
files_at (p ∷ ps) path = cond (bytes_eq path p) (Some (Some [])) (files_at ps path)

-- the home is an ancestor's folder, and `config` goes before `config.toml`
pub walk_with_a_home : walked
    (files_at (codes "/p/a/.cargo/config" ∷ codes "/p/a/b/.cargo/config" ∷ codes "/p/a/b/.cargo/config.toml" ∷ codes "/p/a/b/c/.cargo/config.toml" ∷ []))
    (codes "/p/a/b/c") (Some (codes "/p/a/.cargo"))
    ≡ codes "/p/a/b/c/.cargo/config.toml" ∷ codes "/p/a/b/.cargo/config" ∷ codes "/p/a/.cargo/config" ∷ []
unfolding joined ancestors_of parent_of components_of same_path
walk_with_a_home = refl

-- a directory that is a dot
pub walk_from_a_dot : walked (files_at (codes "./.cargo/config.toml" ∷ codes ".cargo/config.toml" ∷ [])) (codes ".") None
    ≡ codes "./.cargo/config.toml" ∷ codes ".cargo/config.toml" ∷ []
unfolding joined ancestors_of parent_of components_of same_path
walk_from_a_dot = refl
