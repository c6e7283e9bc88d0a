-- Which predicates are true in a key of `[target]`, by what rustc printed.
-- Rust Reference, Conditional compilation; Cargo Reference, Configuration, `[target]`, and Specifying
-- Dependencies, "Platform specific dependencies", for those that say nothing of a target.
use Rattle.std.specs.Prelude.{◌||◌, if◌then◌else◌, Bool, true, false, List, codes, bytes_eq}
use Rattle.std.specs.List.{list_any}
use Rattle.cc2_cfg.specs.Meaning.{Atom, FlagAtom, PairAtom}
use Rattle.cc2_rustc.specs.Printed.{same_atom}

-- it is true whatever was printed
abbrev pub is_always : Atom → Bool
is_always (FlagAtom word) = bytes_eq word (codes "true")
is_always (PairAtom key value) = false

-- it is false whatever was printed
abbrev pub is_never : Atom → Bool
is_never (FlagAtom word) =
    bytes_eq word (codes "false") || bytes_eq word (codes "test") || bytes_eq word (codes "debug_assertions")
    || bytes_eq word (codes "proc_macro")
is_never (PairAtom key value) = bytes_eq key (codes "feature")

-- it was printed
abbrev pub has : List Atom → Atom → Bool
has atoms atom = list_any (same_atom atom) atoms

-- it is true by what was printed
abbrev pub holds : List Atom → Atom → Bool
holds atoms atom = if is_always atom then true else if is_never atom then false else has atoms atom
