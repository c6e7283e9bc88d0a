-- Whether a tree is false whatever rustc prints.
-- Cargo Reference, Configuration, `[target]`; Rust Reference, Conditional compilation.
use Rattle.std.specs.Prelude.{nat_le, Bool, true, false, ◌&&◌, ◌||◌, List, [], ◌∷◌, length, Option, Some, None, string_bytes, if◌then◌else◌}
use Rattle.cc2_cfg.specs.Grammar.{Tree}
use Rattle.cc2_cfg.specs.Logic.{kleene_operations}
use Rattle.cc2_cfg.specs.Meaning.{Atom, FlagAtom, PairAtom, meaning, predicates_of}
use Rattle.cc2_rustc.specs.Holds.{is_always, is_never}
use Rattle.cc2_rustc.specs.Printed.{same_atom}
use Rattle.cc2_findings.specs.declared.dead.Decided.{Decided}
use Rattle.cc2_findings.specs.declared.dead.Named.{Named}
use Rattle.cc2_findings.specs.declared.dead.Named.TheVariants.{Flag, Pair}

-- what a predicate is whatever rustc prints; None where that decides
abbrev pub certain : Atom → Option Bool
certain atom = if is_always atom then Some true else if is_never atom then Some false else None

-- what a predicate is where it is decided that rustc prints these or doesn't
abbrev pub known_by : List (Atom × Bool) → Atom → Option Bool
known_by [] atom = certain atom
known_by (d ∷ ds) atom = if same_atom d.0 atom then Some d.1 else known_by ds atom

abbrev pub is_false : Option Bool → Bool
is_false None = false
is_false (Some true) = false
is_false (Some false) = true

-- the tree is false in Kleene's logic by what is decided, whichever of these predicates rustc prints
abbrev pub never_by : List (Atom × Bool) → List Atom → Tree → Bool
never_by ds [] tree = is_false (meaning kleene_operations (known_by ds) tree)
never_by ds (a ∷ others) tree = never_by ((a, true) ∷ ds) others tree && never_by ((a, false) ∷ ds) others tree

-- the tree is false by what is certain, or, of at most eight predicates, whichever of them rustc prints
abbrev pub is_dead : Tree → Bool
is_dead tree =
    is_false (meaning kleene_operations (known_by []) tree)
    || (nat_le (length (predicates_of tree)) 8 && never_by [] (predicates_of tree) tree)

abbrev pub named_view : Named → Atom
named_view (Flag word) = FlagAtom (string_bytes word)
named_view (Pair key value) = PairAtom (string_bytes key) (string_bytes value)

abbrev pub decided_view : Decided → Atom × Bool
decided_view d = (named_view d.named, d.is_printed)
