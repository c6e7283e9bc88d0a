-- The cells of programs, by what shows them.
use Rattle.std.proofs.Common.{◌≡◌, ℕ, ◌-◌, ◌≤◌, Bool, true, false, List, [], ◌∷◌, length, take, drop, get_or, map, string_bytes, String, Global, Option, None, refl, sym, ap, ◌∙◌, arith}
use Rattle.std.proofs.Math.Seq.{drop-cons, take-length}
use Rattle.std.proofs.lemmas.List.{length-drop}
use Rattle.std.specs.Prelude.{if◌then◌else◌}
use Rattle.cc2_value.specs.Cells.{field, name, Key, KeyPath, Cell}
use Rattle.cc2_leaf.specs.Commands.{command_value}
use Rattle.cc2_leaf.specs.declared.path_and_args.PathAndArgs.{PathAndArgs}
use Rattle.cc2_resolved.specs.Resolving.{meant_as, settled}
use Rattle.cc2_resolved.specs.Rows.{made_of}
use Rattle.cc2_resolved.specs.Sites.{Site}
use Rattle.cc2_resolved.specs.declared.roots.Meant.TheVariants.{Program}
use Rattle.cc2_lint_settings.specs.UnresolvedKeys.{is_program}
use Rattle.cc2_lint_settings.specs.Programs.{program_below}

-- what shows the same cells shows the same program
pub below_same : (keys : List (List ℕ)) (look other : KeyPath → Option Cell) → ((p : KeyPath) → look p ≡ other p)
    → program_below keys look ≡ program_below keys other
below_same [] look other same = refl
below_same (key ∷ []) look other same = ap (λ (c : Option Cell). if is_program key then c else None) (same (field key ∷ []))
below_same (table ∷ (next ∷ path)) look other same =
    below_same (next ∷ path) (λ p. look (name table ∷ p)) (λ p. other (name table ∷ p)) (λ p. same (name table ∷ p))

either_none : (b : Bool) (c : Option Cell) → c ≡ None → (if b then c else None) ≡ None
either_none true c none = none
either_none false c none = refl

-- where there is nothing below there is no program
pub below_none : (keys : List (List ℕ)) (look : KeyPath → Option Cell) → ((k : Key) (p : KeyPath) → look (k ∷ p) ≡ None)
    → program_below keys look ≡ None
below_none [] look none = refl
below_none (key ∷ []) look none = either_none (is_program key) (look (field key ∷ [])) (none (field key) [])
below_none (table ∷ (next ∷ path)) look none =
    below_none (next ∷ path) (λ p. look (name table ∷ p)) (λ k p. none (name table) (k ∷ p))

-- a command is resolved as a program
pub as_program : (site : Site) (c : Option PathAndArgs)
    → made_of (settled site) (command_value c []) ≡ made_of (meant_as Program site) (command_value c [])
as_program site None = refl
as_program site (Option.Some c) = refl

-- the first of a list, and those after it
pub parted : {A : Type 0} (xs : List A) (x : A) → 1 ≤ length xs → x ≡ get_or xs 0 x → x ∷ take (length xs - 1) (drop 1 xs) ≡ xs
parted {A} xs x long first =
    ap (λ (ys : List A). x ∷ ys) (ap (λ (n : ℕ). take n (drop 1 xs)) (sym (length-drop 1 xs)) ∙ take-length (drop 1 xs))
    ∙ (ap (λ (y : A). y ∷ drop 1 xs) first ∙ sym (drop-cons xs 0 x (omega (arith, long))))

-- after a key there are others: they lead on from what is at it
pub inside : (key : List ℕ) (path : List (String Global)) (look : KeyPath → Option Cell) → 1 ≤ length path
    → program_below (map string_bytes path) (λ p. look (name key ∷ p)) ≡ program_below (key ∷ map string_bytes path) look
inside key [] look long = absurd (omega (arith, long))
inside key (next ∷ path) look long = refl
