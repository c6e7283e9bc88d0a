-- The flags for rustc or rustdoc, by what Cargo 1.95 reads: those of variables that override everything, else those of the
-- triple and of the keys that match, else those of `build`. Cargo Reference, Configuration, `build.rustflags`.
use Rattle.std.specs.Prelude.{ℕ, List, [], ◌∷◌, ◌++◌, map, codes, Option, Some, None, Result, Ok, Err}
use Rattle.std.specs.List.{slice_split}
use Rattle.cc2_error.specs.Causes.{Refusal}
use Rattle.cc2_base.specs.declared.machine.Machine.{Machine}
use Rattle.cc2_leaf.specs.Pieces.{encoded, spaced}
use Rattle.cc2_base.specs.Paths.{is_dot}
use Rattle.cc2_base.specs.VariableNames.{target_variable}
use Rattle.cc2_value.specs.Cells.{Word}
use Rattle.cc2_cargo.specs.Raw.{Path, RawCell}
use Rattle.cc2_cargo_target.specs.AtKey.{flags_at}
use Rattle.cc2_cargo_settings.specs.Values.{list_at, words_or_none}
use Rattle.cc2_cargo_settings.specs.Variables.{variable_text}
use Rattle.cc2_cargo_target.specs.declared.tool.Tool.{Tool}
use Rattle.cc2_cargo_target.specs.declared.tool.Tool.TheVariants as tool

abbrev pub encoded_variable : Tool → List ℕ
encoded_variable tool.Rustc = codes "CARGO_ENCODED_RUSTFLAGS"
encoded_variable tool.Rustdoc = codes "CARGO_ENCODED_RUSTDOCFLAGS"

abbrev pub plain_variable : Tool → List ℕ
plain_variable tool.Rustc = codes "RUSTFLAGS"
plain_variable tool.Rustdoc = codes "RUSTDOCFLAGS"

abbrev pub build_variable : Tool → List ℕ
build_variable tool.Rustc = codes "CARGO_BUILD_RUSTFLAGS"
build_variable tool.Rustdoc = codes "CARGO_BUILD_RUSTDOCFLAGS"

abbrev pub flags_key : Tool → List ℕ
flags_key tool.Rustc = codes "rustflags"
flags_key tool.Rustdoc = codes "rustdocflags"

-- what ends the name of a triple's variable
abbrev pub flags_suffix : Tool → List ℕ
flags_suffix tool.Rustc = codes "_RUSTFLAGS"
flags_suffix tool.Rustdoc = codes "_RUSTDOCFLAGS"

-- the keys that have flags for it: Cargo 1.95 reads no flags for rustdoc at keys `cfg(..)`
abbrev pub keys_for : Tool → List (List ℕ) → List (List ℕ)
keys_for tool.Rustc keys = keys
keys_for tool.Rustdoc keys = []

-- the path of a setting of a triple: a dot in the triple leads to a table below
abbrev pub triple_path : List ℕ → List ℕ → Path
triple_path triple what = (codes "target" ∷ slice_split is_dot triple) ++ what ∷ []

-- flags of a variable that overrides everything
abbrev pub override_flags : Option (List ℕ) → Option (List ℕ) → Option (List (List ℕ))
override_flags (Some text) other = Some (encoded text)
override_flags None (Some text) = Some (spaced text)
override_flags None None = None

abbrev pub set_flags : Machine → Tool → Option (List (List ℕ))
set_flags machine t = override_flags (variable_text machine (encoded_variable t)) (variable_text machine (plain_variable t))

abbrev pub set_texts : Option (List Word) → List (List ℕ)
set_texts set = map (λ w. w.text) (words_or_none set)

-- the texts of what is read
abbrev pub texts_read : Result (Option (List Word)) Refusal → Result (List (List ℕ)) Refusal
texts_read (Ok set) = Ok (set_texts set)
texts_read (Err refusal) = Err refusal

-- these, and then those
abbrev pub and_those : List (List ℕ) → Result (List (List ℕ)) Refusal → Result (List (List ℕ)) Refusal
and_those ts (Ok us) = Ok (ts ++ us)
and_those ts (Err refusal) = Err refusal

abbrev pub one_after_another : Result (List (List ℕ)) Refusal → Result (List (List ℕ)) Refusal → Result (List (List ℕ)) Refusal
one_after_another (Ok ts) others = and_those ts others
one_after_another (Err refusal) others = Err refusal

-- the first, unless there are none
abbrev pub or_flags : Result (List (List ℕ)) Refusal → Result (List (List ℕ)) Refusal → Result (List (List ℕ)) Refusal
or_flags (Ok []) others = others
or_flags (Ok (t ∷ ts)) others = Ok (t ∷ ts)
or_flags (Err refusal) others = Err refusal

-- these flags, or else what is read
abbrev pub unless_set : Option (List (List ℕ)) → Result (List (List ℕ)) Refusal → Result (List (List ℕ)) Refusal
unless_set (Some flags) others = Ok flags
unless_set None others = others

module _ (look : Path → Option RawCell) (machine : Machine) where
  -- those at keys, one after another
  abbrev pub keyed_flags : List (List ℕ) → Result (List (List ℕ)) Refusal
  keyed_flags [] = Ok []
  keyed_flags (k ∷ ks) = one_after_another (texts_read (flags_at look machine k)) (keyed_flags ks)

  abbrev pub own_flags : Tool → List ℕ → Result (List (List ℕ)) Refusal
  own_flags t triple = texts_read (list_at look machine (triple_path triple (flags_key t)) (target_variable triple (flags_suffix t)))

  abbrev pub build_flags : Tool → Result (List (List ℕ)) Refusal
  build_flags t = texts_read (list_at look machine (codes "build" ∷ (flags_key t ∷ [])) (build_variable t))

  -- the flags of a triple, where these keys match
  abbrev pub flags_of : Tool → List ℕ → List (List ℕ) → Result (List (List ℕ)) Refusal
  flags_of t triple matching =
      unless_set (set_flags machine t) (or_flags (one_after_another (own_flags t triple) (keyed_flags (keys_for t matching))) (build_flags t))
