-- Settings that are read as words.
use Rattle.std.specs.Prelude.{ℕ, Bool, true, false, ◌&&◌, ◌||◌, List, [], ◌∷◌, codes}
use Rattle.serde_json.specs.Data.{Data, string}
use Rattle.cc2_json.specs.Forms.{words_data}
use Rattle.cc2_leaf.specs.Pieces.{spaced}
use Rattle.cc2_cargo_settings.specs.Words.{white_words}
use Rattle.cc2_findings.specs.Places.{is_among}

-- the last key is that of flags, a runner, a browser or a credential provider
abbrev pub ends_in_words : List (List ℕ) → Bool
ends_in_words [] = false
ends_in_words (k ∷ []) =
    is_among (codes "browser" ∷ codes "credential-provider" ∷ codes "runner" ∷ codes "rustdocflags" ∷ codes "rustflags" ∷ []) k
ends_in_words (k ∷ (l ∷ p)) = ends_in_words (l ∷ p)

-- what is at a path is read as words
abbrev pub takes_words : List (List ℕ) → Bool
takes_words [] = false
takes_words (k ∷ p) =
    is_among (codes "alias" ∷ codes "credential-alias" ∷ []) k
    || (is_among (codes "build" ∷ codes "doc" ∷ codes "registries" ∷ codes "registry" ∷ codes "target" ∷ []) k && ends_in_words p)

-- words as an array
abbrev pub words : List (List ℕ) → Data
words ws = words_data true ws

-- a text as the array of its words as cargo-config2 0.1.45 splits it, at spaces; whatever else as it is
abbrev pub as_crate_words : Data → Data
as_crate_words (string text) = words (spaced text)
as_crate_words d = d

-- the same as Cargo splits it, at white space
abbrev pub as_cargo_words : Data → Data
as_cargo_words (string text) = words (white_words text)
as_cargo_words d = d
