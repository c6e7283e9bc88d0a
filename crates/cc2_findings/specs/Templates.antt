-- The variables of a template, which `build.build-dir` is.
-- Cargo Reference, Configuration, `build.build-dir`.
use Rattle.std.specs.Prelude.{ℕ, Bool, false, not, ◌&&◌, ◌||◌, ◌==◌, List, [], ◌∷◌, codes}
use Rattle.std.specs.List.{list_any, slice_split, before_first, after_first}
use Rattle.cc2_findings.specs.Places.{is_among}

-- the variables that Cargo 1.95 knows: data, of which nothing is proved
abbrev pub variables : List (List ℕ)
variables = codes "cargo-cache-home" ∷ codes "workspace-path-hash" ∷ codes "workspace-root" ∷ []

-- `{`
abbrev pub is_opening : ℕ → Bool
is_opening b = b == 123

-- `}`
abbrev pub is_closing : ℕ → Bool
is_closing b = b == 125

abbrev pub is_closed : List ℕ → Bool
is_closed text = list_any is_closing text

-- what follows a `{`: a variable's name, `}`, and no `}` after it
abbrev pub names_variable : List ℕ → Bool
names_variable piece =
    (is_closed piece && is_among variables (before_first is_closing piece)) && not (is_closed (after_first is_closing piece))

abbrev pub lacks_variable : List ℕ → Bool
lacks_variable piece = not (names_variable piece)

-- the pieces of a text that is cut at each `{`
abbrev pub are_stray : List (List ℕ) → Bool
are_stray [] = false
are_stray (first ∷ pieces) = is_closed first || list_any lacks_variable pieces

-- a brace is outside of the variables
abbrev pub has_stray_brace : List ℕ → Bool
has_stray_brace text = are_stray (slice_split is_opening text)
