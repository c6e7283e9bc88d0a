-- Worked examples of targets and of flags in one text, computed on the definitions.
use Rattle.std.proofs.Common.{◌≡◌, ℕ, List, [], ◌∷◌, Some, None, Ok, Err, codes, refl}
use Rattle.std.specs.Str.{chars, trim_end, trim_start}
use lib.Utf8.{encode}
use Rattle.cc2_base.specs.Paths.{components_of, file_name_of, stem_of, extension_of}
use Rattle.cc2_error.specs.Causes.{plain, separator_cause}
use Rattle.cc2_error.specs.declared.error.Separator.TheVariants.{Space, Unit}
use Rattle.cc2_leaf.specs.Pieces.{encoded, spaced}
use Rattle.cc2_resolved.specs.Encodings.{encoded_with}
use Rattle.cc2_resolved.specs.Targets.{target_of}

-- the text is a triple
abbrev IsTriple : List ℕ → Type 0
IsTriple text = target_of text ≡ Some (record { triple = text; spec_path = None })

-- the text is a spec path with this triple
abbrev IsSpecOf : List ℕ → List ℕ → Type 0
IsSpecOf triple text = target_of text ≡ Some (record { triple = triple; spec_path = Some text })

pub triple_of_a_host : IsTriple (codes "x86_64-unknown-linux-gnu")
unfolding components_of file_name_of stem_of extension_of
triple_of_a_host = refl

pub triple_with_a_dot : IsTriple (codes "thumbv8m.main-none-eabi")
unfolding components_of file_name_of stem_of extension_of
triple_with_a_dot = refl

pub nothing_is_a_triple : IsTriple []
unfolding components_of file_name_of stem_of extension_of
nothing_is_a_triple = refl

pub hidden_file_is_a_triple : IsTriple (codes ".json")
unfolding components_of file_name_of stem_of extension_of
hidden_file_is_a_triple = refl

pub other_extension_is_a_triple : IsTriple (codes "a.jsonc")
unfolding components_of file_name_of stem_of extension_of
other_extension_is_a_triple = refl

pub two_dots_are_a_triple : IsTriple (codes "..")
unfolding components_of file_name_of stem_of extension_of
two_dots_are_a_triple = refl

pub spec_in_a_folder : IsSpecOf (codes "avr") (codes "dir/avr.json")
unfolding components_of file_name_of stem_of extension_of
spec_in_a_folder = refl

pub spec_in_any_case : IsSpecOf (codes "avr") (codes "avr.JsoN")
unfolding components_of file_name_of stem_of extension_of
spec_in_any_case = refl

pub spec_with_two_dots : IsSpecOf (codes "a.b") (codes "a.b.json")
unfolding components_of file_name_of stem_of extension_of
spec_with_two_dots = refl

pub slash_makes_a_spec : IsSpecOf (codes "b") (codes "a/b")
unfolding components_of file_name_of stem_of extension_of
slash_makes_a_spec = refl

pub backslash_makes_a_spec : IsSpecOf (codes "a\\b") (codes "a\\b.c")
unfolding components_of file_name_of stem_of extension_of
backslash_makes_a_spec = refl

pub root_is_refused : target_of (codes "/") ≡ None
unfolding components_of file_name_of stem_of extension_of
root_is_refused = refl

pub folder_above_is_refused : target_of (codes "a/..") ≡ None
unfolding components_of file_name_of stem_of extension_of
folder_above_is_refused = refl

pub dot_folder_is_refused : target_of (codes "./") ≡ None
unfolding components_of file_name_of stem_of extension_of
dot_folder_is_refused = refl

pub nothing_encoded : encoded_with Unit [] ≡ Ok []
nothing_encoded = refl

pub leading_empty_flags_are_left_out : encoded_with Unit ([] ∷ codes "a" ∷ []) ≡ Ok (codes "a")
leading_empty_flags_are_left_out = refl

pub empty_flags_alone : encoded_with Unit ([] ∷ [] ∷ []) ≡ Ok []
empty_flags_alone = refl

pub empty_flag_between : encoded_with Unit (codes "a" ∷ [] ∷ codes "b" ∷ []) ≡ Ok (codes "a\u{1f}\u{1f}b")
empty_flag_between = refl

pub empty_flag_at_the_end : encoded_with Unit ([] ∷ codes "a" ∷ [] ∷ []) ≡ Ok (codes "a\u{1f}")
empty_flag_at_the_end = refl

pub space_between_empty_flags : encoded_with Space ([] ∷ codes "-C" ∷ [] ∷ codes "lto" ∷ []) ≡ Ok (codes "-C  lto")
space_between_empty_flags = refl

pub separator_is_refused : encoded_with Unit (codes "a" ∷ codes "b\u{1f}c" ∷ []) ≡ Err (plain (separator_cause Unit))
separator_is_refused = refl

pub other_separator_is_not : encoded_with Space (codes "a" ∷ codes "b\u{1f}c" ∷ []) ≡ Ok (codes "a b\u{1f}c")
other_separator_is_not = refl

pub encoded_text : encoded (codes "a\u{1f}\u{1f}b") ≡ codes "a" ∷ [] ∷ codes "b" ∷ []
encoded_text = refl

pub encoded_nothing : encoded [] ≡ []
encoded_nothing = refl

pub separator_alone : encoded (codes "\u{1f}") ≡ [] ∷ [] ∷ []
separator_alone = refl

pub spaced_text : spaced (codes "  -C  opt-level=3 ") ≡ codes "-C" ∷ codes "opt-level=3" ∷ []
unfolding chars encode trim_end trim_start
spaced_text = refl

pub other_blanks_are_trimmed : spaced (codes "\ta\n b\u{1f}c") ≡ codes "a" ∷ codes "b\u{1f}c" ∷ []
unfolding chars encode trim_end trim_start
other_blanks_are_trimmed = refl
