-- Flags at a key that are an array of texts, where no variable of a target is set.
use Rattle.std.proofs.Common.{◌≡◌, ℕ, List, [], ◌∷◌, ◌++◌, Option, Some, None, option_map, Result, Ok, Err, IfOk, IfSome, String, Global, map, codes, false, refl, sym, ap, ◌∙◌, subst}
use Rattle.std.specs.Global.{Vec}
use Rattle.toml.specs.Data.{Data, string, integer, float, boolean, datetime, array as data_array, table as data_table}
use Rattle.cc2_error.specs.Causes.{Refusal}
use Rattle.cc2_base.specs.declared.machine.Machine.{Machine}
use Rattle.cc2_value.specs.Cells.{Origin, Word}
use Rattle.cc2_cargo.specs.Raw.{Path, RawCell, RawValue, single, array, table}
use Rattle.cc2_cargo_settings.specs.Cells.{plain_texts_at, plain_texts, texts_view, and_texts}
use Rattle.cc2_cargo_settings.specs.Cells.{array_words, read_as, text_word, typed, with_word, words_of_cell}
use Rattle.cc2_cargo_settings.specs.Found.{Lookup, at, blocked, lookup_at, nowhere}
use Rattle.cc2_cargo_settings.specs.Values.{list_joined, on_ok}
use Rattle.cc2_cargo_settings.specs.Variables.{given, is_any_below, text_given}
use Rattle.cc2_cargo_settings.proofs.Unset.{unset}
use Rattle.cc2_cargo_target.specs.AtKey.{flags_at, if_found, key_path, variable_at_key}
use Rattle.cc2_cargo_target.specs.Flags.{texts_read}
use Rattle.cc2_cargo_target.specs.Keys.{checked_then}

abbrev texts_of : Option (List Word) → Option (List (List ℕ))
texts_of words = option_map (map (λ w. w.text)) words

-- the texts of an array are those of its words
one_more : (d : Data) (origin : Option Origin) (others : Option (List Word)) → and_texts d (texts_of others) ≡ texts_of (with_word (text_word d origin) others)
one_more (string t) origin None = refl
one_more (string t) origin (Some ws) = refl
one_more (integer z) origin others = refl
one_more (float x) origin others = refl
one_more (boolean b) origin others = refl
one_more (datetime t) origin others = refl
one_more (data_array ds) origin others = refl
one_more (data_table ms) origin others = refl

of_words : (ss : List RawValue) → plain_texts ss ≡ texts_of (array_words ss)
of_words [] = refl
of_words (s ∷ ss) = ap (and_texts s.value) (of_words ss) ∙ one_more s.value s.origin (array_words ss)

-- a list that no variable adds to
abbrev list_in : Path → List ℕ → Lookup → Result (Option (List Word)) Refusal
list_in path name place = if_found place (on_ok (λ set. Ok (list_joined name None set)) (read_as words_of_cell path place))

in_place : (path : Path) (name : List ℕ) (place : Lookup) (ts : List (List ℕ)) → plain_texts_at place ≡ Some ts → texts_read (list_in path name place) ≡ Ok ts
in_place path name nowhere ts is = ap Ok (cc is)
in_place path name (at (array from ss)) ts is = go (array_words ss) (sym (of_words ss) ∙ is)
  where
    go : (words : Option (List Word)) → texts_of words ≡ Some ts
        → texts_read (on_ok (λ set. Ok (list_joined name None set)) (typed path words)) ≡ Ok ts
    go (Some ws) same = ap Ok (cc same)
    go None same = cc same
in_place path name (at (single s)) ts is = cc is
in_place path name (at table) ts is = cc is
in_place path name blocked ts is = cc is

pub plain_flags : (look : Path → Option RawCell) (machine : Machine) (key : List ℕ) (ts : List (List ℕ)) → is_any_below machine (codes "CARGO_TARGET_") ≡ false
    → plain_texts_at (lookup_at look (key_path key (codes "rustflags"))) ≡ Some ts → texts_read (flags_at look machine key) ≡ Ok ts
plain_flags look machine key ts none is =
    let path = key_path key (codes "rustflags") in
    let name = variable_at_key key (codes "rustflags") in
    ap (λ g. texts_read (if_found (lookup_at look path) (on_ok (λ set. Ok (list_joined name (text_given g) set)) (read_as words_of_cell path (lookup_at look path)))))
    (unset (codes "CARGO_TARGET_") (key ++ (95 ∷ codes "rustflags")) machine none)
    ∙ in_place path name (lookup_at look path) ts is

pub plain_read : {E : Type 0} (look : Path → Option RawCell) (machine : Machine) (key : List ℕ) (result : Result (Option (Vec (String Global))) E)
    → is_any_below machine (codes "CARGO_TARGET_") ≡ false
    → IfOk result (λ texts. option_map texts_view texts ≡ plain_texts_at (lookup_at look (key_path key (codes "rustflags"))))
    → IfOk result (λ flags. IfSome flags (λ texts. texts_read (flags_at look machine key) ≡ Ok (texts_view texts)))
plain_read look machine key (Ok (Some texts)) none h = plain_flags look machine key (texts_view texts) none (sym h)
plain_read look machine key (Ok None) none h = tt
plain_read look machine key (Err e) none h = tt

-- flags whose texts are read can be read
pub read_checked : (r : Result (Option (List Word)) Refusal) (ts : List (List ℕ)) → texts_read r ≡ Ok ts → checked_then r (Ok tt) ≡ Ok tt
read_checked (Ok set) ts is = refl
read_checked (Err refusal) ts is = cc is
