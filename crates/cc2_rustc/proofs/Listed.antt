-- What the lines so far say, with one more line.
use Rattle.std.proofs.Common.{◌≡◌, ℕ, List, [], ◌∷◌, ◌++◌, length, refl, sym, ap, ◌∙◌, Option, Some, None}
use Rattle.std.specs.Prelude.{false, map, filter, filter_map, ◌==◌}
use Rattle.std.specs.Option.{option_to_list}
use Rattle.std.specs.List.{cons_option}
use Rattle.std.specs.Borrow.{Bor}
use Rattle.std.specs.Str.{trim}
use Rattle.std.proofs.lemmas.List.{map-append}
use Rattle.std.proofs.lemmas.List.Elements.{filter-append, filter_map-append}
use Rattle.cc2_cfg.specs.Meaning.{Atom}
use Rattle.cc2_rustc.specs.Printed.{atom_in, has_bytes}

-- what these lines say
abbrev pub said : List (Bor (List ℕ)) → List Atom
said xs = filter_map atom_in (filter has_bytes (map trim (map (λ x. x.now) xs)))

-- and one line alone
abbrev pub said_by : List ℕ → List Atom
said_by text = filter_map atom_in (filter has_bytes (text ∷ []))

pub said-more : (xs : List (Bor (List ℕ))) (x : Bor (List ℕ)) → said (xs ++ x ∷ []) ≡ said xs ++ said_by (trim x.now)
said-more xs x =
    let texts = map (λ (b : Bor (List ℕ)). b.now) xs in
    let text = trim x.now in
    ap (λ z. filter_map atom_in (filter has_bytes (map trim z))) (map-append (λ (b : Bor (List ℕ)). b.now) xs (x ∷ []))
    ∙ ap (λ z. filter_map atom_in (filter has_bytes z)) (map-append trim texts (x.now ∷ []))
    ∙ ap (filter_map atom_in) (filter-append has_bytes (map trim texts) (text ∷ []))
    ∙ filter_map-append atom_in (filter has_bytes (map trim texts)) (filter has_bytes (text ∷ []))

-- a line with bytes says what is in it
by-one : (text : List ℕ) → (length text == 0) ≡ false → said_by text ≡ option_to_list (atom_in text)
by-one [] e = absurd (cc e)
by-one (b ∷ bs) e = only (atom_in (b ∷ bs))
  where
    only : (o : Option Atom) → cons_option o [] ≡ option_to_list o
    only None = refl
    only (Some a) = refl

-- what a line says was kept
pub said-kept : (before after : List Atom) (found : Option Atom) (xs : List (Bor (List ℕ))) (x : Bor (List ℕ))
    (text : List ℕ) → before ≡ said xs → after ≡ before ++ option_to_list found → found ≡ atom_in text
    → text ≡ trim x.now → (length text == 0) ≡ false → after ≡ said (xs ++ x ∷ [])
said-kept before after found xs x text so_far kept is trimmed some =
    kept ∙ ap (λ (z : List Atom). z ++ option_to_list found) so_far
    ∙ ap (λ (z : List Atom). said xs ++ z) (ap option_to_list is ∙ sym (by-one text some) ∙ ap said_by trimmed)
    ∙ sym (said-more xs x)
