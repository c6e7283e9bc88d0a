-- Lists that are gathered and reversed: words, and settings of providers.
use Rattle.std.proofs.Common.{◌≡◌, ℕ, List, [], ◌∷◌, ◌++◌, map, reverse, Option, Some, None, option_map, Ok, Global, String, refl, sym, ap, subst, ◌∙◌}
use Rattle.std.proofs.lemmas.List.{reverse-reverse, reverse-append, map-append, append-nil}
use Rattle.std.specs.Global.{Vec}
use Rattle.cc2_value.specs.Cells.{KeyPath, Cell, Items, Joined, Word, Setting, joined, present}
use Rattle.cc2_value.specs.Gathered.{reversed, IsGathered, IsReversed}
use Rattle.cc2_value.specs.JoinedLaws.{joined_alone}
use Rattle.cc2_value.specs.Shown.{leaf_at}
use Rattle.cc2_value.specs.Values.{word_of, words_of}
use Rattle.cc2_value.specs.declared.value.Value.{Value}
use Rattle.cc2_value.proofs.Gathers.{twice}
use Rattle.cc2_value.proofs.TwoCells.{both_none}
use Rattle.cc2_leaf.specs.Lists.{texts_cell, texts_as}
use Rattle.cc2_leaf.specs.ManyProviders.{joined_at, providers_value, settings_of_providers}
use Rattle.cc2_leaf.specs.Providers.{setting_of_provider}
use Rattle.cc2_leaf.specs.Wholes.{whole_cell}
use Rattle.cc2_leaf.specs.declared.provider.CredentialProvider.{CredentialProvider}
use Rattle.cc2_leaf.specs.declared.providers.GlobalCredentialProviders.{GlobalCredentialProviders}
use Rattle.cc2_leaf.specs.declared.repr.Repr.TheVariants as repr
use Rattle.cc2_leaf.specs.declared.string_or_array.StringOrArray.TheVariants as whole

reverse-cons : {A : Type 0} (x : A) (xs : List A) → reverse (x ∷ xs) ≡ reverse xs ++ x ∷ []
reverse-cons x xs = reverse-append (x ∷ []) xs

map-reverse : {A B : Type 0} (f : A → B) (xs : List A) → map f (reverse xs) ≡ reverse (map f xs)
map-reverse f [] = refl
map-reverse f (x ∷ xs) =
    ap (map f) (reverse-cons x xs) ∙ map-append f (reverse xs) (x ∷ []) ∙ ap (λ ys. ys ++ f x ∷ []) (map-reverse f xs)
    ∙ sym (reverse-cons (f x) (map f xs))

-- what images make whose originals are put after others, the last first
images : {A B : Type 0} (f : A → B) (high low new : List A) → new ≡ high ++ reverse low → map f new ≡ map f high ++ reverse (map f low)
images f high low new h = ap (map f) h ∙ map-append f high (reverse low) ∙ ap (λ ys. map f high ++ ys) (map-reverse f low)

turned_again : {A : Type 0} (hs ls ns : List A) → ns ≡ hs ++ reverse ls → reverse ns ≡ ls ++ (reverse hs ++ [])
turned_again hs ls ns h =
    ap reverse h ∙ reverse-append hs (reverse ls) ∙ ap (λ ws. ws ++ reverse hs) (reverse-reverse ls)
    ∙ ap (λ ws. ls ++ ws) (sym (append-nil (reverse hs)))

words_gathered : (hs ls ns : List Word) → ns ≡ hs ++ reverse ls → joined (Items (reverse hs) ∷ Items ls ∷ []) ≡ Ok (Some (Items (reverse ns)))
words_gathered hs ls ns h = ap (λ ws. Ok (Some (Items ws))) (sym (turned_again hs ls ns h))

-- lists of texts
pub texts_gathered : (high low : Vec (Value (String Global))) → IsGathered (leaf_at texts_cell) (texts_as repr.Text high) (texts_as repr.Text low) (texts_as repr.Text high)
texts_gathered high low [] = refl
texts_gathered high low (k ∷ p) = refl

pub arrays_gathered : (high low new : Vec (Value (String Global))) → new.items ≡ high.items ++ reverse low.items
    → IsGathered (leaf_at texts_cell) (texts_as repr.Array high) (texts_as repr.Array low) (texts_as repr.Array new)
arrays_gathered high low new h [] = words_gathered (words_of high.items) (words_of low.items) (words_of new.items) (images word_of high.items low.items new.items h)
arrays_gathered high low new h (k ∷ p) = refl

pub text_reversed : (list : Vec (Value (String Global))) → IsReversed (leaf_at texts_cell) (texts_as repr.Text list) (texts_as repr.Text list)
text_reversed list [] = refl
text_reversed list (k ∷ p) = refl

pub array_reversed : (old new : Vec (Value (String Global))) → new.items ≡ reverse old.items → IsReversed (leaf_at texts_cell) (texts_as repr.Array old) (texts_as repr.Array new)
array_reversed old new h [] = ap (λ xs. Some (Items (words_of xs))) h ∙ ap (λ ws. Some (Items ws)) (map-reverse word_of old.items)
array_reversed old new h (k ∷ p) = refl

-- a text or an array, as it is
pub wholes_gathered : (high low : Value (String Global)) → IsGathered (leaf_at whole_cell) (whole.String high) (whole.String low) (whole.String high)
wholes_gathered high low [] = refl
wholes_gathered high low (k ∷ p) = refl

pub whole_arrays_gathered : (high low new : Vec (Value (String Global))) → new.items ≡ high.items ++ reverse low.items
    → IsGathered (leaf_at whole_cell) (whole.Array high) (whole.Array low) (whole.Array new)
whole_arrays_gathered high low new h [] = words_gathered (words_of high.items) (words_of low.items) (words_of new.items) (images word_of high.items low.items new.items h)
whole_arrays_gathered high low new h (k ∷ p) = refl

pub whole_reversed : (text : Value (String Global)) → IsReversed (leaf_at whole_cell) (whole.String text) (whole.String text)
whole_reversed text [] = refl
whole_reversed text (k ∷ p) = refl

pub whole_array_reversed : (old new : Vec (Value (String Global))) → new.items ≡ reverse old.items → IsReversed (leaf_at whole_cell) (whole.Array old) (whole.Array new)
whole_array_reversed old new h [] = ap (λ xs. Some (Items (words_of xs))) h ∙ ap (λ ws. Some (Items ws)) (map-reverse word_of old.items)
whole_array_reversed old new h (k ∷ p) = refl

-- providers, which have no cell where there is none
none_reversed : (xs : List Setting) → reverse xs ≡ [] → xs ≡ []
none_reversed xs h = sym (reverse-reverse xs) ∙ ap reverse h

at_root : (xs : List Setting) → (xs ≡ [] → ⊥) → joined_at xs [] ≡ Some (Joined xs)
at_root [] some = absurd (some refl)
at_root (x ∷ xs) some = refl

joined_reversed : (xs : List Setting) → joined_at (reverse xs) [] ≡ option_map reversed (joined_at xs [])
joined_reversed [] = refl
joined_reversed (x ∷ xs) = at_root (reverse (x ∷ xs)) (λ h. absurd (cons_none (none_reversed (x ∷ xs) h)))
  where
    cons_none : x ∷ xs ≡ [] → ⊥
    cons_none h = cc

nothing_below : (xs : List Setting) (k : _) (p : KeyPath) → joined_at xs (k ∷ p) ≡ None
nothing_below [] k p = refl
nothing_below (x ∷ xs) k p = refl

settings_gathered : (hs ls ns : List Setting) → ns ≡ hs ++ reverse ls
    → joined (present (option_map reversed (joined_at hs []) ∷ joined_at ls [] ∷ [])) ≡ Ok (option_map reversed (joined_at ns []))
settings_gathered [] ls ns h =
    joined_alone (joined_at ls []) ∙ ap Ok (sym (twice (joined_at ls []))) ∙ ap (λ o. Ok (option_map reversed o)) (sym (joined_reversed ls))
    ∙ ap (λ xs. Ok (option_map reversed (joined_at xs []))) (sym h)
settings_gathered (x ∷ hs) [] ns h = both_none (option_map reversed (joined_at (x ∷ hs) [])) ∙ ap (λ xs. Ok (option_map reversed (joined_at xs []))) (sym (h ∙ append-nil (x ∷ hs)))
settings_gathered (x ∷ hs) (y ∷ ls) ns h =
    ap (λ ss. Ok (Some (Joined ss))) (sym (turned_again (x ∷ hs) (y ∷ ls) ns h))
    ∙ ap (λ o. Ok (option_map reversed o)) (ap (λ xs. Some (Joined xs)) h ∙ ap (λ xs. joined_at xs []) (sym h))

pub providers_gathered : (high low new : GlobalCredentialProviders) → new.providers.items ≡ high.providers.items ++ reverse low.providers.items
    → IsGathered providers_value high low new
providers_gathered high low new h [] =
    settings_gathered (settings_of_providers high) (settings_of_providers low) (settings_of_providers new)
    (images setting_of_provider high.providers.items low.providers.items new.providers.items h)
providers_gathered high low new h (k ∷ p) =
    ap (λ o. joined (present (option_map reversed o ∷ joined_at (settings_of_providers low) (k ∷ p) ∷ []))) (nothing_below (settings_of_providers high) k p)
    ∙ ap (λ o. joined (present (None ∷ o ∷ []))) (nothing_below (settings_of_providers low) k p)
    ∙ ap (λ o. Ok (option_map reversed o)) (sym (nothing_below (settings_of_providers new) k p))

pub providers_reversed : (old new : GlobalCredentialProviders) → new.providers.items ≡ reverse old.providers.items → IsReversed providers_value old new
providers_reversed old new h [] =
    ap (λ xs. joined_at (map setting_of_provider xs) []) h ∙ ap (λ xs. joined_at xs []) (map-reverse setting_of_provider old.providers.items)
    ∙ joined_reversed (settings_of_providers old)
providers_reversed old new h (k ∷ p) =
    nothing_below (settings_of_providers new) k p ∙ ap (option_map reversed) (sym (nothing_below (settings_of_providers old) k p))
