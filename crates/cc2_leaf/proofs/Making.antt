-- Single values that are made of the words of a list.
use Rattle.std.proofs.Common.{◌≡◌, Bool, true, false, ℕ, List, [], ◌∷◌, Option, Some, None, Result, Ok, Err, ◌++◌, option_map, refl, sym, ap, subst, ◌∙◌, inl, inr, arith}
use Rattle.toml.specs.Data.{Data}
use Rattle.cc2_error.specs.Causes.{refusal_of, plain}
use Rattle.cc2_error.specs.declared.error.Error.{Error}
use Rattle.cc2_value.specs.Cells.{KeyPath, Setting, Word, Origin}
use Rattle.cc2_value.specs.Shown.{single_at}
use Rattle.cc2_value.specs.Ways.{Flaw, Fault, fault_cause, missing, IsDecoded, IsFaultBehind}
use Rattle.cc2_leaf.specs.Lists.{Listed, pieces, items, listed, listed_cell, words_at, words_cell, is_array}
use Rattle.cc2_leaf.specs.Made.{Making, made_of, single_of, faults_of}
use Rattle.cc2_leaf.specs.Commands.{command_made}
use Rattle.cc2_leaf.specs.declared.repr.Repr.{Repr}
use Rattle.cc2_leaf.specs.declared.repr.Repr.TheVariants as repr

-- where the words were set is nothing to their faults
abbrev pub FaultsAgree : Making → Type 0
FaultsAgree make = (b : Bool) (origin : Option Origin) (texts : List (List ℕ)) → faults_of (make b (words_at None texts)) ≡ faults_of (make b (words_at origin texts))

module _ (make : Making) (agree : FaultsAgree make) (origin : Option Origin) where
  made_is : (read : Option Listed) (r : Repr) (words : List Word) → option_map (listed_cell origin) read ≡ Some (words_cell r words) → made_of make origin read ≡ make (is_array r) words
  made_is None repr.Text words h = cc
  made_is None repr.Array words h = cc
  made_is (Some (pieces texts)) repr.Text words h = let e : words_at origin texts ≡ words = cc in ap (make false) e
  made_is (Some (pieces texts)) repr.Array words h = cc
  made_is (Some (items texts)) repr.Text words h = cc
  made_is (Some (items texts)) repr.Array words h = let e : words_at origin texts ≡ words = cc in ap (make true) e

  faults_same : (read : Option Listed) → faults_of (made_of make None read) ≡ faults_of (made_of make origin read)
  faults_same None = refl
  faults_same (Some (pieces texts)) = agree false origin texts
  faults_same (Some (items texts)) = agree true origin texts

  made_shown : {A : Type 0} (setting : A → Setting) (a : A) (m : Result Setting Fault) → m ≡ Ok (setting a) → (p : KeyPath) → single_at setting a p ≡ single_of m p
  made_shown setting a m h [] = ap (λ o. single_of o []) (sym h)
  made_shown setting a m h (k ∷ p) = ap (λ o. single_of o (k ∷ p)) (sym h)

  pub made_decoded : {A : Type 0} (setting : A → Setting) (a : A) (d : Data) (r : Repr) (words : List Word)
      → option_map (listed_cell origin) (listed d) ≡ Some (words_cell r words) → make (is_array r) words ≡ Ok (setting a)
      → IsDecoded (single_at setting) (λ p. single_of (made_of make origin (listed d)) p) (faults_of (made_of make None (listed d))) a
  made_decoded setting a d r words h m =
      let is : made_of make origin (listed d) ≡ Ok (setting a) = made_is (listed d) r words h ∙ m in
      (faults_same (listed d) ∙ ap faults_of is, made_shown setting a (made_of make origin (listed d)) is)

  pub made_refused : (keys : List (List ℕ)) (d : Data) (r : Repr) (words : List Word) (e : Error)
      → option_map (listed_cell origin) (listed d) ≡ Some (words_cell r words) → IsFaultBehind keys (faults_of (make (is_array r) words)) e
      → IsFaultBehind keys (faults_of (made_of make None (listed d))) e
  made_refused keys d r words e h f =
      subst (λ (flaws : List Flaw). IsFaultBehind keys flaws e) (sym (faults_same (listed d) ∙ ap faults_of (made_is (listed d) r words h))) f

-- what is no list is refused, whatever is to be made
pub unlisted : (make : Making) (keys : List (List ℕ)) (read : Option Listed) (e : Error) → IsFaultBehind keys (missing read) e → IsFaultBehind keys (faults_of (made_of make None read)) e
unlisted make keys None e h = h
unlisted make keys (Some l) e (inl m) = inl m
unlisted make keys (Some l) e (inr (f, (i, lt, is), says)) = absurd (omega (arith, lt))

-- one that isn't made is refused for its fault, wherever the value is
pub fault_made : (m : Result Setting Fault) (fault : Fault) (e : Error) → m ≡ Err fault → ((path : List (List ℕ)) → refusal_of e ≡ plain (fault_cause path fault))
    → (keys : List (List ℕ)) → IsFaultBehind keys (faults_of m) e
fault_made m fault e is says keys =
    subst (λ (q : Result Setting Fault). IsFaultBehind keys (faults_of q) e) (sym is) (inr (([], fault), (0, omega arith, refl), says (keys ++ [])))

pub command_agrees : FaultsAgree command_made
command_agrees b origin [] = refl
command_agrees b origin (text ∷ texts) = refl
