-- The keys of a table that ask what rustc printed, and the values at those that are true.
-- Cargo Reference, Configuration, `[target]`.
use Rattle.std.specs.Prelude.{◌≡◌, ◌⊎◌, ℕ, List, [], ◌∷◌, ◌++◌, map, filter, Bool, if◌then◌else◌}
use Rattle.std.specs.Prelude.{Option, Some, None, String, string_bytes}
use Rattle.std.specs.Bool.{Decides}
use Rattle.std.specs.BTreeMap.{BTreeMap}
use Rattle.cc2_cfg.specs.Grammar.{Tree}
use Rattle.cc2_cfg.specs.Meaning.{Atom}
use Rattle.cc2_cfg.specs.Shown.{tree_of}
use Rattle.cc2_error.specs.Causes.{Refusal}
use Rattle.cc2_rustc.specs.Keys.{AsksBy, IsKeyTree, IsKeyRefusal, IsTrueKey, value_by}
use Rattle.cc2_rustc.specs.declared.asking.Asking.{Asking}

module _ {X : Type 0} where
  -- a table's entries in their order, the keys by their bytes
  abbrev pub entries_by_text : {Y : Type 0} → BTreeMap (String Y) X → List (List ℕ × X)
  entries_by_text table = map (λ e. (string_bytes e.0, e.1)) table.entries

  -- a tree by which a key asks, with the key's value; none where it doesn't ask
  abbrev pub asked : Option Tree → X → List (Tree × X)
  asked (Some tree) value = (tree, value) ∷ []
  asked None value = []

  -- the keys that ask, in order, each by its tree and with its value
  abbrev pub AreAsking : List (List ℕ × X) → List (Tree × X) → Type 0
  AreAsking [] asking = asking ≡ []
  AreAsking (e ∷ es) asking = (found : Option Tree) × (rest : List (Tree × X)) × IsKeyTree e.0 found
      × AreAsking es rest × (asking ≡ asked found e.1 ++ rest)

  -- some key asks
  abbrev pub SomeKeyAsks : List (List ℕ × X) → Type 0
  SomeKeyAsks [] = ⊥
  SomeKeyAsks (e ∷ es) = ((tree : Tree) × AsksBy e.0 tree) ⊎ SomeKeyAsks es

  -- the values at those whose trees are true by what rustc printed
  abbrev pub true_values : List Atom → List (Tree × X) → List X
  true_values atoms asking = map (λ a. a.1) (filter (λ a. value_by atoms a.0) asking)

  -- the values at the true keys, in the order of the keys
  abbrev pub TrueValues : List Atom → List (List ℕ × X) → List X → Type 0
  TrueValues atoms [] values = values ≡ []
  TrueValues atoms (e ∷ es) values = (holds : Bool) × (rest : List X) × Decides holds (IsTrueKey atoms e.0)
      × TrueValues atoms es rest × (values ≡ (if holds then e.1 ∷ rest else rest))

  -- some key is refused so
  abbrev pub IsKeysRefusal : List (List ℕ × X) → Refusal → Type 0
  IsKeysRefusal [] refusal = ⊥
  IsKeysRefusal (e ∷ es) refusal = IsKeyRefusal e.0 refusal ⊎ IsKeysRefusal es refusal

  -- a key's tree, and the key's value
  abbrev pub shown_asking : Asking X → Tree × X
  shown_asking a = (tree_of a.expression, a.value.now)
