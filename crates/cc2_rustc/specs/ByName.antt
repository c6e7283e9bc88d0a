-- What is kept by names: what one more changes, and what is not lost.
use Rattle.std.specs.Prelude.{◌≡◌, ◌⊎◌, ℕ, List, Some, IsSome, String}
use Rattle.std.specs.BTreeMap.{BTreeMap, get_by_text}
use Rattle.std.specs.declared.alloc.Global.{Global}

module _ {V : Type 0} where
  -- at most what is at the name is new
  abbrev pub AtMostAdds : BTreeMap (String Global) V → BTreeMap (String Global) V → List ℕ → V → Type 0
  AtMostAdds was kept name v = (q : List ℕ) →
      (get_by_text kept q ≡ get_by_text was q) ⊎ ((q ≡ name) × (get_by_text kept q ≡ Some v))

  -- what was at a name is there
  abbrev pub KeepsNames : BTreeMap (String Global) V → BTreeMap (String Global) V → Type 0
  KeepsNames was kept = (name : List ℕ) → IsSome (get_by_text was name) → get_by_text kept name ≡ get_by_text was name
