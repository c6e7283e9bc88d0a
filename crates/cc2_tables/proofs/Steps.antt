-- A walk that takes a table's fields in turn, four by four: `search steps` finds four of its steps by itself.
use Rattle.std.proofs.Common.{ℕ, zero, suc, List, [], ◌∷◌, take, drop, refl, sym, subst, ◌∙◌}
use Rattle.cc2_value.specs.Shown.{Field}
use Rattle.cc2_value.specs.Taking.{IsTaken, AllTaken}
use Rattle.cc2_value.specs.Visits.{Look}
use Rattle.cc2_value.specs.Ways.{Way}

-- these fields are taken, from a visitor to the one at the end
pub record Walk {A V : Type 0} (M : V → List ℕ → Way → Look → V → Type 0) (a : A) (fs : List (Field A)) (v : V) : Type 0 where
  pub end : V
  pub all : AllTaken fs M v a end

module _ {A V : Type 0} {M : V → List ℕ → Way → Look → V → Type 0} {a : A} where
  abbrev pub stop : {v : V} → Walk M a [] v
  stop {v = v} = record { end = v; all = refl }

  abbrev pub step : {f : Field A} {fs : List (Field A)} {v u : V} → IsTaken M v f.key f.way (f.cells a) u → Walk M a fs u
      → Walk M a (f ∷ fs) v
  step {u = u} h more = record { end = more.end; all = (u, h, more.all) }

pub ruleset steps = (stop, step)

module _ {A V : Type 0} (M : V → List ℕ → Way → Look → V → Type 0) (a : A) where
  joined : (n : ℕ) (fs : List (Field A)) (v w : V) (first : Walk M a (take n fs) v) → AllTaken (drop n fs) M first.end a w
      → AllTaken fs M v a w
  joined zero fs v w first rest = subst (λ u. AllTaken fs M u a w) (sym first.all) rest
  joined (suc n) [] v w first rest = first.all ∙ rest
  joined (suc n) (f ∷ fs) v w first rest =
      let (u, h, more) = first.all in
      (u, h, joined n fs u w (record { end = first.end; all = more }) rest)

  -- so many times four fields are taken, and then the others
  abbrev pub InFours : ℕ → List (Field A) → V → V → Type 0
  InFours zero fs v w = AllTaken fs M v a w
  InFours (suc n) fs v w = (first : Walk M a (take 4 fs) v) × InFours n (drop 4 fs) first.end w

  pub in_fours : (n : ℕ) (fs : List (Field A)) (v w : V) → InFours n fs v w → AllTaken fs M v a w
  in_fours zero fs v w h = h
  in_fours (suc n) fs v w (first, others) = joined 4 fs v w first (in_fours n (drop 4 fs) first.end w others)
