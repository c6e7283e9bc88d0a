-- Evaluating a table from left to right: the value of an open function.
use Rattle.std.specs.Prelude.{◌≡◌, List, [], ◌∷◌}
use Rattle.cc2_cfg.specs.Tokens.{Operator, OpAll, OpAny, OpNot}
use Rattle.cc2_cfg.specs.Meaning.{Operations}
use Rattle.cc2_cfg.specs.Table.{operator_of}
use Rattle.cc2_cfg.specs.declared.evaluator.Open.{Open}

module _ {T : Type 0} (o : Operations T) where
  -- a function of no predicates
  abbrev pub initial : Operator → T
  initial OpAll = o.top
  initial OpAny = o.bottom
  initial OpNot = o.top

  -- one more predicate
  abbrev pub add : Operator → T → T → T
  add OpAll x v = o.conj x v
  add OpAny x v = o.disj x v
  add OpNot x v = o.conj x v

  -- the function's value, from that of its predicates
  abbrev pub closed : Operator → T → T
  closed OpAll x = x
  closed OpAny x = x
  closed OpNot x = o.neg x

-- the whole's value, where the innermost function that is open ended with value y
abbrev pub finished : {T : Type 0} → Operations T → List (Open T) → T → T
finished o [] y = y
finished o (g ∷ outer) y = finished o outer (closed o (operator_of g.func) (add o (operator_of g.func) g.value y))

-- one more predicate, whatever its value, changes nothing
abbrev pub IsDecided : {T : Type 0} → Operations T → Operator → T → Type 0
IsDecided o f x = (y : _) → add o f x y ≡ x
