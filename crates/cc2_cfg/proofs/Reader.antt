-- The reader goes over a list of tokens.
use Rattle.std.proofs.Common.{◌≡◌, List, [], ◌∷◌, Option, Some, None, refl, ap}
use Rattle.cc2_cfg.specs.Tokens.{Lexeme}
use Rattle.cc2_cfg.specs.Grammar.{Tree, Trees, NoTrees, MoreTrees}
use Rattle.cc2_cfg.specs.Machine.{State, snoc, step, finish}

abbrev pub from_state : Option State → (State → Option Tree) → Option Tree
from_state None k = None
from_state (Some s) k = k s

unfoldable pub run : List Lexeme → State → Option Tree
run [] s = finish s
run (token ∷ tokens) s = from_state (step s token) (λ t. run tokens t)

-- joins two lists of trees
abbrev pub join : Trees → Trees → Trees
join NoTrees us = us
join (MoreTrees t ts) us = MoreTrees t (join ts us)

pub join-snoc : (ts : Trees) (t : Tree) (us : Trees) → join (snoc ts t) us ≡ join ts (MoreTrees t us)
join-snoc NoTrees t us = refl
join-snoc (MoreTrees u ts) t us = ap (λ (z : Trees). MoreTrees u z) (join-snoc ts t us)

pub join-none : (ts : Trees) → join ts NoTrees ≡ ts
join-none NoTrees = refl
join-none (MoreTrees u ts) = ap (λ (z : Trees). MoreTrees u z) (join-none ts)
