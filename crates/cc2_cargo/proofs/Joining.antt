-- Lists of trees that are joined.
use Rattle.std.proofs.Common.{◌≡◌, refl, ap}
use Rattle.cc2_cfg.specs.Grammar.{Tree, Trees, NoTrees, MoreTrees}
use Rattle.cc2_cargo.specs.Machine.{snoc}

abbrev pub join : Trees → Trees → Trees
join NoTrees us = us
join (MoreTrees t ts) us = MoreTrees t (join ts us)

pub join-snoc : (ts : Trees) (t : Tree) (us : Trees) → join (snoc ts t) us ≡ join ts (MoreTrees t us)
join-snoc NoTrees t us = refl
join-snoc (MoreTrees u ts) t us = ap (λ (z : Trees). MoreTrees u z) (join-snoc ts t us)

pub join-none : (ts : Trees) → join ts NoTrees ≡ ts
join-none NoTrees = refl
join-none (MoreTrees u ts) = ap (λ (z : Trees). MoreTrees u z) (join-none ts)

pub snoc-join : (ts : Trees) (t : Tree) → snoc ts t ≡ join ts (MoreTrees t NoTrees)
snoc-join NoTrees t = refl
snoc-join (MoreTrees u ts) t = ap (λ (z : Trees). MoreTrees u z) (snoc-join ts t)
