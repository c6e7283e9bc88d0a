-- What an expression shows: its tree; and what is left of its predicates.
use Rattle.std.specs.Prelude.{List, map, filter_map}
use Rattle.cc2_cfg.specs.Grammar.{Tree}
use Rattle.cc2_cfg.specs.Meaning.{Atom}
use Rattle.cc2_cfg.specs.Planting.{tree_from}
use Rattle.cc2_cfg.specs.Table.{row_of, leaf_of}
use Rattle.cc2_cfg.specs.declared.expression.Expression.{Expression}
use Rattle.cc2_cfg.specs.declared.expression.Predicates.{Predicates}

abbrev pub tree_of : Expression → Tree
tree_of e = tree_from e.nodes.items

abbrev pub predicates_left : Predicates → List Atom
predicates_left p = filter_map leaf_of (map row_of p.rest.now)
