use Rattle.std.proofs.Common.{false, sym, subst}
use Rattle.serde_json.specs.View.{view}
use Rattle.cc2_json.specs.TomlPlaces.{Free}
use Rattle.cc2_json.proofs.AtKey.{at_free}
use Rattle.cc2_value.specs.Rows.{texts_of}
use Rattle.cc2_compare.proofs.differences.single_value.Goals as goal

pub returns-else-is_object-clause-free : goal.returns-else-is_object-clause-free
returns-else-is_object-clause-free c free =
    subst Free (sym c.in_ok-found.ensures) (at_free false (texts_of c.args.path.now) (view c.args.json.now) free)
