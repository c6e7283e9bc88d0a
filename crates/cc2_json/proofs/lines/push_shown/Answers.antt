use Rattle.std.proofs.lemmas.Result.{on_ok_weaker}
use Rattle.cc2_json.proofs.TomlPlaces.{object_step}
use Rattle.cc2_json.proofs.lines.push_shown.Goals as goal

pub returns-in-Object : goal.returns-in-Object
returns-in-Object c =
    on_ok_weaker c.push_leaf.result
    (object_step c.args.origins c.args.json.now c.in-Object.field-0 _ _ c.args.out.now.items _ c.in-Object.is c.get.ensures c.get-in-Object.ensures)
    c.push_leaf.ensures
