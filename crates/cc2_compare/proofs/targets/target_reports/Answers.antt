use Rattle.std.proofs.Common.{[]}
use Rattle.std.specs.Result.{result_map_both}
use Rattle.serde_json.specs.View.{view}
use Rattle.cc2_error.specs.Causes.{refusal_of}
use Rattle.cc2_reports.proofs.Outcomes.{if_ok}
use Rattle.cc2_compare.proofs.targets.target_reports.Goals as goal

pub returns : goal.returns
returns g c fs real_paths own files reals runs =
    let of_crate = c.crate_settings-of_crate in
    let of_cargo = c.cargo_settings-of_cargo in
    if_ok c.reports_between.result _ _
    (λ reports are. (
      result_map_both view refusal_of of_crate.result,
      result_map_both view refusal_of of_cargo.result,
      of_crate.ensures.told fs (own []) files (c.in_ok-programs.ensures own runs).1,
      of_cargo.ensures.told fs real_paths own files reals (c.in_ok-programs-2.ensures own runs).0,
      are,
    ))
    c.reports_between.ensures
