use Rattle.std.proofs.Common.{◌≡◌, Bool, true, false, [], refl, sym, ap, subst, ◌∙◌}
use Rattle.std.proofs.lemmas.List.{append-nil, map-append}
use Rattle.std.specs.Result.{result_map_both}
use Rattle.serde_json.specs.View.{view}
use Rattle.cc2_error.specs.Causes.{refusal_of}
use Rattle.cc2_reports.specs.Problems.{subject_of, subjects_of}
use Rattle.cc2_value.specs.Rows.{texts_of}
use Rattle.cc2_compare.specs.Reports.{AreOfTargets, are_looked_at}
use Rattle.cc2_compare.proofs.Compared.{both_made, looked_at}
use Rattle.cc2_compare.proofs.reports.dir_reports.Goals as goal

pub returns-then-not-looks : goal.returns-then-not-looks
returns-then-not-looks g c fs files real_paths reals =
    let machine = c.args.machine.now in
    let dir = c.args.dir.now in
    let targets = c.args.targets.now in
    let of_crate = c.crate_json-of_crate.result in
    let of_cargo = c.cargo_json-of_cargo.result in
    let configs = subjects_of c.in_ok-reports.reports.items in
    let made = both_made fs real_paths machine dir [] configs of_crate of_cargo (c.crate_json-of_crate.ensures.told fs files)
    (c.cargo_json-of_cargo.ensures.ok fs files real_paths reals) (c.cargo_json-of_cargo.ensures.refused fs files real_paths reals) c.in_ok-reports.ensures in
    let looks : are_looked_at (result_map_both view refusal_of of_crate) (result_map_both view refusal_of of_cargo) (texts_of targets) ≡ false =
    looked_at of_crate of_cargo targets ∙ sym c.are_looked_at-looks.ensures ∙ c.if-not-looks.true in
    record {
      of_crate = result_map_both view refusal_of of_crate;
      of_cargo = result_map_both view refusal_of of_cargo;
      configs = configs;
      settings = [];
      is_crate = made.0;
      is_cargo = made.1;
      between = c.in_ok-reports.ensures;
      more = subst (λ (b : Bool). AreOfTargets fs real_paths (g.S.Launcher.told_with c.args.launcher.now) machine (texts_of targets) b dir []) (sym looks) refl;
      are = sym (append-nil configs);
    }

pub returns : goal.returns
returns g c fs files real_paths reals =
    let machine = c.args.machine.now in
    let dir = c.args.dir.now in
    let targets = c.args.targets.now in
    let of_crate = c.crate_json-of_crate.result in
    let of_cargo = c.cargo_json-of_cargo.result in
    let configs = subjects_of c.in_ok-reports.reports.items in
    let settings = subjects_of c.in_ok-settings.settings.items in
    let made = both_made fs real_paths machine dir [] configs of_crate of_cargo (c.crate_json-of_crate.ensures.told fs files)
    (c.cargo_json-of_cargo.ensures.ok fs files real_paths reals) (c.cargo_json-of_cargo.ensures.refused fs files real_paths reals) c.in_ok-reports.ensures in
    let looks : are_looked_at (result_map_both view refusal_of of_crate) (result_map_both view refusal_of of_cargo) (texts_of targets) ≡ true =
    looked_at of_crate of_cargo targets ∙ sym c.are_looked_at-looks.ensures ∙ c.if-not-looks.false in
    record {
      of_crate = result_map_both view refusal_of of_crate;
      of_cargo = result_map_both view refusal_of of_cargo;
      configs = configs;
      settings = settings;
      is_crate = made.0;
      is_cargo = made.1;
      between = c.in_ok-reports.ensures;
      more = subst (λ (b : Bool). AreOfTargets fs real_paths (g.S.Launcher.told_with c.args.launcher.now) machine (texts_of targets) b dir settings)
          (sym looks) (λ own runs. c.in_ok-settings.ensures fs real_paths own files reals runs);
      are = ap subjects_of c.in_ok-append.ensures.items ∙ map-append subject_of c.in_ok-reports.reports.items c.in_ok-settings.settings.items;
    }
