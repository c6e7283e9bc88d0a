use Rattle.std.proofs.Common.{inl, inr}
use Rattle.cc2_error.specs.Causes.{refusal_of}
use Rattle.cc2_target.proofs.Settled.{settings_are, refused_from, refused_by}
use Rattle.cc2_target.specs.Given.{given_in}
use Rattle.cc2_resolved.specs.TargetConfigs.{shown}
use Rattle.cc2_target.specs.declared.sources.TargetSources.{TargetSources}
use Rattle.cc2_target.proofs.given.Given.settings.Goals as goal

pub returns-in-Ok : goal.returns-in-Ok
returns-in-Ok c read =
    let g = given_in c.args.self.now in
    let triple = c.args.triple.now in
    let s : TargetSources = record {
      variables = c.args.variables;
      table = c.find_table.result;
      true_tables = c.args.true_tables;
    } in
    let (are, free) = c.in-Ok.ensures in (
      settings_are g triple s read c.find_table.ensures (shown c.in-Ok.settings) are,
      λ refusal h. free refusal (refused_from g triple s read c.find_table.ensures refusal h),
    )

pub returns-in-Err : goal.returns-in-Err
returns-in-Err c read =
    let g = given_in c.args.self.now in
    let triple = c.args.triple.now in
    let s : TargetSources = record {
      variables = c.args.variables;
      table = c.find_table.result;
      true_tables = c.args.true_tables;
    } in
    elim c.in-Err.ensures [
      | inl memory ↦ inl memory
      | inr h ↦ inr (refused_by g triple s read c.find_table.ensures (refusal_of c.in-Err.error) h)
    ]
