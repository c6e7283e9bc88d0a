use Rattle.std.proofs.lemmas.Result.{err_from_is_err_and}
use Rattle.cc2_de.proofs.Configs.{config_gathered, config_ungathered}
use Rattle.cc2_de.proofs.config.ConfigMergeFrom.gather.Goals as goal

pub returns-in_err-gather_fields-clause-refused : goal.returns-in_err-gather_fields-clause-refused
returns-in_err-gather_fields-clause-refused c =
    let p = err_from_is_err_and c.from_residual.result c.from_residual.ensures.1 in
    rw (p.1, p.2) (config_ungathered c.args.self.now c.args.low.now _ c.in_err-gather_fields.ensures.refused)

pub returns-clause-ok : goal.returns-clause-ok
returns-clause-ok c = config_gathered c.args.self.now c.args.low.now
    (record c.gather_fields.new.high {
      target_flags_overridden = c.either-flags.result;
      target_doc_flags_overridden = c.either-doc_flags.result;
    }) c.in_ok-gather_fields.ensures.ok c.either-flags.ensures c.either-doc_flags.ensures
