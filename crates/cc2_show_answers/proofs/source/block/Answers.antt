use Rattle.std.proofs.Common.{map, Some, subst}
use Rattle.serde_json.specs.View.{view}
use Rattle.cc2_de.specs.Config.{config_at}
use Rattle.cc2_json.specs.Reader.{IsJsonOfLook}
use Rattle.cc2_json.specs.declared.form.Form.{Form}
use Rattle.cc2_cli.specs.ShowTasks.{request_view}
use Rattle.cc2_show_answers.specs.Sources.{source_view}
use Rattle.cc2_show_answers.proofs.Blocks.{block_told, no_block}
use Rattle.cc2_show_answers.proofs.source.block.Goals as goal

pub returns-in-Some : goal.returns-in-Some
returns-in-Some c =
    let json = view c.in_ok-json.json in
    let of = subst (λ (form : Form). IsJsonOfLook form (config_at c.args.config) json) c.form_of.ensures c.in_ok-json.ensures.json in
    block_told (request_view c.args.request) (map (λ p. p.now) c.args.pieces.now) (source_view c.args.source) (config_at c.args.config) json of
    (Some (view c.in-Some.found.now)) c.block_of.result c.in-Some.ensures c.block_of.ensures

pub returns : goal.returns
returns c =
    let json = view c.in_ok-json.json in
    let of = subst (λ (form : Form). IsJsonOfLook form (config_at c.args.config) json) c.form_of.ensures c.in_ok-json.ensures.json in
    no_block (request_view c.args.request) (map (λ p. p.now) c.args.pieces.now) (source_view c.args.source) (config_at c.args.config) json of
    c.new.result.items c.in-None.ensures c.new.ensures.items
