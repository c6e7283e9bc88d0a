use Rattle.std.proofs.Common.{◌≡◌, ◌∙◌, ◌++◌, ap, sym}
use Rattle.toml.specs.Parse.{parse_document}
use Rattle.toml.specs.View.{table_view}
use Rattle.cc2_reports.proofs.key_text.sets_alone.Goals as goal

pub returns-in-Ok : goal.returns-in-Ok
returns-in-Ok c = λ yes.
    let text : c.as_str.result.now ≡ c.args.text.now ++ c.args.behind.now =
    c.as_str.ensures.value ∙ c.in_ok-push_str.ensures.bytes ∙ ap (λ xs. xs ++ c.args.behind.now) c.in_ok-whole.ensures.ok in
    record {
      table = table_view c.in-Ok.table;
      parsed = ap parse_document (sym text) ∙ c.in-Ok.ensures.ok;
      one = c.is_alone.ensures.one yes;
      value = c.is_alone.ensures.value yes;
    }
