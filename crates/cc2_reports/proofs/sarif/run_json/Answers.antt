use Rattle.std.proofs.Common.{◌∙◌, ap}
use Rattle.serde_json.proofs.Views.{view-Object}
use Rattle.serde_json.specs.View.{members_view}
use Rattle.cc2_reports.proofs.Members.{run_put}
use Rattle.cc2_reports.proofs.sarif.run_json.Goals as goal

pub returns : goal.returns
returns c =
    view-Object c.put-2.new.map ∙
    run_put (ap members_view c.new-members.ensures.empty) c.in_ok-put_text.ensures c.in_ok-put.ensures.ok
    c.in_ok-tool.ensures c.in_ok-put-2.ensures.ok
