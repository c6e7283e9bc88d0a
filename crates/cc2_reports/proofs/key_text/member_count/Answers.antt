use Rattle.std.proofs.Common.{◌∙◌, sym}
use Rattle.cc2_reports.proofs.TableMembers.{member_count-is}
use Rattle.cc2_reports.proofs.key_text.member_count.Goals as goal

pub returns : goal.returns
returns c = c.len.ensures.len ∙ sym (member_count-is c.args.table.now.entries)
