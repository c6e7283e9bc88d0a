use Rattle.std.proofs.Common.{◌∙◌, string_bytes}
use Rattle.cc2_base.proofs.Joining.{path_join_is}
use Rattle.cc2_base.proofs.Walks.{chosen-second}
use Rattle.cc2_base.proofs.walk.choose.Goals as goal

pub returns : goal.returns
returns g c m h =
    let absent = c.in_ok-exists.ensures m h in
    let there = c.in_ok-there.ensures m h in
    let first = c.into_string-path.ensures ∙ c.in_ok-push.ensures.ok ∙ path_join_is _ _ in
    chosen-second m _ (string_bytes c.into_string-path.result) (string_bytes c.push_str.new.self)
    c.in_ok-there.there first c.in_ok-push_str.ensures.bytes (cc) (cc)
