use Rattle.std.proofs.Common.{◌∙◌, ap, sym, subst}
use Rattle.std.proofs.lemmas.List.{drop-map}
use Rattle.cc2_value.specs.Rows.{texts_of}
use Rattle.cc2_json.specs.Json.{ArePut}
use Rattle.cc2_json.proofs.Trees.{on_ok, pair_put}
use Rattle.cc2_resolved_json.specs.Plain.{without_origins}
use Rattle.cc2_resolved_json.proofs.row.PairPlainRow.put_into.Goals as goal

pub returns : goal.returns
returns g c =
    let form = without_origins c.args.tokens in
    let row = c.args.self.now in
    let front = g.A.PlainRow.looks row.front in
    let back = g.B.PlainRow.looks row.back in
    let old = c.args.members.now.entries in
    let mid = c.put_into.new.members.entries in
    let keys = texts_of c.args.keys.now in
    on_ok c.put_into-2.result
    (pair_put form keys front back g.A.PlainRow.count old mid c.put_into-2.new.members.entries (g.A.PlainRow.counts row.front)
    (subst (λ ks. ArePut form ks back old mid) (ap texts_of c.behind.ensures ∙ sym (drop-map (λ k. k.now) g.A.PlainRow.count c.args.keys.now)) c.in_ok-put_into.ensures))
    c.put_into-2.ensures
