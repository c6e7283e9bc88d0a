use Rattle.std.proofs.Common.{◌≡◌, sym}
use Rattle.std.specs.Prelude.{true, codes}
use Rattle.std.proofs.lemmas.Str.Pattern.{starts_text}
use Rattle.cc2_cfg.specs.Shown.{tree_of}
use Rattle.cc2_rustc.specs.Keys.{is_cfg}
use Rattle.cc2_findings.proofs.Judged.{judged_tree, judged_bad}
use Rattle.cc2_findings.proofs.cfg_key.judged.Goals as goal

pub returns-in-Ok : goal.returns-in-Ok
returns-in-Ok c =
    let key = c.args.key.now in
    let cfg : is_cfg key ≡ true = sym (starts_text true (codes "cfg(") key c.if-not-starts_with.ensures.cases) in
    judged_tree key (tree_of c.in-Ok.expression) (cfg, c.in-Ok.ensures.accepted) c.in-Ok.ensures.only c.tree_fault.result c.tree_fault.ensures

pub returns-in_default : goal.returns-in_default
returns-in_default c =
    let key = c.args.key.now in
    let cfg : is_cfg key ≡ true = sym (starts_text true (codes "cfg(") key c.if-not-starts_with.ensures.cases) in
    let fault = rw c.in-Err-Parse.field-0-is at c.in-Err-Parse.ensures.refused in
    let other = rw c.in-Err-Parse.field-0-is at c.in_default.not-Empty in
    rw c.in-Err-Parse.field-0-is (judged_bad key c.in-Err-Parse.error cfg fault other)
