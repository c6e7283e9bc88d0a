use Rattle.std.proofs.Common.{◌≡◌, sym, inr}
use Rattle.std.specs.Prelude.{true, codes}
use Rattle.std.proofs.lemmas.Str.Pattern.{starts_text}
use Rattle.cc2_cfg.specs.Shown.{tree_of}
use Rattle.cc2_rustc.specs.Keys.{is_cfg}
use Rattle.cc2_rustc.proofs.Judging.{asks-by, blank-asks-not, bad-key}
use Rattle.cc2_rustc.proofs.key.read_key.Goals as goal

pub returns-in-Ok : goal.returns-in-Ok
returns-in-Ok c =
    let key = c.args.key.now in
    let cfg : is_cfg key ≡ true = sym (starts_text true (codes "cfg(") key c.if-not-starts_with.ensures.cases) in
    asks-by key (tree_of c.in-Ok.expression) cfg c.in-Ok.ensures.accepted c.in-Ok.ensures.only

pub returns-in-Empty : goal.returns-in-Empty
returns-in-Empty c =
    let fault = rw c.in-Err-Parse.field-0-is at c.in-Err-Parse.ensures.refused in
    blank-asks-not c.args.key.now c.in-Err-Parse.error fault c.in-Empty.is

pub returns-in_default : goal.returns-in_default
returns-in_default c =
    let key = c.args.key.now in
    let cfg : is_cfg key ≡ true = sym (starts_text true (codes "cfg(") key c.if-not-starts_with.ensures.cases) in
    let fault = rw c.in-Err-Parse.field-0-is at c.in-Err-Parse.ensures.refused in
    inr (rw c.new.ensures (bad-key key c.in-Err-Parse.error cfg fault c.in_default.not-Empty))
