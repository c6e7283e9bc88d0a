use Rattle.std.proofs.Common.{◌≡◌, List, [], ◌∷◌, Option, Some, sym, ap, subst, ◌∙◌}
use Rattle.toml.specs.Data.{Members, as_table}
use Rattle.toml.specs.View.{view, table_view}
use Rattle.toml.specs.declared.value.Value.{Value}
use Rattle.toml.proofs.Views.{view-Table}
use Rattle.cc2_value.specs.Copies.{origin_given}
use Rattle.cc2_value.specs.Ways.{Flaw, IsFaultBehind}
use Rattle.cc2_value.proofs.Decoded.{fault_behind}
use Rattle.cc2_target_table.specs.TargetReading.{own_faults}
use Rattle.cc2_target_table.proofs.TargetReads.{target_read, target_in, own_read, own_same_faults}
use Rattle.cc2_target_table.proofs.target.read.TargetConfigDecode.read.Goals as goal

pub returns-in-Err-clause-refused : goal.returns-in-Err-clause-refused
returns-in-Err-clause-refused c =
    let key = c.args.key.now in
    let ms = table_view c.in-Table.table in
    let is : as_table (view c.args.value) ≡ Some ms = ap (λ (v : Value). as_table (view v))
    c.in-Table.is ∙ ap as_table (view-Table c.in-Table.table) in
    let inner = subst (λ (flaws : List Flaw). IsFaultBehind [] flaws c.in-Err.error)
    (own_same_faults c.in-Table.table c.in_ok-parts.parts.own c.in_ok-parts.ensures.own) c.in-Err.ensures.refused in
    subst (λ (m : Option Members). IsFaultBehind (key ∷ []) (own_faults m) c.below.result) (sym is)
    (fault_behind key (own_faults (Some ms)) c.in-Err.error c.below.result c.below.ensures inner)

pub returns-in-Ok-clause-ok : goal.returns-in-Ok-clause-ok
returns-in-Ok-clause-ok c =
    let origin = origin_given c.args.definition in
    let ms = table_view c.in-Table.table in
    let is : as_table (view c.args.value) ≡ Some ms = ap (λ (v : Value). as_table (view v))
    c.in-Table.is ∙ ap as_table (view-Table c.in-Table.table) in
    let fields = own_read c.in-Table.table c.in_ok-parts.parts.own c.in_ok-parts.ensures.own origin c.read_fields.new.read
    c.in-Ok.ensures.ok in
    target_in origin (as_table (view c.args.value)) ms _ is (target_read origin ms _ fields c.in_ok-parts.ensures.nested)
