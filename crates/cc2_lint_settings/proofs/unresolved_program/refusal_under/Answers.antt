use Rattle.std.proofs.Common.{◌≡◌, ◌∷◌, ◌-◌, List, Option, Some, None, String, Global, IfOk, map, string_bytes, length, take, drop, sym, subst, ap, ◌∙◌}
use Rattle.std.specs.BTreeMap.{get_by_text}
use Rattle.cc2_value.specs.Cells.{Cell}
use Rattle.cc2_value.specs.Shown.{map_at, option_at}
use Rattle.cc2_target_table.specs.Target.{target_at}
use Rattle.cc2_target_table.specs.declared.target.TargetConfig.{TargetConfig}
use Rattle.cc2_lint_settings.specs.Programs.{IsProgramRefusal, program_made, program_under}
use Rattle.cc2_lint_settings.proofs.Programs.{below_none, below_same, parted}
use Rattle.cc2_lint_settings.proofs.unresolved_program.refusal_under.Goals as goal

pub returns-in-Some : goal.returns-in-Some
returns-in-Some c =
    let dir = c.args.directory.now in
    let all = c.args.keys.now in
    let path = map string_bytes (take (length all - 1) (drop 1 all)) in
    let tables = c.args.tables.now in
    let target = string_bytes c.target-item.result in
    let table = c.in-Some.table.now in
    let found : Some table ≡ get_by_text tables target = rw c.as_str.ensures.value at c.in-Some.ensures.value in
    subst (λ (keys : List (String Global)). IfOk c.refusal_below.result (IsProgramRefusal dir (program_under (map string_bytes keys) (map_at target_at tables))))
    (parted all c.target-item.result c.in-len1-up.len_at_least c.target-item.is)
    (subst (λ (cell : Option Cell). IfOk c.refusal_below.result (IsProgramRefusal dir cell))
    (below_same path (target_at table) (λ p. option_at target_at (get_by_text tables target) p)
    (λ p. ap (λ (o : Option TargetConfig). option_at target_at o p) found))
    c.refusal_below.ensures)

pub returns-in-None : goal.returns-in-None
returns-in-None c =
    let all = c.args.keys.now in
    let path = map string_bytes (take (length all - 1) (drop 1 all)) in
    let tables = c.args.tables.now in
    let target = string_bytes c.target-item.result in
    let found : None ≡ get_by_text tables target = rw c.as_str.ensures.value at c.in-None.ensures.value in (
      None,
      ap (program_made c.args.directory.now) (
          ap (λ (keys : List (String Global)). program_under (map string_bytes keys) (map_at target_at tables))
          (sym (parted all c.target-item.result c.in-len1-up.len_at_least c.target-item.is))
          ∙ below_none path (λ p. option_at target_at (get_by_text tables target) p)
          (λ k p. sym (ap (λ (o : Option TargetConfig). option_at target_at o (k ∷ p)) found))),
    )
