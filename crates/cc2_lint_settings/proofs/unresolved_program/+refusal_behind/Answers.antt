use Rattle.std.proofs.Common.{◌∷◌, List, Option, None, String, Global, IfOk, map, string_bytes, sym, subst, ap, ◌∙◌}
use Rattle.cc2_value.specs.Cells.{name, Cell}
use Rattle.cc2_target_table.specs.Target.{lent_at, target_at}
use Rattle.cc2_target_table.specs.declared.target.Nested.{Nested}
use Rattle.cc2_lint_settings.specs.Programs.{IsProgramRefusal, program_below, program_made}
use Rattle.cc2_lint_settings.proofs.Programs.{below_none, below_same, inside, parted}
use Rattle.cc2_lint_settings.proofs.unresolved_program.+refusal_behind.Goals as goal

pub returns-in-Some-Table : goal.returns-in-Some-Table
returns-in-Some-Table t c =
    let dir = c.args.directory.now in
    let key = string_bytes c.args.key.now in
    let path = c.args.path.now in
    let table = c.args.table.now in
    let inner = c.in-Some-Table.inner.now in
    let long = c.in-len1-up.len_at_least in
    subst (λ (cell : Option Cell). IfOk c.refusal_behind.result (IsProgramRefusal dir cell))
    (below_same (map string_bytes path) (target_at inner) (λ p. target_at table (name key ∷ p))
    (λ p. sym (ap (λ (n : Nested). lent_at n p) c.in-Some-Table.field-0-is)
    ∙ (rw c.as_str-in-len1-up.ensures.value at c.in-Some-Table.ensures.cells p)) ∙ inside key path (target_at table) long)
    (subst (λ (keys : List (String Global)). IfOk c.refusal_behind.result (IsProgramRefusal dir (program_below (map string_bytes keys) (target_at inner))))
    (parted path c.next-item.result long c.next-item.is) c.refusal_behind.ensures)

pub returns-in-Some-Undecoded : goal.returns-in-Some-Undecoded
returns-in-Some-Undecoded t c =
    let key = string_bytes c.args.key.now in
    let path = c.args.path.now in
    let table = c.args.table.now in (
      None,
      ap (program_made c.args.directory.now) (sym (inside key path (target_at table) c.in-len1-up.len_at_least)
          ∙ below_none (map string_bytes path) (λ p. target_at table (name key ∷ p))
          (λ k p. sym (rw c.as_str-in-len1-up.ensures.value at c.in-Some-Undecoded.ensures.cells (k ∷ p))
          ∙ ap (λ (n : Nested). lent_at n (k ∷ p)) c.in-Some-Undecoded.field-0-is)),
    )

pub returns-in-None : goal.returns-in-None
returns-in-None t c =
    let key = string_bytes c.args.key.now in
    let path = c.args.path.now in
    let table = c.args.table.now in (
      None,
      ap (program_made c.args.directory.now) (sym (inside key path (target_at table) c.in-len1-up.len_at_least)
          ∙ below_none (map string_bytes path) (λ p. target_at table (name key ∷ p))
          (λ k p. sym (rw c.as_str-in-len1-up.ensures.value at c.in-None.ensures.cells (k ∷ p)))),
    )
