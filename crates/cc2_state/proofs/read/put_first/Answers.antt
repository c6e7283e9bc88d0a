use Rattle.std.proofs.Common.{◌≡◌, ℕ, Bool, true, false, List, Option, Some, None, is_some, refl, sym, subst, ◌∙◌}
use Rattle.std.specs.BTreeMap.{get_by_text}
use Rattle.cc2_target_table.specs.declared.target.TargetConfig.{TargetConfig}
use Rattle.cc2_state.proofs.Reading.{put_at}
use Rattle.cc2_state.proofs.read.put_first.Goals as goal

none_there : (found : Option TargetConfig) (is : Bool) → is ≡ is_some found → is ≡ false → found ≡ None
none_there None is some not = refl
none_there (Some t) is some not = absurd_of (sym some ∙ not)
  where
    absurd_of : true ≡ false → Some t ≡ None
    absurd_of h = cc

pub returns-in-Ok-clause-put : goal.returns-in-Ok-clause-put
returns-in-Ok-clause-put c =
    put_at c.args.tables.now c.insert.new.self c.args.key c.args.table
    (subst (λ (bytes : List ℕ). get_by_text c.args.tables.now bytes ≡ None) c.as_str.ensures.value
    (none_there (get_by_text c.args.tables.now c.as_str.result.now) c.contains_key.result c.contains_key.ensures c.if-contains_key.false))
    c.in-Ok.ensures.updates
