-- Lists of configurations that are all there.
use Rattle.std.proofs.Common.{◌≡◌, ◌+◌, List, map, Option, Some, None, Result, Ok, Err, IfOk, IfErr, refl, sym, ap, ◌∙◌}
use Rattle.cc2_value.specs.Cells.{KeyPath, Cell, IsPointwise}
use Rattle.cc2_value.specs.MergeLaws.{merge_laws, AllGive}
use Rattle.cc2_value.specs.Places.{IsUnjoined}
use Rattle.cc2_value.specs.Shown.{option_at}
use Rattle.cc2_value.specs.declared.merge_fault.MergeAllFault.{MergeAllFault}
use Rattle.cc2_value.specs.declared.merge_fault.MergeAllFault.TheVariants as fault
use Rattle.cc2_value.proofs.Joins.{pointwise_over, unjoined_over}
use Rattle.cc2_de.specs.declared.config.Config.{Config}
use Rattle.cc2_de.specs.Config.{config_at}
use Rattle.cc2_de.specs.MergeAll.{HasNoGrouping}

abbrev whole : Option Config → KeyPath → Option Cell
whole = option_at config_at

there : (c : Config) (p : KeyPath) → config_at c p ≡ whole (Some c) p
there c p = refl

pub all_there : (xs : List Config) (c : Config) → IsPointwise whole (map Some xs) (Some c) → IsPointwise config_at xs c
all_there xs c h = pointwise_over Some config_at whole there xs c h

pub all_unjoined : (xs : List Config) (e : MergeAllFault) → IsUnjoined whole (map Some xs) e → IsUnjoined config_at xs e
all_unjoined xs e h = unjoined_over Some config_at whole there xs e h

-- where none is there, what shows no cell is what they make
pub none_there : (list : List (Option Config)) (c : Config) → IsPointwise whole list None → ((p : KeyPath) → config_at c p ≡ None) → IsPointwise whole list (Some c)
none_there list c h empty p = h p ∙ ap Ok (sym (empty p))

-- what follows of each value and of each fault holds of an outcome
pub if_ok : {T E : Type 0} {P Q : T → Type 0} (r : Result T E) → ((x : T) → P x → Q x) → IfOk r P → IfOk r Q
if_ok (Ok x) f h = f x h
if_ok (Err e) f h = h

pub if_err : {T E : Type 0} {P Q : E → Type 0} (r : Result T E) → ((e : E) → P e → Q e) → IfErr r P → IfErr r Q
if_err (Ok x) f h = h
if_err (Err e) f h = f e h

pub every_grouping : (xs : List Config) (c : Config) → IsPointwise config_at xs c → AllGive config_at xs c
every_grouping xs c h = (merge_laws config_at).joins xs c h

pub no_grouping : (xs : List Config) (e : MergeAllFault) → IsUnjoined config_at xs e → HasNoGrouping xs e
no_grouping xs fault.Memory h = tt
no_grouping xs (fault.Mixed place e) h = (merge_laws config_at).fronts xs (place + 1) (h.path, (h.shapes, h.meet.0))
