use Rattle.std.proofs.Common.{Some, map, string_bytes, arith, subst}
use Rattle.cc2_value.specs.Cells.{IsPointwise}
use Rattle.cc2_value.specs.Places.{IsUnjoined}
use Rattle.cc2_value.specs.Shown.{option_at}
use Rattle.cc2_value.specs.declared.merge_fault.MergeAllFault.TheVariants.{Mixed}
use Rattle.cc2_de.proofs.ConfigLists.{all_there, all_unjoined}
use Rattle.cc2_de.proofs.Inside.{inside}
use Rattle.cc2_de.specs.Config.{config_at}
use Rattle.cc2_de.proofs.Loads.{files_loaded, files_unmerged}
use Rattle.cc2_de.proofs.load.load_paths.Goals as goal

pub unmerged-requires : goal.unmerged-requires
unmerged-requires g c =
    let w = c.in-Err-Mixed in
    let mixed = rw w.field-0-is at w.ensures.refused in
    omega (arith, inside (option_at config_at) c.in_ok-configs.configs.items w.place w.error mixed, c.in_ok-configs.ensures.counted)

pub returns-in-Ok : goal.returns-in-Ok
returns-in-Ok g c fs told =
    let (configs, all, read) = c.in_ok-configs.ensures.ok fs told in
    let merged = c.in-Ok.merged in
    files_loaded fs (map string_bytes c.args.paths.now) configs merged read
    (all_there configs merged
    (subst (λ xs. IsPointwise (option_at config_at) xs (Some merged)) all c.in-Ok.ensures.ok))

pub returns : goal.returns
returns g c fs told =
    let w = c.in-Err-Mixed in
    let names = c.unmerged.ensures in
    let (configs, all, read) = c.in_ok-configs.ensures.ok fs told in
    let fault = Mixed w.place w.error in
    let unjoined = all_unjoined configs fault
    (subst (λ xs. IsUnjoined (option_at config_at) xs fault) all (rw w.field-0-is at w.ensures.refused)) in
    files_unmerged fs (map string_bytes c.args.paths.now) configs w.place w.error _ names.path
    names.nearest read unjoined names.first names.next names.told
