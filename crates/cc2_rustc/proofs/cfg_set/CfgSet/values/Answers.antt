use Rattle.std.proofs.Common.{rules, ◌≡◌, sym, ap, ◌∙◌, subst, [], map, string_bytes, arith}
use Rattle.std.proofs.lemmas.Grind.{common_steps}
use Rattle.std.specs.Prelude.{bytes_eq}
use Rattle.std.specs.List.{list_any}
use Rattle.std.specs.List.Sorted.{IsStrictlySortedBy}
use Rattle.std.specs.Ordering.{nat_cmp}
use Rattle.std.specs.Cmp.Lexicographic.{slice_cmp}
use Rattle.cc2_rustc.specs.Printed.{atoms_of}
use Rattle.cc2_rustc.specs.Values.{values_of}
use Rattle.cc2_rustc.proofs.CfgTexts.{any-values, sorted-texts}
use Rattle.cc2_rustc.proofs.cfg_set.CfgSet.values.Goals as goal

pub returns-clause-listed : goal.returns-clause-listed
returns-clause-listed c = λ text.
    let name = c.args.name.now in
    let atoms = atoms_of c.args.self.now in
    let value : map string_bytes c.in_ok-values.values.items ≡ values_of name atoms =
    let same : c.in_ok-values.values.items ≡ c.loop-printed.values.keys = search rules in
    grind (arith, common_steps) in
    ap (list_any (bytes_eq text)) value ∙ any-values text name [] atoms

pub returns-clause-ordered : goal.returns-clause-ordered
returns-clause-ordered c =
    let same : c.in_ok-values.values.items ≡ c.loop-printed.values.keys = search rules in
    let sorted = sorted-texts _ c.into_iter.ensures.into_iter_gives.4 in
    subst (λ keys. IsStrictlySortedBy (slice_cmp nat_cmp) (map string_bytes keys)) (sym same) sorted
