-- What a query for a target leaves, where settings are kept; and what kept settings are.
use Rattle.std.proofs.Common.{◌≡◌, ℕ, List, Option, Some, is_some, false, ap, sym, subst, ◌∙◌}
use Rattle.std.specs.BTreeMap.{get_by_text}
use Rattle.cc2_base.specs.Told.{Tree}
use Rattle.cc2_base.specs.ToldPrograms.{Answers}
use Rattle.cc2_resolved.specs.Targets.{target_in, command_text}
use Rattle.cc2_resolved.specs.TargetConfigs.{shown}
use Rattle.cc2_resolved.specs.declared.target_config.TargetConfig.{TargetConfig}
use Rattle.cc2_rustc.specs.AskedVersions.{AgreesOnVersions, KeepsVersions}
use Rattle.cc2_rustc.specs.ByName.{AtMostAdds, KeepsNames}
use Rattle.cargo_config2.specs.Config.{tables_of}
use Rattle.cc2_rustc.specs.Kept.{WhereBothTold}
use Rattle.cargo_config2.specs.Kept.{Agrees, KeepsFinds, asked_by, given_of}
use Rattle.cc2_rustc.specs.Lists.{AgreesOnLists}
use Rattle.cargo_config2.specs.RustcKept.{rustc_command_of}
use Rattle.cargo_config2.specs.TargetQueries.{Leaves}
use Rattle.cargo_config2.specs.Targets.{AgreesOnTargets, IsTargetAlone, Settings}
use Rattle.cargo_config2.specs.declared.config.Config.{Config}
use Rattle.cc2_rustc.specs.declared.kept.Kept.{Kept}
use Rattle.cargo_config2.proofs.Keeping.{agrees_anew, same_answer}
use Rattle.cc2_rustc.proofs.Sets.{keeps_more}
use Rattle.cargo_config2.proofs.KeptTargets.{kept_said, targets_more}

-- settings that are kept are those of the target, also by the configuration that was
pub answer_kept : (fs : Tree) (answers : Answers) (was c : Config) → tables_of c ≡ tables_of was → c.loaded ≡ was.loaded
    → (text : List ℕ) (settings : TargetConfig)
    → AgreesOnTargets (given_of c) (rustc_command_of fs c) answers c.target
    → get_by_text c.target (command_text (target_in text)) ≡ Some settings
    → IsTargetAlone (given_of was) (rustc_command_of fs was) answers (target_in text) (shown settings)
answer_kept fs answers was c tables loaded text settings agrees here =
    same_answer fs answers c was (sym tables) (sym loaded) (target_in text) (shown settings)
    (kept_said (given_of c) (rustc_command_of fs c) answers c.target text settings agrees here)

-- where the settings were found and are kept, all else is left
module _ (files : Tree → Type 0) (programs : Answers → Type 0) (text : List ℕ) (was mid c : Config) (before after : ℕ)
    (left : Leaves files programs (target_in text) was mid before after) (settings : TargetConfig)
    (is : WhereBothTold files programs (λ fs answers. Agrees fs answers was
    → IsTargetAlone (given_of was) (rustc_command_of fs was) answers (target_in text) (shown settings)))
    (adds : AtMostAdds mid.target c.target (command_text (target_in text)) settings) (same : mid.target ≡ was.target)
    (tables : tables_of c ≡ tables_of mid) (loaded : c.loaded ≡ mid.loaded) (kept : c.kept ≡ mid.kept) where
  agrees_kept : (fs : Tree) (answers : Answers) → files fs → programs answers → Agrees fs answers was
      → Agrees fs answers c
  agrees_kept fs answers f p h =
      let agrees = left.agrees fs answers f p h in
      agrees_anew fs answers mid c tables loaded
      (subst (λ (k : Kept). AgreesOnLists (rustc_command_of fs mid) answers k) (sym kept) (record { command = agrees.rustc; sets = agrees.sets }))
      (subst (λ (k : Kept). AgreesOnVersions (asked_by fs mid) answers k.versions) (sym kept) agrees.versions)
      (targets_more (given_of mid) (rustc_command_of fs mid) answers mid.target c.target text settings adds
      (same_answer fs answers was mid left.tables left.loaded (target_in text) (shown settings) (is fs answers f p h))
      agrees.targets)

  finds_kept : is_some (get_by_text was.target (command_text (target_in text))) ≡ false → KeepsFinds was c
  finds_kept fresh = record {
    rustc = λ known. ap (λ (k : Kept). k.rustc) kept ∙ left.keeps.rustc known;
    versions = subst (λ (k : Kept). KeepsVersions was.kept.versions k.versions) (sym kept) left.keeps.versions;
    sets = subst (λ (k : Kept). KeepsNames was.kept.cfg_sets k.cfg_sets) (sym kept) left.keeps.sets;
    targets = keeps_more was.target c.target (command_text (target_in text)) settings
        (subst (λ (t : Settings). AtMostAdds t c.target (command_text (target_in text)) settings) same adds) fresh;
  }

  pub leaves_kept : is_some (get_by_text was.target (command_text (target_in text))) ≡ false
      → Leaves files programs (target_in text) was c before after
  leaves_kept fresh = record {
    agrees = agrees_kept;
    keeps = finds_kept fresh;
    tables = tables ∙ left.tables;
    loaded = loaded ∙ left.loaded;
    few = left.few;
    none_unasked = left.none_unasked;
    none_listed = left.none_listed;
  }
