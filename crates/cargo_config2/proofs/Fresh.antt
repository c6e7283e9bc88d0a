-- A configuration that keeps nothing agrees with all contents.
use Rattle.std.proofs.Common.{◌≡◌, Option, None, is_some, option_map, true≢false, sym, ap, subst, ◌∙◌}
use Rattle.std.specs.Prelude.{Result}
use Rattle.cc2_error.specs.Causes.{Refusal}
use Rattle.cc2_base.specs.Told.{Tree}
use Rattle.cc2_base.specs.ToldPrograms.{Answers}
use Rattle.cc2_error.specs.declared.path_and_args.PathAndArgs.{PathAndArgs}
use Rattle.cc2_rustc.specs.Printed.{atoms_of}
use Rattle.cc2_resolved.specs.TargetConfigs.{shown}
use Rattle.cc2_rustc.specs.AskedVersions.{IsKept, AgreesOnVersions}
use Rattle.cc2_rustc.specs.declared.kept_versions.Versions.{Versions}
use Rattle.cc2_rustc.specs.Kept.{IsKeptAs, IsNothingKept}
use Rattle.cargo_config2.specs.Kept.{IsNoTargetKept, Agrees, asked_by}
use Rattle.cargo_config2.specs.RustcKept.{rustc_command_of}
use Rattle.cargo_config2.specs.declared.config.Config.{Config}

nothing_kept : {A : Type 0} (kept : Option A) (stated : Result A Refusal) → kept ≡ None → IsKept kept stated
nothing_kept kept stated none a is = absurd (true≢false (sym (ap is_some (sym none ∙ is))))

pub fresh_agrees : (fs : Tree) (answers : Answers) (c : Config) → IsNothingKept c.kept → IsNoTargetKept c → Agrees fs answers c
fresh_agrees fs answers c nothing no_targets = record {
  rustc = subst (λ (kept : Option PathAndArgs). IsKeptAs kept (rustc_command_of fs c)) (sym nothing.rustc) tt;
  versions = subst (λ (v : Versions). AgreesOnVersions (asked_by fs c) answers v) (sym nothing.versions) (record {
    host = nothing_kept None _ (λ i. None);
    rustc = nothing_kept None _ (λ i. None);
    cargo = nothing_kept None _ (λ i. None);
  });
  sets = λ name. nothing_kept _ _ (ap (option_map atoms_of) (nothing.sets name));
  targets = λ name a kept. absurd (true≢false (sym (ap is_some (sym (ap (option_map shown) (no_targets name)) ∙ kept))));
}
