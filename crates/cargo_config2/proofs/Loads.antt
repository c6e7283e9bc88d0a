-- A load, and then its resolution.
use Rattle.std.proofs.Common.{◌≡◌, ◌⊎◌, ℕ, List, ◌∷◌, string_bytes, sym, subst, inl, inr}
use Rattle.cc2_error.specs.Causes.{Refusal, refusal_of}
use Rattle.cc2_error.specs.Outcomes.{IsWantOfMemory}
use Rattle.cc2_base.specs.Told.{Tree}
use Rattle.cc2_error.specs.declared.error.Error.{Error}
use Rattle.cc2_base.specs.declared.machine.Machine.{Machine}
use Rattle.cc2_value.specs.Cells.{field, KeyPath}
use Rattle.cc2_env.specs.Options.{chosen_overrides, chosen_variables, IsContext}
use Rattle.cc2_env.specs.declared.context.ResolveContext.{ResolveContext}
use Rattle.cc2_env.specs.declared.options.ResolveOptions.{ResolveOptions}
use Rattle.cc2_de.specs.Config.{config_at}
use Rattle.cc2_de.specs.Configured.{chosen_home, IsConfigured, IsConfiguredCause}
use Rattle.cc2_de.specs.declared.configured.Configured.{Configured}
use Rattle.cc2_de.proofs.LoadsOver.{one_over}
use Rattle.cc2_resolved_tables.specs.Tables.{tables_rows}
use Rattle.cc2_resolved.proofs.Sites.{refused_alike}
use Rattle.cargo_config2.specs.Loads.{IsConfig, IsConfigCause}
use Rattle.cargo_config2.specs.Resolution.{IsResolutionOf, IsResolutionOfCells, IsUnresolved, IsUnresolvedCell}
use Rattle.cargo_config2.specs.declared.config.Config.{Config}

module _ (fs : Tree) (machine : Machine) (cwd : List ℕ) (options : ResolveOptions) (configured : Configured) (loaded : IsConfigured fs machine cwd options configured) where
  -- what was loaded is final, so a setting that is refused there is refused here
  pub or_unresolved : (e : Error) → IsWantOfMemory e ⊎ IsUnresolved configured (refusal_of e) → IsWantOfMemory e ⊎ IsConfigCause fs machine cwd options (refusal_of e)
  or_unresolved e (inl wants) = inl wants
  or_unresolved e (inr refused) =
      inr (inr (config_at configured.config, loaded.config, subst (λ (dir : List ℕ). IsUnresolvedCell dir (config_at configured.config) (refusal_of e)) loaded.directory refused))

  module _ (c : Config) (is : IsResolutionOf configured c) where
    pub is_config : IsConfig fs machine cwd options c
    is_config = record {
      cells = config_at configured.config;
      final = loaded.config;
      resolution = subst (λ (dir : List ℕ). IsResolutionOfCells dir (config_at configured.config) c) loaded.directory is.cells;
      directory = subst (λ (context : ResolveContext). string_bytes context.current_dir ≡ cwd) (sym is.context) loaded.directory;
      context = subst (λ (context : ResolveContext). IsContext options context.current_dir machine context) (sym is.context) loaded.context;
      nothing_kept = is.nothing_kept;
      no_targets = is.no_targets;
    }

    -- there is no cause where neither the load nor its resolution has one
    pub no_cause : ((refusal : Refusal) → ¬ (IsConfiguredCause fs machine cwd options refusal)) → ((refusal : Refusal) → ¬ (IsUnresolved configured refusal))
        → (refusal : Refusal) → ¬ (IsConfigCause fs machine cwd options refusal)
    no_cause free settled refusal (inl cause) = free refusal cause
    no_cause free settled refusal (inr (cells, final, refused)) =
        let m = config_at configured.config in
        let same : (p : KeyPath) → cells p ≡ m p =
        one_over fs cwd (chosen_home options cwd machine) (chosen_variables options machine) (chosen_overrides options) cells m final loaded.config in
        settled refusal (subst (λ (dir : List ℕ). IsUnresolvedCell dir m refusal) (sym loaded.directory)
        (refused_alike tables_rows cwd cells m (λ k p. same (field k ∷ p)) refusal refused))
