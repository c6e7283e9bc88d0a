-- A load in the context that comes of options, as a load with what was chosen.
use Rattle.std.proofs.Common.{◌≡◌, ◌⊎◌, ℕ, List, Option, Some, None, Result, Ok, Err, IfOk, IfErr, IsErrAnd, String, Global, string_bytes, sym, ap, subst, refl, ◌∙◌, inl, inr}
use Rattle.cc2_error.specs.Causes.{Refusal, refusal_of}
use Rattle.cc2_base.specs.Homes.{cargo_home_of}
use Rattle.cc2_error.specs.Outcomes.{Answered, IsWantOfMemory}
use Rattle.cc2_base.specs.Told.{Tree}
use Rattle.cc2_error.specs.declared.error.Error.{Error}
use Rattle.cc2_base.specs.declared.machine.Machine.{Machine}
use Rattle.cc2_env.specs.CommandLine.{Override}
use Rattle.cc2_env.specs.Kept.{Variables}
use Rattle.cc2_env.specs.Options.{chosen_overrides, chosen_variables, home_text, overrides_of, variables_of, IsContext}
use Rattle.cc2_env.specs.Ranked.{IsRanked, IsRankCause}
use Rattle.cc2_env.specs.declared.context.ResolveContext.{ResolveContext}
use Rattle.cc2_env.specs.declared.options.ResolveOptions.{ResolveOptions}
use Rattle.cc2_de.specs.Config.{config_at}
use Rattle.cc2_de.specs.ConfigRanks.{config_rank}
use Rattle.cc2_de.specs.Configured.{chosen_home, home_or, IsConfigured, IsConfiguredCause}
use Rattle.cc2_de.specs.LoadFrom.{IsLoadBelow}
use Rattle.cc2_de.specs.LoadIn.{home_in, IsLoaded, IsLoadIn, IsLoadWith}
use Rattle.cc2_de.specs.LoadOver.{IsLoadOverCause}
use Rattle.cc2_de.specs.LoadUnder.{IsLoadUnder, IsLoadUnderCause}
use Rattle.cc2_de.specs.Overrides.{IsOver, IsOverCause}
use Rattle.cc2_de.specs.declared.config.Config.{Config}
use Rattle.cc2_de.proofs.LoadsUnder.{load_applied, load_unapplied}
use Rattle.cc2_de.proofs.LoadsOver.{laid, under_cause}

-- a load with the home that was found in a context's directory, and then the context's variables and overrides
module _ (fs : Tree) (machine : Machine) (context : ResolveContext) (dir : List ℕ) (is : dir ≡ string_bytes context.current_dir)
    (chosen : Option (Option (List ℕ))) (chose : chosen ≡ home_text context.cargo_home) where
  below : (d : List ℕ) (c : Option (Option (List ℕ))) (result : Result Config Error) → IsLoadWith fs d machine c result → IsLoadBelow fs d (home_or c (cargo_home_of d machine)) result
  below d (Some home) (Ok config) h = h
  below d (Some home) (Err e) h = h
  below d None result h = h

  -- the load is one of the context's directory, with its home
  located : (result : Result Config Error) → IsLoadWith fs dir machine chosen result → IsLoadBelow fs (string_bytes context.current_dir) (home_in context machine) result
  located result h =
      below (string_bytes context.current_dir) (home_text context.cargo_home) result
      (subst (λ (d : List ℕ). IsLoadWith fs d machine (home_text context.cargo_home) result) is
      (subst (λ (c : Option (Option (List ℕ))). IsLoadWith fs dir machine c result) chose h))

  -- what the variables make of it, or why there is none
  abbrev pub IsUnder : Result Config Error → Type 0
  IsUnder result =
      Answered config_at result (IsLoadUnder fs (string_bytes context.current_dir) (home_in context machine) (variables_of context))
      (IsLoadUnderCause fs (string_bytes context.current_dir) (home_in context machine) (variables_of context))

  above : (e : Error) → IsUnder (Err e) → IsLoadIn fs machine context (Err e)
  above e (inl wants) = inl wants
  above e (inr cause) =
      inr (under_cause fs (string_bytes context.current_dir) (home_in context machine) (variables_of context) (overrides_of context) (refusal_of e) cause)

  or_cause : (e : Error) → IsLoadBelow fs (string_bytes context.current_dir) (home_in context machine) (Err e) → IsLoadIn fs machine context (Err e)
  or_cause e (inl wants) = inl wants
  or_cause e (inr cause) = above e (inr (inl cause))

  -- where the load is refused
  pub unloaded : (result : Result Config Error) (e : Error) → IsErrAnd result (λ f. f ≡ e) → IsLoadWith fs dir machine chosen (Err e) → IsLoadIn fs machine context result
  unloaded (Ok config) e given h = absurd given
  unloaded (Err f) e given h = subst (λ (g : Error). IsLoadIn fs machine context (Err g)) (sym given) (or_cause e (located (Err e) h))

  -- what the variables make of it, or why one of them is refused
  pub applied : (loaded : Config) (result : Result Config Error) → IsLoadWith fs dir machine chosen (Ok loaded)
      → IfOk result (IsRanked config_at config_rank (variables_of context) loaded)
      → IfErr result (IsRankCause config_at config_rank (variables_of context) loaded) → IsUnder result
  applied loaded (Ok config) load ranked unranked =
      let (load, free) = located (Ok loaded) load in
      load_applied fs (string_bytes context.current_dir) (home_in context machine) (variables_of context) (variables_of context) (λ n. refl) loaded load config free ranked
  applied loaded (Err e) load ranked unranked =
      let (load, free) = located (Ok loaded) load in
      load_unapplied fs (string_bytes context.current_dir) (home_in context machine) (variables_of context) (variables_of context) (λ n. refl) loaded load e unranked

  -- where a variable is refused
  pub unranked : (result : Result Config Error) (e : Error) → IsErrAnd result (λ f. f ≡ e) → IsUnder (Err e) → IsLoadIn fs machine context result
  unranked (Ok config) e given h = absurd given
  unranked (Err f) e given h = subst (λ (g : Error). IsLoadIn fs machine context (Err g)) (sym given) (above e h)

  -- what the overrides make of it
  pub overridden : (ranked : Config) (result : Result Config Error) → IsUnder (Ok ranked)
      → Answered config_at result (IsOver fs (string_bytes context.current_dir) (overrides_of context) (config_at ranked))
      (IsOverCause fs (string_bytes context.current_dir) (overrides_of context) (config_at ranked)) → IsLoadIn fs machine context result
  overridden ranked result (under, free) h =
      laid fs (string_bytes context.current_dir) (home_in context machine) (variables_of context) ranked under (overrides_of context) result free h

not_both : (o : Result (List ℕ) Refusal) (program : List ℕ) (refusal : Refusal) → o ≡ Ok program → o ≡ Err refusal → ⊥
not_both o program refusal h k = cc

module _ (fs : Tree) (options : ResolveOptions) (machine : Machine) (cwd : List ℕ) (place : String Global) (is : string_bytes place ≡ cwd)
    (context : ResolveContext) (made : IsContext options place machine context) where
  directory : string_bytes context.current_dir ≡ cwd
  directory = ap string_bytes made.directory ∙ is

  home : home_in context machine ≡ chosen_home options cwd machine
  home =
      ap (λ dir. home_or (home_text context.cargo_home) (cargo_home_of dir machine)) directory
      ∙ ap (λ chosen. home_or (home_text chosen) (cargo_home_of cwd machine)) made.home

  variables : variables_of context ≡ chosen_variables options machine
  variables = λ i n. made.variables n i

  -- a load in the context is one with what was chosen
  chosen_load : (result : Result Config Error) → IsLoadIn fs machine context result
      → IsLoaded fs cwd (chosen_home options cwd machine) (chosen_variables options machine) (chosen_overrides options) result
  chosen_load result h =
      subst (λ (os : List Override). IsLoaded fs cwd (chosen_home options cwd machine) (chosen_variables options machine) os result) made.overrides
      (subst (λ (vars : Variables). IsLoaded fs cwd (chosen_home options cwd machine) vars (overrides_of context) result) variables
      (subst (λ (found : Result (Option (List ℕ)) Refusal). IsLoaded fs cwd found (variables_of context) (overrides_of context) result) home
      (subst (λ (dir : List ℕ). IsLoaded fs dir (home_in context machine) (variables_of context) (overrides_of context) result) directory h)))

  -- why a load with what was chosen is refused
  abbrev pub IsCause : Refusal → Type 0
  IsCause refusal = IsLoadOverCause fs cwd (chosen_home options cwd machine) (chosen_variables options machine) (chosen_overrides options) refusal

  no_cause : ((refusal : Refusal) → ¬ (IsCause refusal))
      → (refusal : Refusal) → ¬ (IsConfiguredCause fs machine cwd options refusal)
  no_cause free refusal (inl h) = not_both _ _ refusal made.cargo h
  no_cause free refusal (inr h) = free refusal h

  -- the configuration in its context
  pub configured : (config : Config) (result : Result Config Error) → result ≡ Ok config → IsLoadIn fs machine context result
      → IsConfigured fs machine cwd options (record { config = config; context = context }) × ((refusal : Refusal) → ¬ (IsConfiguredCause fs machine cwd options refusal))
  configured config result given h =
      let (under, free) = chosen_load (Ok config) (subst (λ (r : Result Config Error). IsLoadIn fs machine context r) given h) in (
        record {
          directory = directory;
          context = subst (λ (dir : String Global). IsContext options dir machine context) (sym made.directory) made;
          config = under;
        },
        no_cause free,
      )

  either_cause : (e : Error) → IsWantOfMemory e ⊎ IsCause (refusal_of e)
      → IsWantOfMemory e ⊎ IsConfiguredCause fs machine cwd options (refusal_of e)
  either_cause e (inl wants) = inl wants
  either_cause e (inr cause) = inr (inr cause)

  -- why there is none
  pub unconfigured : (e : Error) (result : Result Config Error) → result ≡ Err e
      → IsLoadIn fs machine context result → IsWantOfMemory e ⊎ IsConfiguredCause fs machine cwd options (refusal_of e)
  unconfigured e result given h = either_cause e (chosen_load (Err e) (subst (λ (r : Result Config Error). IsLoadIn fs machine context r) given h))
