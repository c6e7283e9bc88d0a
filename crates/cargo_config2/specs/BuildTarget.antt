-- The targets of a build, as its command line has them. Cargo Reference, Configuration, `build.target`.
use Rattle.std.specs.Prelude.{ℕ, Bool, true, false, List, [], ◌∷◌, map, Option, Some, None, option_map, unwrap_or, Result, Ok, Err, ok_or, Vec}
use Rattle.std.specs.declared.alloc.Global.{Global}
use Rattle.cc2_error.specs.Causes.{Refusal, plain, spec_name}
use Rattle.cc2_resolved.specs.Targets.{Target, target_of, command_text}
use Rattle.cc2_resolved.specs.ShownTargets.{target_at}
use Rattle.cc2_resolved.specs.declared.target_triple.TargetTripleRef.{TargetTripleRef}

-- the texts that were given, where there is one; else those of `build.target`; else none
abbrev pub targets_for_cli : List (List ℕ) → Option (List Target) → List (List ℕ)
targets_for_cli (text ∷ texts) configured = text ∷ texts
targets_for_cli [] (Some targets) = map command_text targets
targets_for_cli [] None = []

-- what a list of targets shows, where there is one
abbrev pub targets_shown : Option (Vec TargetTripleRef Global) → Option (List Target)
targets_shown configured = option_map (λ targets. map target_at targets.items) configured

-- the targets that were given, where there is one; else those of `build.target`
abbrev pub targets_set : List Target → Option (List Target) → List Target
targets_set (target ∷ targets) configured = target ∷ targets
targets_set [] configured = unwrap_or configured []

abbrev pub has_target : List Target → Bool
has_target [] = false
has_target (target ∷ targets) = true

-- there is a target by these
abbrev pub is_given : List Target → Option (List Target) → Bool
is_given given configured = has_target (targets_set given configured)

-- the target of a text, as a list of one; a spec path without file name is refused
abbrev pub target_alone : List ℕ → Result (List Target) Refusal
target_alone text = ok_or (option_map (λ target. target ∷ []) (target_of text)) (plain spec_name)

abbrev pub of_host : Result (List ℕ) Refusal → Result (List Target) Refusal
of_host (Ok host) = target_alone host
of_host (Err refusal) = Err refusal

-- a list, or where it has no target the host
abbrev pub or_host : List Target → Result (List ℕ) Refusal → Result (List Target) Refusal
or_host [] host = of_host host
or_host (target ∷ targets) host = Ok (target ∷ targets)

abbrev pub targets_for_config : List Target → Option (List Target) → Result (List ℕ) Refusal → Result (List Target) Refusal
targets_for_config given configured host = or_host (targets_set given configured) host
