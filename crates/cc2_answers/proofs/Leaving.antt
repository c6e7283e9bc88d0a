-- What questions leave, and that items come to the same by it.
use Rattle.std.proofs.Common.{◌≡◌, ℕ, List, Option, Some, None, Result, Ok, Vec, Global, sym, ap, subst, ◌∙◌}
use Rattle.cc2_error.specs.Causes.{Refusal}
use Rattle.cc2_error.specs.Commands.{Command}
use Rattle.cc2_error.specs.declared.error.Error.{Error}
use Rattle.cc2_base.specs.Told.{Tree}
use Rattle.cc2_base.specs.ToldPrograms.{Answers}
use Rattle.cc2_resolved.specs.Targets.{Target, target_of}
use Rattle.cc2_resolved_tables.specs.declared.tables.Tables.{Tables}
use Rattle.cc2_target.specs.Settings.{Given}
use Rattle.cc2_resolved.specs.TargetConfigs.{TargetAnswer}
use Rattle.cc2_rustc.specs.AskedVersions.{Asked, host_said, rustc_version_said, cargo_version_said}
use Rattle.cargo_config2.specs.Config.{tables_of}
use Rattle.cargo_config2.specs.Kept.{given_of}
use Rattle.cargo_config2.specs.Left.{IsLeft}
use Rattle.cargo_config2.specs.RustcKept.{rustc_command_of}
use Rattle.cargo_config2.specs.Targets.{IsTarget, IsTargetCause}
use Rattle.cargo_config2.specs.declared.config.Config.{Config}
use Rattle.cargo_config2.specs.declared.config.Loaded.{Loaded}
use Rattle.cargo_config2.proofs.Keeping.{same_asked, same_command, same_given}
use Rattle.cc2_cli.specs.CommandLines.{rustc_lines, host_line}
use Rattle.cc2_cli.specs.Endings.{IsOutcome}
use Rattle.cc2_answers.specs.TargetRuns.{IsOutcomeFor}
use Rattle.cc2_answers.specs.Items.{Item, build, rustc, host, target, cfg, rustc_version, cargo_version}
use Rattle.cc2_answers.specs.ItemViews.{item_view}
use Rattle.cc2_answers.specs.Left.{IsAsked, IsReady}
use Rattle.cc2_answers.specs.Outcomes.{cfg_outcome, ComesTo, in_lines, IsOutcomeOf}
use Rattle.cc2_answers.specs.ResolvedLines.{resolved_lines}
use Rattle.cc2_answers.specs.VersionLines.{cargo_version_lines, rustc_version_lines}
use Rattle.cc2_answers.specs.declared.words.Item.{Item as CodeItem}

-- what is left may be asked on
pub ready_on : (fs : Tree) (answers : Answers) (files : Tree → Type 0) (programs : Answers → Type 0) (was c : Config)
    → IsLeft files programs was c → files fs → programs answers → IsReady fs answers was → IsReady fs answers c
ready_on fs answers files programs was c left f p h = record {
  agrees = left.agrees fs answers f p h.agrees;
  unchosen = ap (λ (l : Loaded). l.context.rustc) left.loaded ∙ h.unchosen;
}

-- what is asked of an item is asked of what is the same
pub asked_alike : (files : Tree → Type 0) (programs after : Answers → Type 0) (was c : Config) (r : Result (Vec ℕ Global) Error)
    (item other : CodeItem) → item ≡ other
    → IsAsked files programs after was c (λ fs answers. ComesTo (IsOutcomeOf fs answers was (item_view other)) r)
    → IsAsked files programs after was c (λ fs answers. ComesTo (IsOutcomeOf fs answers was (item_view item)) r)
asked_alike files programs after was c r item other is h =
    subst (λ (i : CodeItem). IsAsked files programs after was c (λ fs answers. ComesTo (IsOutcomeOf fs answers was (item_view i)) r))
    (sym is) h

module _ (fs : Tree) (answers : Answers) (was c : Config) (tables : tables_of c ≡ tables_of was) (loaded : c.loaded ≡ was.loaded) where
  -- what a target comes to by a later configuration it comes to by the earlier one
  target_back : (t : Option Target) (said : Result TargetAnswer Refusal) → IsOutcomeFor fs answers c t said → IsOutcomeFor fs answers was t said
  target_back None said h = h
  target_back (Some t) said h =
      subst (λ (m : Command). IsOutcome said (IsTarget (given_of was) m answers t) (IsTargetCause (given_of was) m answers t))
      (same_command fs answers was c tables loaded)
      (subst (λ (g : Given). IsOutcome said (IsTarget g (rustc_command_of fs c) answers t) (IsTargetCause g (rustc_command_of fs c) answers t))
      (same_given fs answers was c tables loaded) h)

  -- so does an item
  pub outcome_back : (item : Item) (outcome : Result (List ℕ) Refusal) → IsOutcomeOf fs answers c item outcome → IsOutcomeOf fs answers was item outcome
  outcome_back build outcome h = h ∙ ap (λ (t : Tables). Ok (resolved_lines t.build)) tables
  outcome_back rustc outcome h = h ∙ ap (λ (m : Command). Ok (rustc_lines m)) (same_command fs answers was c tables loaded)
  outcome_back host outcome h =
      h ∙ ap (λ (s : Asked). in_lines host_line (host_said s answers)) (same_asked fs answers was c tables loaded)
  outcome_back (target text) outcome (said, of, is) = (said, target_back (target_of text) said of, is)
  outcome_back (cfg text name) outcome h =
      h ∙ ap (λ (m : Command). cfg_outcome m answers (target_of text) name) (same_command fs answers was c tables loaded)
  outcome_back rustc_version outcome h =
      h ∙ ap (λ (s : Asked). in_lines rustc_version_lines (rustc_version_said s answers)) (same_asked fs answers was c tables loaded)
  outcome_back cargo_version outcome h =
      h ∙ ap (λ (s : Asked). in_lines cargo_version_lines (cargo_version_said s answers)) (same_asked fs answers was c tables loaded)
