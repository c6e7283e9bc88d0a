-- What items come to by a configuration.
use Rattle.std.specs.Prelude.{◌≡◌, ◌⊎◌, ℕ, List, [], ◌∷◌, ◌++◌, codes, flat_map, Option, Some, None, Result, Ok, Err, Vec}
use Rattle.std.specs.declared.alloc.Global.{Global}
use Rattle.cc2_error.specs.Causes.{Refusal, refusal_of, plain, memory, spec_name}
use Rattle.cc2_error.specs.Commands.{Command}
use Rattle.cc2_error.specs.Outcomes.{IsWantOfMemory}
use Rattle.cc2_error.specs.declared.error.Error.{Error}
use Rattle.cc2_base.specs.Told.{Tree}
use Rattle.cc2_base.specs.ToldPrograms.{Answers}
use Rattle.cc2_resolved.specs.Targets.{Target, target_of}
use Rattle.cc2_rustc.specs.CfgSets.{set_said}
use Rattle.cc2_resolved.specs.TargetConfigs.{TargetAnswer}
use Rattle.cc2_rustc.specs.AskedVersions.{host_said, rustc_version_said, cargo_version_said}
use Rattle.cargo_config2.specs.Kept.{asked_by}
use Rattle.cargo_config2.specs.RustcKept.{rustc_command_of}
use Rattle.cargo_config2.specs.declared.config.Config.{Config}
use Rattle.cc2_cli.specs.CommandLines.{rustc_lines, host_line}
use Rattle.cc2_answers.specs.TargetLines.{target_lines}
use Rattle.cc2_answers.specs.TargetRuns.{IsOutcomeFor}
use Rattle.cc2_answers.specs.CfgLines.{cfg_lines}
use Rattle.cc2_answers.specs.Items.{Item, build, rustc, host, target, cfg, rustc_version, cargo_version}
use Rattle.cc2_answers.specs.ResolvedLines.{resolved_lines}
use Rattle.cc2_answers.specs.VersionLines.{rustc_version_lines, cargo_version_lines}

-- the lines of an answer, or why there is none
abbrev pub in_lines : {A : Type 0} → (A → List ℕ) → Result A Refusal → Result (List ℕ) Refusal
in_lines lines (Ok answer) = Ok (lines answer)
in_lines lines (Err refusal) = Err refusal

-- what the question for a cfg name comes to, by this command for rustc: the lines of its values, or why rustc's list isn't known;
-- a text without a target is refused
abbrev pub cfg_outcome : Command → Answers → Option Target → List ℕ → Result (List ℕ) Refusal
cfg_outcome command answers None name = Err (plain spec_name)
cfg_outcome command answers (Some t) name = in_lines (cfg_lines name) (set_said command answers t)

-- each text with an empty line after it
abbrev pub spaced : List (List ℕ) → List ℕ
spaced texts = flat_map (λ text. text ++ codes "\n") texts

module _ (fs : Tree) (answers : Answers) (c : Config) where
  -- what an item comes to: its lines, or why it is refused
  abbrev pub IsOutcomeOf : Item → Result (List ℕ) Refusal → Type 0
  IsOutcomeOf build outcome = outcome ≡ Ok (resolved_lines c.build)
  IsOutcomeOf rustc outcome = outcome ≡ Ok (rustc_lines (rustc_command_of fs c))
  IsOutcomeOf host outcome = outcome ≡ in_lines host_line (host_said (asked_by fs c) answers)
  IsOutcomeOf (target text) outcome =
      (said : Result TargetAnswer Refusal) × IsOutcomeFor fs answers c (target_of text) said × (outcome ≡ in_lines target_lines said)
  IsOutcomeOf (cfg text name) outcome = outcome ≡ cfg_outcome (rustc_command_of fs c) answers (target_of text) name
  IsOutcomeOf rustc_version outcome = outcome ≡ in_lines rustc_version_lines (rustc_version_said (asked_by fs c) answers)
  IsOutcomeOf cargo_version outcome = outcome ≡ in_lines cargo_version_lines (cargo_version_said (asked_by fs c) answers)

  -- each item is answered with the text in its place
  abbrev pub AreAnswered : List Item → List (List ℕ) → Type 0
  AreAnswered [] [] = Unit {0}
  AreAnswered [] (text ∷ texts) = ⊥
  AreAnswered (item ∷ items) [] = ⊥
  AreAnswered (item ∷ items) (text ∷ texts) = IsOutcomeOf item (Ok text) × AreAnswered items texts

  -- an item is refused so, and all in front of it are answered
  pub record IsFirstRefused (items : List Item) (refusal : Refusal) : Type 0 where
    pub front : List Item
    pub item : Item
    pub behind : List Item
    pub texts : List (List ℕ)
    pub are : items ≡ front ++ item ∷ behind
    pub answered : AreAnswered front texts
    pub refused : IsOutcomeOf item (Err refusal)

  -- what items come to: the text of each, in their order, or the refusal of the first that is refused; or out of memory
  abbrev pub AreOutcome : List Item → Result (List ℕ) Refusal → Type 0
  AreOutcome items (Ok text) = (texts : List (List ℕ)) × AreAnswered items texts × (text ≡ spaced texts)
  AreOutcome items (Err refusal) = (refusal ≡ plain memory) ⊎ IsFirstRefused items refusal

  -- the text of an item is after what was there, with an empty line; or it is refused so; or memory ran out
  abbrev pub IsAppended : Item → List ℕ → List ℕ → Result (Unit {0}) Error → Type 0
  IsAppended item was text (Ok done) = (lines : List ℕ) × IsOutcomeOf item (Ok lines) × (text ≡ was ++ (lines ++ codes "\n"))
  IsAppended item was text (Err e) = IsWantOfMemory e ⊎ IsOutcomeOf item (Err (refusal_of e))

-- the result shows such an outcome, or memory ran out
abbrev pub ComesTo : (Result (List ℕ) Refusal → Type 0) → Result (Vec ℕ Global) Error → Type 0
ComesTo Is (Ok text) = Is (Ok text.items)
ComesTo Is (Err e) = IsWantOfMemory e ⊎ Is (Err (refusal_of e))
