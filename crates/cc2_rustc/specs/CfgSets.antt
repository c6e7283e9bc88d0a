-- What rustc prints for a target: the command that asks, its answer, and what is kept of answers.
-- Cargo Reference, Configuration, `[target]`; `rustc --print cfg`.
use Rattle.std.specs.Prelude.{◌++◌, ℕ, List, [], ◌∷◌, codes, Option, Some, None, option_map, Result, Ok, Err}
use Rattle.std.specs.BTreeMap.{BTreeMap, get_by_text}
use Rattle.std.specs.declared.alloc.Global.{Global}
use Rattle.std.specs.Prelude.{String}
use Rattle.cc2_error.specs.Causes.{Refusal}
use Rattle.cc2_error.specs.Commands.{Command, with_args}
use Rattle.cc2_base.specs.ToldPrograms.{Answers}
use Rattle.cc2_cfg.specs.Meaning.{Atom}
use Rattle.cc2_rustc.specs.Printed.{printed, atoms_of}
use Rattle.cc2_rustc.specs.Readings.{Reading, cfg_answer}
use Rattle.cc2_rustc.specs.Values.{values_of}
use Rattle.cc2_rustc.specs.declared.cfg_set.CfgSet.{CfgSet}
use Rattle.cc2_resolved.specs.Targets.{Target, target_in, command_text}
use Rattle.cc2_rustc.specs.AskedVersions.{IsKept}
use Rattle.cc2_rustc.specs.Said.{said}

-- files that describe targets are taken with this alone
abbrev pub unstable_args : Option (List ℕ) → List (List ℕ)
unstable_args None = []
unstable_args (Some path) = codes "-Z" ∷ (codes "unstable-options" ∷ [])

abbrev pub cfg_args : Target → List (List ℕ)
cfg_args t = unstable_args t.spec_path
    ++ (codes "--print" ∷ (codes "cfg" ∷ (codes "--target" ∷ (command_text t ∷ []))))

-- the command for rustc, and after it the question for the target
abbrev pub cfg_command : Command → Target → Command
cfg_command rustc t = with_args rustc (cfg_args t)

abbrev pub listed : Result (List ℕ) Refusal → Result (List Atom) Refusal
listed (Ok text) = Ok (printed text)
listed (Err refusal) = Err refusal

-- what rustc prints for the target, or why that isn't known
abbrev pub set_said : Command → Answers → Target → Result (List Atom) Refusal
set_said rustc answers t = listed (said answers (cfg_command rustc t))

abbrev pub Sets : Type 0
Sets = BTreeMap (String Global) CfgSet

abbrev pub kept_set : Sets → List ℕ → Option (List Atom)
kept_set sets name = option_map atoms_of (get_by_text sets name)

-- what is kept for a target's text is what rustc prints for that target
abbrev pub AgreesOnSets : Command → Answers → Sets → Type 0
AgreesOnSets rustc answers sets = (name : List ℕ) → IsKept (kept_set sets name) (set_said rustc answers (target_in name))

-- what the values of a name are read as, by what rustc prints
abbrev pub values_said : {A : Type 0} → List ℕ → ℕ → Reading A → Result (List Atom) Refusal → Result A Refusal
values_said name most reading (Ok atoms) = cfg_answer name most reading (values_of name atoms)
values_said name most reading (Err refusal) = Err refusal
