-- What is answered to several questions of a directory: the text, and the status.
use Rattle.std.specs.Prelude.{◌≡◌, ◌⊎◌, ℕ, List, map, Some, Result, Ok, Err, Vec}
use Rattle.std.specs.declared.alloc.Global.{Global}
use Rattle.cc2_error.specs.Causes.{Refusal, refusal_of, plain, memory}
use Rattle.cc2_error.specs.declared.error.Error.{Error}
use Rattle.cc2_base.specs.Told.{Tree}
use Rattle.cc2_base.specs.ToldPrograms.{Answers}
use Rattle.cc2_base.specs.declared.machine.Machine.{Machine}
use Rattle.cc2_env.specs.CommandLine.{Override}
use Rattle.cargo_config2.specs.declared.config.Config.{Config}
use Rattle.cc2_cli.specs.Endings.{outcome_text, outcome_status}
use Rattle.cc2_answers.specs.Choices.{IsOverLoad, override_of}
use Rattle.cc2_answers.specs.Items.{Item, Several, items_in}
use Rattle.cc2_answers.specs.Outcomes.{AreOutcome}

-- what several items come to over one load
abbrev pub IsSeveralOutcome : Tree → Answers → Machine → List ℕ → List Override → List Item → Result (List ℕ) Refusal → Type 0
IsSeveralOutcome fs answers machine dir os items outcome =
    IsOverLoad fs machine dir os (λ c found. AreOutcome fs answers c items found) outcome

-- a text is printed as it is
abbrev pub as_it_is : List ℕ → List ℕ
as_it_is text = text

-- what a result shows
abbrev pub outcome_of : Result (Vec ℕ Global) Error → Result (List ℕ) Refusal
outcome_of (Ok text) = Ok text.items
outcome_of (Err e) = Err (refusal_of e)

-- the text and the status are those of such an outcome
abbrev pub PrintsSeveral : Tree → Answers → Machine → List ℕ → List Override → List Item → List ℕ → ℕ → Type 0
PrintsSeveral fs answers machine dir os items text status =
    (outcome : Result (List ℕ) Refusal) × IsSeveralOutcome fs answers machine dir os items outcome
    × (text ≡ outcome_text as_it_is outcome) × (status ≡ outcome_status outcome)

-- the same of items under choices
abbrev pub SeveralGives : Tree → Answers → Machine → List ℕ → Several → List ℕ → ℕ → Type 0
SeveralGives fs answers machine dir asked text status = PrintsSeveral fs answers machine dir (map override_of asked.choices) asked.items text status

-- the same of words; where they are no question this says nothing
abbrev pub WordsGive : Tree → Answers → Machine → List ℕ → List (List ℕ) → List ℕ → ℕ → Type 0
WordsGive fs answers machine dir words text status =
    (asked : Several) → items_in words ≡ Some asked → SeveralGives fs answers machine dir asked text status

-- the text and the status are those of what items come to by a configuration, or of out of memory
abbrev pub PrintsItems : Tree → Answers → Config → List Item → List ℕ → ℕ → Type 0
PrintsItems fs answers c items text status =
    (outcome : Result (List ℕ) Refusal) × (AreOutcome fs answers c items outcome ⊎ (outcome ≡ Err (plain memory)))
    × (text ≡ outcome_text as_it_is outcome) × (status ≡ outcome_status outcome)
