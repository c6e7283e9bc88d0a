-- What a load gives, and what is answered by the state that is handed back.
use Rattle.std.specs.Prelude.{◌≡◌, ◌⊎◌, ℕ, List, [], ◌∷◌, Option, Some, None, option_map, Result, Ok, Err, string_bytes}
use Rattle.std.specs.BTreeMap.{IsOrdered}
use Rattle.std.specs.String.{string_cmp}
use Rattle.cc2_error.specs.Causes.{Refusal, plain, memory}
use Rattle.cc2_base.specs.Told.{Tree}
use Rattle.cc2_base.specs.ToldPrograms.{Answers}
use Rattle.cc2_base.specs.declared.machine.Machine.{Machine}
use Rattle.cc2_value.specs.Cells.{KeyPath}
use Rattle.cc2_env.specs.CommandLine.{Override}
use Rattle.cc2_env.specs.Kept.{kept_of}
use Rattle.cc2_env.specs.Options.{chosen_cargo, variables_of}
use Rattle.cc2_env.specs.declared.context.ResolveContext.{ResolveContext}
use Rattle.cc2_resolved.specs.ShownFlags.{flag_texts}
use Rattle.cc2_resolved_cells.specs.Cells.{ShowExactly}
use Rattle.cc2_resolved_cells.specs.Reading.{AreBytesOf}
use Rattle.cc2_resolved_cells.specs.Tables.{cells_of_tables}
use Rattle.cc2_rustc.specs.Kept.{IsNothingKept}
use Rattle.cargo_config2.specs.Config.{shown, tables_of, targets_in}
use Rattle.cargo_config2.specs.Kept.{IsNoTargetKept}
use Rattle.cargo_config2.specs.Loads.{nothing_chosen}
use Rattle.cargo_config2.specs.declared.config.Config.{Config}
use Rattle.cc2_cli.specs.Endings.{outcome_text, outcome_status, refusal_lines}
use Rattle.cc2_answers.specs.Choices.{IsConfigUnder, IsConfigUnderCause}
use Rattle.cc2_answers.specs.Items.{Item, items_alone}
use Rattle.cc2_answers.specs.Outcomes.{AreOutcome}
use Rattle.cc2_answers.specs.SeveralRuns.{as_it_is}
use Rattle.cc2_state.specs.Shown.{AreFlatTables, tables_cells}
use Rattle.cc2_state.specs.State.{LoadState, state_in}
use Rattle.cc2_state.specs.Views.{ShowsEntries, texts_lent}
use Rattle.cc2_state.specs.declared.state.StateParts.{StateParts}

-- a configuration has what a state says: the tables below `target` with their cells, the marks, and the settings of `build`
-- that queries read
pub record IsStateOf (c : Config) (s : LoadState) : Type 0 where
  pub cells : (p : KeyPath) → targets_in c p ≡ tables_cells s p
  pub tables : ShowsEntries s.tables c.loaded.target
  pub ordered : IsOrdered string_cmp c.loaded.target
  pub flags : c.loaded.flags_overridden ≡ s.flags_overridden
  pub doc_flags : c.loaded.doc_flags_overridden ≡ s.doc_flags_overridden
  pub rustc : option_map string_bytes c.build.rustc ≡ s.rustc
  pub wrapper : option_map string_bytes c.build.rustc_wrapper ≡ s.wrapper
  pub workspace_wrapper : option_map string_bytes c.build.rustc_workspace_wrapper ≡ s.workspace_wrapper
  pub rustflags : option_map flag_texts c.build.rustflags ≡ s.rustflags
  pub rustdocflags : option_map flag_texts c.build.rustdocflags ≡ s.rustdocflags

-- a context has what queries read of a machine and a directory, where neither rustc nor a host is chosen
pub record IsContextIn (machine : Machine) (dir : List ℕ) (context : ResolveContext) : Type 0 where
  pub directory : string_bytes context.current_dir ≡ dir
  pub variables : (name : List ℕ) → variables_of context name ≡ kept_of machine.env.items name
  pub cargo : chosen_cargo nothing_chosen machine ≡ Ok (string_bytes context.cargo)
  pub rustc : context.rustc ≡ None
  pub host : context.host_triple ≡ None

-- a configuration that has a state, in the context of a machine and a directory; nothing is cached
pub record IsConfigBy (machine : Machine) (dir : List ℕ) (s : LoadState) (c : Config) : Type 0 where
  pub state : IsStateOf c s
  pub context : IsContextIn machine dir c.loaded.context
  pub nothing_kept : IsNothingKept c.kept
  pub no_targets : IsNoTargetKept c

-- the bytes are read as what a configuration has; there are none where some table below `target` holds another one
abbrev pub AreBytesFor : Config → List ℕ → Type 0
AreBytesFor c [] = ¬ (AreFlatTables c.loaded.target)
AreBytesFor c (b ∷ bytes) = (s : LoadState) × (state_in (b ∷ bytes) ≡ Some s) × IsStateOf c s

-- the same of a configuration in the context of a machine and a directory
abbrev pub AreStateBytes : Machine → List ℕ → Config → List ℕ → Type 0
AreStateBytes machine dir c [] = ¬ (AreFlatTables c.loaded.target)
AreStateBytes machine dir c (b ∷ bytes) = (s : LoadState) × (state_in (b ∷ bytes) ≡ Some s) × IsConfigBy machine dir s c

-- the bytes are those of the cells of a configuration: exactly what it shows, and they are read back as these cells
pub record AreCellsOf (c : Config) (bytes : List ℕ) : Type 0 where
  pub written : AreBytesOf (cells_of_tables (tables_of c)) bytes
  pub exact : ShowExactly (cells_of_tables (tables_of c)) (shown c)

-- the cells and the state are those of a configuration that the load from a directory gives, and there is no cause for
-- which the load is refused
pub record IsLoadReply (fs : Tree) (machine : Machine) (dir : List ℕ) (os : List Override) (cells state : List ℕ) : Type 0 where
  pub config : Config
  pub is : IsConfigUnder fs machine dir os config
  pub free : (refusal : Refusal) → ¬ (IsConfigUnderCause fs machine dir os refusal)
  pub shows : AreCellsOf config cells
  pub leaves : AreStateBytes machine dir config state

-- the text and the status are those of a cause for which the load is refused, or of out of memory
abbrev pub IsRefusedLoad : Tree → Machine → List ℕ → List Override → List ℕ → ℕ → Type 0
IsRefusedLoad fs machine dir os text status =
    (refusal : Refusal) × ((refusal ≡ plain memory) ⊎ IsConfigUnderCause fs machine dir os refusal)
    × (text ≡ refusal_lines refusal) × (status ≡ 1)

module _ (fs : Tree) (answers : Answers) (machine : Machine) (dir : List ℕ) where
  -- what items come to by a state: a configuration has it, and they come to the same by each that has it. A loaded one whose
  -- state was handed back is one of these.
  pub record IsOutcomeOfState (s : LoadState) (items : List Item) (outcome : Result (List ℕ) Refusal) : Type 0 where
    pub config : Config
    pub is : IsConfigBy machine dir s config
    pub by : (c : Config) → IsConfigBy machine dir s c → AreOutcome fs answers c items outcome

  -- `CARGO` is refused, or memory ran out
  abbrev pub IsWithoutContext : Result (List ℕ) Refusal → Type 0
  IsWithoutContext outcome =
      ((refusal : Refusal) × (chosen_cargo nothing_chosen machine ≡ Err refusal) × (outcome ≡ Err refusal))
      ⊎ (outcome ≡ Err (plain memory))

  -- what they come to by one configuration that has the state
  abbrev pub IsOutcomeBySome : LoadState → List Item → Result (List ℕ) Refusal → Type 0
  IsOutcomeBySome s items outcome = (c : Config) × IsConfigBy machine dir s c × AreOutcome fs answers c items outcome

  -- the text and the status are those of such an outcome
  abbrev pub PrintsBySome : LoadState → List Item → List ℕ → ℕ → Type 0
  PrintsBySome s items text status =
      (outcome : Result (List ℕ) Refusal) × (IsOutcomeBySome s items outcome ⊎ IsWithoutContext outcome)
      × (text ≡ outcome_text as_it_is outcome) × (status ≡ outcome_status outcome)

  -- the text and the status are those of what items come to by the state; words that are no items have no answer
  abbrev pub AnswersItems : LoadState → Option (List Item) → List ℕ → ℕ → Type 0
  AnswersItems s None text status = (text ≡ []) × (status ≡ 2)
  AnswersItems s (Some items) text status =
      (outcome : Result (List ℕ) Refusal) × (IsOutcomeOfState s items outcome ⊎ IsWithoutContext outcome)
      × (text ≡ outcome_text as_it_is outcome) × (status ≡ outcome_status outcome)

  -- the same of the bytes of a state; bytes that are none have no answer, or memory ran out
  abbrev pub AnswersBy : Option LoadState → List (List ℕ) → List ℕ → ℕ → Type 0
  AnswersBy None words text status = (text ≡ []) × (status ≡ 2)
  AnswersBy (Some s) words text status = AnswersItems s (items_alone words) text status

  abbrev pub StateAnswers : List ℕ → List (List ℕ) → List ℕ → ℕ → Type 0
  StateAnswers bytes words text status =
      AnswersBy (state_in bytes) words text status ⊎ ((text ≡ refusal_lines (plain memory)) × (status ≡ 1))

-- what is lent of a configuration is its state's parts
pub record IsLent (c : Config) (p : StateParts) : Type 0 where
  pub flags : p.flags_overridden ≡ c.loaded.flags_overridden
  pub doc_flags : p.doc_flags_overridden ≡ c.loaded.doc_flags_overridden
  pub rustc : option_map (λ t. t.now) p.rustc ≡ option_map string_bytes c.build.rustc
  pub wrapper : option_map (λ t. t.now) p.rustc_wrapper ≡ option_map string_bytes c.build.rustc_wrapper
  pub workspace_wrapper : option_map (λ t. t.now) p.rustc_workspace_wrapper ≡ option_map string_bytes c.build.rustc_workspace_wrapper
  pub rustflags : texts_lent p.rustflags ≡ option_map flag_texts c.build.rustflags
  pub rustdocflags : texts_lent p.rustdocflags ≡ option_map flag_texts c.build.rustdocflags
  pub target : p.target.now ≡ c.loaded.target
