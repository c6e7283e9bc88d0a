-- What is written for a request of a configuration, or of what is at a key of it.
use Rattle.std.specs.Prelude.{◌≡◌, ◌⊎◌, ℕ, Bool, true, false, not, ◌&&◌, List, [], map, Option, Some, None, is_none}
use Rattle.cc2_error.specs.Causes.{memory, plain}
use Rattle.cc2_base.specs.Told.{Tree}
use Rattle.cc2_base.specs.declared.machine.Machine.{Machine}
use Rattle.cc2_answers.specs.Choices.{override_of}
use Rattle.cc2_show_answers.specs.Resolved.{ShowsResolved}
use Rattle.cc2_show_answers.specs.ToldRuns.{IsMapCause, IsRefused, IsStageMap, Tells, Written}
use Rattle.cc2_show_answers.specs.Unmerged.{EndsUnmerged}
use Rattle.cc2_cli.specs.Choices.{Choice}
use Rattle.cc2_cli.specs.Keys.{IsKey}
use Rattle.cc2_cli.specs.ShowWords.{Request, Stage, resolved, files, environment}

-- the pieces of a key; without a key there are none
abbrev pub IsKeyIn : Option (List ℕ) → List (List ℕ) → Type 0
IsKeyIn None pieces = pieces ≡ []
IsKeyIn (Some key) pieces = IsKey key pieces

-- there is a key, and it isn't well formed
abbrev pub IsNoKeyIn : Option (List ℕ) → Type 0
IsNoKeyIn key = (pieces : List (List ℕ)) → ¬ (IsKeyIn key pieces)

abbrev pub is_final : Stage → Bool
is_final resolved = true
is_final files = false
is_final environment = false

-- the whole resolved configuration, without where its values were set
abbrev pub is_resolved : Request → Bool
is_resolved request = is_none request.key && not request.origins && is_final request.stage

module _ (fs : Tree) (machine : Machine) where
  -- what is written for a configuration in which it is known where each value was set, or for what is at a key
  pub data KeyGives (request : Request) (choices : List Choice) (w : Written) : Type 0 where
    told : (pieces : List (List ℕ)) → IsKeyIn request.key pieces
        → Tells request pieces (IsStageMap fs machine request.dir (map override_of choices) request.stage)
        (IsMapCause fs machine request.dir (map override_of choices) request.stage) w → KeyGives request choices w
    without_memory : IsRefused (plain memory) w → KeyGives request choices w

  -- what is written of the resolved configuration
  pub data ResolvedGives (request : Request) (choices : List Choice) (w : Written) : Type 0 where
    resolved_at : (pieces : List (List ℕ)) → IsKeyIn request.key pieces
        → ShowsResolved fs machine (map override_of choices) request pieces w → ResolvedGives request choices w
    unresolved : IsRefused (plain memory) w → ResolvedGives request choices w

  -- what is written for what each source has by itself
  abbrev pub EachGives : Request → List Choice → Written → Type 0
  EachGives request choices w =
      ((pieces : List (List ℕ)) × IsKeyIn request.key pieces
      × EndsUnmerged fs machine (map override_of choices) request pieces w.out w.status × (w.err ≡ []))
      ⊎ IsRefused (plain memory) w

  -- of one configuration: resolved, or in which it is known where each value was set
  abbrev pub GivesValues : Bool → Request → List Choice → Written → Type 0
  GivesValues true request choices w = ResolvedGives request choices w
  GivesValues false request choices w = KeyGives request choices w

  -- merged to one configuration, or each source by itself
  abbrev pub GivesMerged : Bool → Request → List Choice → Written → Type 0
  GivesMerged true request choices w = GivesValues (is_resolved request) request choices w
  GivesMerged false request choices w = EachGives request choices w

  -- what is written for a request under choices
  abbrev pub RequestGives : Request → List Choice → Written → Type 0
  RequestGives request choices w = GivesMerged request.merged request choices w
