-- What is written of each source of settings by itself.
use Rattle.std.specs.Prelude.{◌≡◌, ◌⊎◌, ℕ, Bool, true, false, not, List, [], ◌∷◌, ◌++◌, codes, map, Option, Some, None, Ok, Err}
use Rattle.serde_json.specs.Data.{Data}
use Rattle.cc2_error.specs.Causes.{Refusal, memory, plain}
use Rattle.cc2_base.specs.Homes.{cargo_home_of}
use Rattle.cc2_base.specs.Told.{Tree}
use Rattle.cc2_base.specs.Walked.{walked}
use Rattle.cc2_base.specs.declared.machine.Machine.{Machine}
use Rattle.cc2_value.specs.Cells.{Cell, KeyPath}
use Rattle.cc2_env.specs.CommandLine.{Override}
use Rattle.cc2_json.specs.AtKey.{at_key}
use Rattle.cc2_json.specs.Json.{is_bare}
use Rattle.cc2_json.specs.Reader.{IsJsonOfLook}
use Rattle.cc2_json.specs.TomlLines.{toml_lines}
use Rattle.cc2_cli.specs.Endings.{refusal_lines}
use Rattle.cc2_cli.specs.ShowWords.{Request}
use Rattle.cc2_show_answers.specs.Sources.{Source, file, above, headline, IsCauseAmong, IsSourceMap}
use Rattle.cc2_show_answers.specs.ToldRuns.{form_of}

-- whether more than a table without keys is there
abbrev pub is_there : Option Data → Bool
is_there None = false
is_there (Some d) = not (is_bare d)

-- the lines of what is at the pieces of a key
abbrev pub lines_there : Bool → List (List ℕ) → Option Data → List ℕ
lines_there origins pieces None = []
lines_there origins pieces (Some d) = toml_lines origins pieces d

-- where something is there: a headline, these lines, and an empty line; else nothing
abbrev pub block_text : Bool → Source → List ℕ → List ℕ
block_text true source lines = headline source ++ (lines ++ codes "\n")
block_text false source lines = []

module _ (request : Request) (pieces : List (List ℕ)) where
  -- what is written of a source that has this map: what is at the pieces of the key in its JSON
  pub record IsBlock (source : Source) (m : KeyPath → Option Cell) (text : List ℕ) : Type 0 where
    pub whole : Data
    pub of : IsJsonOfLook (form_of request) m whole
    pub told : text ≡ block_text (is_there (at_key request.origins pieces whole)) source (lines_there request.origins pieces (at_key request.origins pieces whole))

module _ (fs : Tree) (machine : Machine) (os : List Override) (request : Request) (pieces : List (List ℕ)) where
  -- of what a source has by itself
  abbrev pub IsBlockOf : Source → List ℕ → Type 0
  IsBlockOf source text =
      (m : KeyPath → Option Cell) × IsSourceMap fs machine request.dir os source m × IsBlock request pieces source m text

  -- of sources, one after the other
  abbrev pub AreBlocks : List Source → List ℕ → Type 0
  AreBlocks [] text = text ≡ []
  AreBlocks (source ∷ sources) text =
      (first : List ℕ) × (others : List ℕ) × IsBlockOf source first × AreBlocks sources others × (text ≡ first ++ others)

  -- the sources of a request where this home is known: those above the files, and the files, the nearest first
  abbrev pub sources_of : Option (List ℕ) → List Source
  sources_of home = above request.stage ++ map file (walked fs request.dir home)

  -- the text of all sources; each of them is a configuration
  abbrev pub IsUnmerged : List ℕ → Type 0
  IsUnmerged text = (home : Option (List ℕ)) × (cargo_home_of request.dir machine ≡ Ok home) × AreBlocks (sources_of home) text

  -- the home is refused, or a source is
  abbrev pub IsUnmergedCause : Refusal → Type 0
  IsUnmergedCause refusal =
      (cargo_home_of request.dir machine ≡ Err refusal)
      ⊎ ((home : Option (List ℕ)) × (cargo_home_of request.dir machine ≡ Ok home) × IsCauseAmong fs machine request.dir os (sources_of home) refusal)

  -- the text and 0; or 1 and the lines of a cause, or of out of memory
  pub data EndsUnmerged (text : List ℕ) (status : ℕ) : Type 0 where
    shown : IsUnmerged text → status ≡ 0 → EndsUnmerged text status
    refused : (refusal : Refusal) → (refusal ≡ plain memory) ⊎ IsUnmergedCause refusal → text ≡ refusal_lines refusal → status ≡ 1
        → EndsUnmerged text status
