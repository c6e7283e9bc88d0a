-- What was found of a request so far.
use Rattle.std.specs.Prelude.{ℕ, Bool, true, false, List, Option, Some, None, option_map, is_some, unwrap_or, if◌then◌else◌}
use Rattle.cc2_cli.specs.Choices.{are_pairs}
use Rattle.cc2_cli.specs.ShowWords.{Stage, resolved, Format, toml, Part, key, stage, format, merged, origins, tokens, Request, Question, alone, unknown, under}
use Rattle.cc2_cli.specs.ShowTasks.{stage_view, format_view}
use Rattle.cc2_cli.specs.declared.found.Found.{Found as CodeFound}

pub record Found : Type 0 where
  pub key : Option (List ℕ)
  pub stage : Option Stage
  pub format : Option Format
  pub merged : Option Bool
  pub origins : Bool
  pub tokens : Bool

abbrev pub as_found : CodeFound → Found
as_found f = record {
  key = option_map (λ key. key.now) f.key;
  stage = option_map stage_view f.stage;
  format = option_map format_view f.format;
  merged = f.merged;
  origins = f.origins;
  tokens = f.tokens;
}

abbrev pub nothing_found : Found
nothing_found = record { key = None; stage = None; format = None; merged = None; origins = false; tokens = false }

-- one part more; none where one of its kind was found
abbrev pub with_part : Found → Part → Option Found
with_part f (key text) = if is_some f.key then None else Some (record f { key = Some text })
with_part f (stage s) = if is_some f.stage then None else Some (record f { stage = Some s })
with_part f (format t) = if is_some f.format then None else Some (record f { format = Some t })
with_part f (merged b) = if is_some f.merged then None else Some (record f { merged = Some b })
with_part f origins = if f.origins then None else Some (record f { origins = true })
with_part f tokens = if f.tokens then None else Some (record f { tokens = true })

abbrev pub request_found : List ℕ → Found → Request
request_found dir f = record {
  dir = dir;
  key = f.key;
  stage = unwrap_or f.stage resolved;
  format = unwrap_or f.format toml;
  merged = unwrap_or f.merged true;
  origins = f.origins;
  tokens = f.tokens;
}

-- what is asked where these words are after what was found
abbrev pub question_found : List ℕ → Found → List (List ℕ) → Question
question_found dir f words = if are_pairs words then under (request_found dir f) words else alone unknown
