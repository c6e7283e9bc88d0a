-- Why a call is refused, as contracts say it: a case for each kind, with its texts by their bytes.
use Rattle.std.specs.Prelude.{ℕ, ℤ, List, map, Option, Some, None, option_map, string_bytes}
use Rattle.cc2_error.specs.declared.cfg_error.Reason.{Reason}
use Rattle.cc2_error.specs.Commands.{Command, command_of}
use Rattle.cc2_error.specs.declared.error.Shape.{Shape}
use Rattle.cc2_error.specs.declared.error.ReadCause.{ReadCause}
use Rattle.cc2_error.specs.declared.error.ReadCause.TheVariants as read
use Rattle.cc2_error.specs.declared.error.ParseCause.{ParseCause}
use Rattle.cc2_error.specs.declared.error.ParseCause.TheVariants as parse
use Rattle.cc2_error.specs.declared.error.CfgValueFault.{CfgValueFault}
use Rattle.cc2_error.specs.declared.error.CfgValueFault.TheVariants as fault
use Rattle.cc2_error.specs.declared.error.Separator.{Separator}
use Rattle.cc2_error.specs.declared.error.Separator.TheVariants as between
use Rattle.cc2_error.specs.declared.error.ErrorKind.{ErrorKind}
use Rattle.cc2_error.specs.declared.error.ErrorKind.TheVariants as kind
use Rattle.cc2_error.specs.declared.error.Error.{Error}

pub data Cause : Type 0 where
  memory : Cause
  unreadable : Cause
  not_text : Cause
  wrong_type : List (List ℕ) → Cause
  refused_text : List ℕ → Cause
  mixed : List (List ℕ) → Shape → Shape → Cause
  env_not_text : List ℕ → Cause
  env_parse : List ℕ → List ℕ → Cause
  empty_command : Cause
  provider_args : List ℕ → Cause
  provider_no_command : Cause
  no_root : List ℕ → List ℕ → Cause
  spec_name : Cause
  cfg_parse : List ℕ → ℕ → ℕ → Reason → Cause
  not_triple : List ℕ → Cause
  not_run : Command → Cause
  program_failed : Command → Option ℤ → List ℕ → List ℕ → Cause
  output_not_text : Command → Cause
  version_output : Command → List ℕ → Cause
  cfg_value_absent : List ℕ → Cause
  cfg_value_too_many : List ℕ → Cause
  cfg_value_unreadable : List ℕ → Cause
  separator_unit : Cause
  separator_space : Cause
  bad_spelling : List ℕ → Cause

abbrev pub read_cause : ReadCause → Cause
read_cause read.Unreadable = unreadable
read_cause read.NotText = not_text

abbrev pub parse_cause : ParseCause → Cause
parse_cause (parse.WrongType path) = wrong_type (map string_bytes path.items)
parse_cause (parse.Refused text) = refused_text (string_bytes text)

abbrev pub cfg_value_cause : List ℕ → CfgValueFault → Cause
cfg_value_cause key fault.Absent = cfg_value_absent key
cfg_value_cause key fault.TooMany = cfg_value_too_many key
cfg_value_cause key fault.Unreadable = cfg_value_unreadable key

abbrev pub separator_cause : Separator → Cause
separator_cause between.Unit = separator_unit
separator_cause between.Space = separator_space

-- what a kind says
abbrev pub cause_of : ErrorKind → Cause
cause_of kind.Memory = memory
cause_of (kind.ReadFile cause) = read_cause cause
cause_of (kind.ParseFile cause) = parse_cause cause
cause_of (kind.Merge path expected found) = mixed (map string_bytes path.items) expected found
cause_of (kind.EnvNotText shown) = env_not_text (string_bytes shown)
cause_of (kind.EnvParse must found) = env_parse must.now (string_bytes found)
cause_of kind.EmptyCommand = empty_command
cause_of (kind.ProviderArgs provider) = provider_args provider.now
cause_of kind.ProviderNoCommand = provider_no_command
cause_of (kind.NoRoot file value) = no_root (string_bytes file) (string_bytes value)
cause_of kind.SpecName = spec_name
cause_of (kind.CfgParse error) = cfg_parse (string_bytes error.original) error.span.start error.span.end error.reason
cause_of (kind.NotTriple triple) = not_triple (string_bytes triple)
cause_of (kind.NotRun command) = not_run (command_of command)
cause_of (kind.ProgramFailed command code stdout stderr) = program_failed (command_of command) code stdout.items stderr.items
cause_of (kind.OutputNotText command) = output_not_text (command_of command)
cause_of (kind.VersionOutput command output) = version_output (command_of command) (string_bytes output)
cause_of (kind.CfgValue key fault) = cfg_value_cause (string_bytes key) fault
cause_of (kind.Separator separator) = separator_cause separator
cause_of (kind.BadSpelling must) = bad_spelling must.now

-- an error: its cause, and the line on what was being done
pub record Refusal : Type 0 where
  pub cause : Cause
  pub context : Option (List ℕ)

-- what an error says
abbrev pub refusal_of : Error → Refusal
refusal_of e = record { cause = cause_of e.kind; context = option_map string_bytes e.context }

-- the cause without a context
abbrev pub plain : Cause → Refusal
plain cause = record { cause = cause; context = None }

-- the same cause with this context
abbrev pub in_context : List ℕ → Refusal → Refusal
in_context context refusal = record { cause = refusal.cause; context = Some context }

-- the cause where there is a context, else none
abbrev pub cause_behind : Refusal → Option Cause
cause_behind refusal = option_map (λ _. refusal.cause) refusal.context

-- the out-of-memory error
abbrev pub no_memory : Error
no_memory = record { kind = kind.Memory; context = None }
