-- What a resolved configuration shows at a key path.
use Rattle.std.specs.Prelude.{ℕ, ℤ, pos, Bool, List, [], ◌∷◌, map, Option, Some, None, String, string_bytes, Vec}
use Rattle.std.specs.declared.alloc.Global.{Global}
use Rattle.cc2_error.specs.Commands.{Command, command_of}
use Rattle.cc2_error.specs.declared.path_and_args.PathAndArgs.{PathAndArgs}
use Rattle.cc2_value.specs.Cells.{KeyPath, Payload, number, truth, word}
use Rattle.cc2_resolved.specs.Providers.{Provider, provider_of, providers_in, providers_of}
use Rattle.cc2_resolved.specs.ShownFlags.{flag_texts}
use Rattle.cc2_resolved.specs.ShownLists.{list_texts}
use Rattle.cc2_resolved.specs.ShownTargets.{target_at}
use Rattle.cc2_resolved.specs.Targets.{Target}
use Rattle.cc2_resolved.specs.Variables.{Variable, variable_of}
use Rattle.cc2_resolved.specs.declared.env.EnvConfigValue.{EnvConfigValue}
use Rattle.cc2_resolved.specs.declared.flags.Flags.{Flags}
use Rattle.cc2_resolved.specs.declared.provider.CredentialProvider.{CredentialProvider}
use Rattle.cc2_resolved.specs.declared.provider.GlobalCredentialProviders.{GlobalCredentialProviders}
use Rattle.cc2_resolved.specs.declared.string_list.StringList.{StringList}
use Rattle.cc2_resolved.specs.declared.target_triple.TargetTripleRef.{TargetTripleRef}

pub data Answer : Type 0 where
  -- a number, a truth value or a text
  single : Payload → Answer
  texts : List (List ℕ) → Answer
  command : Command → Answer
  provider : Provider → Answer
  providers : List Provider → Answer
  targets : List Target → Answer
  -- there is a table here, as a member of a map
  entry : Answer
  -- a variable of the table `env`
  variable : Variable → Answer

-- an answer at the value itself
abbrev pub shown_at : Option Answer → KeyPath → Option Answer
shown_at a [] = a
shown_at a (k ∷ p) = None

abbrev pub whole_answer : ℤ → Answer
whole_answer n = single (number n)

abbrev pub counting_answer : ℕ → Answer
counting_answer n = single (number (pos n))

abbrev pub truth_answer : Bool → Answer
truth_answer b = single (truth b)

abbrev pub text_answer : String Global → Answer
text_answer s = single (word (string_bytes s))

abbrev pub spelled_answer : {E : Type 0} → (E → List ℕ) → E → Answer
spelled_answer spelling e = single (word (spelling e))

abbrev pub flags_answer : Flags → Answer
flags_answer flags = texts (flag_texts flags)

abbrev pub list_answer : StringList → Answer
list_answer list = texts (list_texts list)

abbrev pub command_answer : PathAndArgs → Answer
command_answer c = command (command_of c)

abbrev pub provider_answer : CredentialProvider → Answer
provider_answer c = provider (provider_of c)

abbrev pub targets_of : Vec TargetTripleRef Global → List Target
targets_of ts = map target_at ts.items

abbrev pub targets_answer : Vec TargetTripleRef Global → Answer
targets_answer ts = targets (targets_of ts)

abbrev pub variable_answer : EnvConfigValue → Answer
variable_answer v = variable (variable_of v)

abbrev pub each_provider : Vec CredentialProvider Global → List Provider
each_provider ps = providers_in ps.items

-- nothing where there are none
abbrev pub listed_providers : List Provider → Option Answer
listed_providers [] = None
listed_providers (p ∷ ps) = Some (providers (p ∷ ps))

-- the providers for every registry
abbrev pub providers_answer : GlobalCredentialProviders → Option Answer
providers_answer g = listed_providers (providers_of g)
