-- What the code's values show.
use Rattle.std.specs.Prelude.{◌≡◌, ℕ, List, Option, Some, None, option_map, map, string_bytes, true, false, Result, Ok, Err, String, Vec}
use Rattle.std.specs.declared.alloc.Global.{Global}
use Rattle.std.specs.BTreeMap.{get_by_text}
use Rattle.std.specs.List.{fold}
use Rattle.std.specs.Str.{is_utf8}
use Rattle.cc2_error.specs.Commands.{command_of}
use Rattle.cc2_base.specs.ToldPrograms.{output_of}
use Rattle.cc2_ask.specs.Fields.{Front}
use Rattle.cc2_ask.specs.Records.{Known, reads, unreadable, unread, absent, Record, word, directory, home, variable, path, run, state}
use Rattle.cc2_ask.specs.Givens.{Given, KnownPaths, KnownRuns, with_run}
use Rattle.cc2_ask.specs.Needs.{need_view}
use Rattle.cc2_ask.specs.Replies.{Reply, answer, loaded, needs}
use Rattle.cc2_ask.specs.declared.reply.Reply.{Reply as CodeReply}
use Rattle.cc2_ask.specs.declared.reply.Reply.TheVariants as reply
use Rattle.cc2_ask.specs.declared.fault.Fault.{Fault}
use Rattle.cc2_ask.specs.declared.fault.Fault.TheVariants as fault
use Rattle.cc2_ask.specs.declared.known.Known.{Known as CodeKnown}
use Rattle.cc2_ask.specs.declared.known.Known.TheVariants as known
use Rattle.cc2_ask.specs.declared.record.Record.{Record as CodeRecord}
use Rattle.cc2_ask.specs.declared.record.Record.TheVariants as code
use Rattle.cc2_ask.specs.declared.known.KnownPaths.{KnownPaths as CodePaths}
use Rattle.cc2_ask.specs.declared.known.KnownRuns.{KnownRuns as CodeRuns}
use Rattle.cc2_ask.specs.declared.known.Ran.{Ran}
use Rattle.cc2_ask.specs.declared.given.Given.{Given as CodeGiven}

-- what was read is what is at the front, with what is left; malformed where it isn't there
abbrev pub IsRead : {A B : Type 0} → (A → B) → Front B → Result A Fault → List ℕ → Type 0
IsRead view front (Ok a) rest = front ≡ Some (view a, rest)
IsRead view front (Err fault.Memory) rest = Unit {0}
IsRead view front (Err fault.Malformed) rest = front ≡ None

-- bytes that are UTF-8 are the text; others are malformed
abbrev pub IsText : List ℕ → Result (String Global) Fault → Type 0
IsText bytes (Ok text) = (is_utf8 bytes ≡ true) × (string_bytes text ≡ bytes)
IsText bytes (Err fault.Memory) = Unit {0}
IsText bytes (Err fault.Malformed) = is_utf8 bytes ≡ false

abbrev pub known_view : CodeKnown → Known
known_view (known.Reads content) = reads content.items
known_view known.Unreadable = unreadable
known_view known.Unread = unread
known_view known.Absent = absent

abbrev pub record_view : CodeRecord → Record
record_view (code.Word text) = word (string_bytes text)
record_view (code.Directory text) = directory (string_bytes text)
record_view (code.Home text) = home (string_bytes text)
record_view (code.Variable name value) = variable (string_bytes name) value.items
record_view (code.Path text known) = path (string_bytes text) (known_view known)
record_view (code.Run command said) = run (command_of command) (output_of said)
record_view (code.State bytes) = state bytes.items

abbrev pub paths_of : CodePaths → KnownPaths
paths_of paths p = option_map known_view (get_by_text paths.table p)

abbrev pub with_ran : KnownRuns → Ran → KnownRuns
with_ran runs ran = with_run (command_of ran.command) (output_of ran.answer) runs

-- what commands answered, each in place of what it answered before
abbrev pub runs_in : List Ran → KnownRuns
runs_in rans = fold with_ran (λ program args. None) rans

abbrev pub runs_of : CodeRuns → KnownRuns
runs_of runs = runs_in runs.runs.items

abbrev pub variable_view : String Global × Vec ℕ Global → List ℕ × List ℕ
variable_view v = (string_bytes v.0, v.1.items)

abbrev pub given_view : CodeGiven → Given
given_view g = record {
  words = map string_bytes g.words.items;
  dir = string_bytes g.machine.current_dir;
  variables = map variable_view g.machine.env.items;
  home_dir = option_map string_bytes g.machine.home;
  paths = paths_of g.paths;
  runs = runs_of g.runs;
  state = option_map (λ bytes. bytes.items) g.state;
}

abbrev pub reply_view : CodeReply → Reply
reply_view (reply.Answer status text) = answer status text.items
reply_view (reply.Loaded cells kept) = loaded cells.items kept.items
reply_view (reply.Needs ns) = needs (map need_view ns.items)

-- a malformed request gives nothing
abbrev pub IsRefused : Option Given → Fault → Type 0
IsRefused given fault.Memory = Unit {0}
IsRefused given fault.Malformed = given ≡ None

-- what all records give is this; they are malformed where they are none
abbrev pub AddsAll : Option Given → Given → Result (Unit {0}) Fault → Type 0
AddsAll all now (Ok done) = all ≡ Some now
AddsAll all now (Err f) = IsRefused all f

-- a request that was read gives so much; one that is malformed is none
abbrev pub IsGiven : Option Given → Result CodeGiven Fault → Type 0
IsGiven given (Ok g) = given ≡ Some (given_view g)
IsGiven given (Err f) = IsRefused given f
