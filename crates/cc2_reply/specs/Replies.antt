-- What a request is replied to.
use Rattle.std.specs.Prelude.{◌≡◌, ◌≢◌, ◌⊎◌, ◌==◌, ◌&&◌, ℕ, Bool, true, false, List, [], ◌∷◌, ◌++◌, Option, Some, None, option_map, map, string_bytes, bytes_eq, codes, Result, Ok, Err}
use Rattle.std.specs.Str.{byte}
use Rattle.cc2_base.specs.Told.{Tree}
use Rattle.cc2_base.specs.ToldPrograms.{Answers}
use Rattle.cc2_base.specs.declared.machine.Machine.{Machine}
use Rattle.cc2_cli.specs.Choices.{Choice, are_pairs}
use Rattle.cc2_answers.specs.Choices.{overrides_by}
use Rattle.cc2_cli.specs.GetWords.{Question as GetQuestion}
use Rattle.cc2_cli.specs.ShowWords.{Request, Task, nothing, help, version, unknown}
use Rattle.cc2_cli.specs.ShowWords as task
use Rattle.cc2_answers.specs.Questions.{asks_nothing, Gives, AsksGives}
use Rattle.cc2_show_answers.specs.ShowQuestions.{IsNoKeyIn, RequestGives}
use Rattle.cc2_show_answers.specs.ToldRuns.{Written}
use Rattle.cc2_ask.specs.Givens.{Given, AgreesOnPaths, AgreesOnRuns}
use Rattle.cc2_ask.specs.Needs.{AreNeedsOf, Need}
use Rattle.cc2_ask.specs.Replies.{Reply, answer, loaded, needs, AreNew, reply_bytes}
use Rattle.cc2_ask.specs.Views.{IsRefused, reply_view, variable_view}
use Rattle.cc2_ask.specs.declared.fault.Fault.{Fault}
use Rattle.cc2_ask.specs.declared.reply.Reply.{Reply as CodeReply}
use Rattle.cc2_reply.specs.Asked.{askable, Asked, get, show, several, load, asked_in}
use Rattle.cc2_reply.specs.States.{IsLoadReply, IsRefusedLoad, StateAnswers}
use Rattle.cc2_answers.specs.Items.{Several, items_in}
use Rattle.cc2_answers.specs.SeveralRuns.{SeveralGives}

-- the machine has the directory, the variables and the home that a request gives
pub record IsMachine (g : Given) (machine : Machine) : Type 0 where
  pub dir : string_bytes machine.current_dir ≡ g.dir
  pub variables : map variable_view machine.env.items ≡ g.variables
  pub home : option_map string_bytes machine.home ≡ g.home_dir

-- the text and the status are those of a question of `cc2_get`; where it has no question, the text is empty and the status 2
pub record GetAnswers (fs : Tree) (answers : Answers) (machine : Machine) (q : GetQuestion) (text : List ℕ) (status : ℕ) : Type 0 where
  pub files : Gives fs machine q text status
  pub programs : AsksGives fs answers machine q text status
  pub nothing : asks_nothing q.task ≡ true → (text ≡ []) × (status ≡ 2)

-- they are those that are written for a request of `show`, on either of its writers; where its key isn't well
-- formed, the text is empty and the status 2
abbrev pub RequestAnswers : Tree → Machine → Request → List Choice → List ℕ → ℕ → Type 0
RequestAnswers fs machine request choices text status =
    ((w : Written) × RequestGives fs machine request choices w × (text ≡ w.out ++ w.err) × (status ≡ w.status))
    ⊎ (IsNoKeyIn request.key × (text ≡ []) × (status ≡ 2))

-- they are those of a task of `show`; where it asks no configuration, the text is empty and the status 2
abbrev pub ShowAnswers : Tree → Machine → Task → List Choice → List ℕ → ℕ → Type 0
ShowAnswers fs machine nothing choices text status = (text ≡ []) × (status ≡ 2)
ShowAnswers fs machine help choices text status = (text ≡ []) × (status ≡ 2)
ShowAnswers fs machine version choices text status = (text ≡ []) × (status ≡ 2)
ShowAnswers fs machine (task.show request) choices text status = RequestAnswers fs machine request choices text status
ShowAnswers fs machine unknown choices text status = (text ≡ []) × (status ≡ 2)

-- they are those of these questions of a directory, if they are any; else the text is empty and the status 2
abbrev pub ItemsAnswers : Tree → Answers → Machine → List ℕ → Option Several → List ℕ → ℕ → Type 0
ItemsAnswers fs answers machine dir None text status = (text ≡ []) × (status ≡ 2)
ItemsAnswers fs answers machine dir (Some asked) text status = SeveralGives fs answers machine dir asked text status

-- they are those of the items that words ask of a directory
abbrev pub SeveralAnswers : Tree → Answers → Machine → List ℕ → List (List ℕ) → List ℕ → ℕ → Type 0
SeveralAnswers fs answers machine dir words text status = ItemsAnswers fs answers machine dir (items_in words) text status

-- they are those of items by the state that is handed back, or else by the files
abbrev pub ItemsBy : Tree → Answers → Machine → Option (List ℕ) → List ℕ → List (List ℕ) → List ℕ → ℕ → Type 0
ItemsBy fs answers machine None dir words text status = SeveralAnswers fs answers machine dir words text status
ItemsBy fs answers machine (Some bytes) dir words text status = StateAnswers fs answers machine dir bytes words text status

-- they are those of a load that is refused; where its words are no pairs, the text is empty and the status 2
abbrev pub LoadAnswers : Bool → Tree → Machine → List ℕ → List (List ℕ) → List ℕ → ℕ → Type 0
LoadAnswers true fs machine dir words text status = IsRefusedLoad fs machine dir (overrides_by words) text status
LoadAnswers false fs machine dir words text status = (text ≡ []) × (status ≡ 2)

-- they are those of what words ask, where this state is handed back
abbrev pub AskedAnswers : Tree → Answers → Machine → Option (List ℕ) → Asked → List ℕ → ℕ → Type 0
AskedAnswers fs answers machine state (get q) text status = GetAnswers fs answers machine q text status
AskedAnswers fs answers machine state (show q) text status = ShowAnswers fs machine q.task q.choices text status
AskedAnswers fs answers machine state (several dir words) text status = ItemsBy fs answers machine state dir words text status
AskedAnswers fs answers machine state (load dir words) text status = LoadAnswers (are_pairs words) fs machine dir words text status

-- cells and a state are those of a load whose words are pairs
abbrev pub LoadGives : Bool → Tree → Machine → List ℕ → List (List ℕ) → List ℕ → List ℕ → Type 0
LoadGives true fs machine dir words cells state = IsLoadReply fs machine dir (overrides_by words) cells state
LoadGives false fs machine dir words cells state = ⊥

-- they are those of what words ask: of a load alone
abbrev pub AskedLoads : Tree → Machine → Asked → List ℕ → List ℕ → Type 0
AskedLoads fs machine (get q) cells state = ⊥
AskedLoads fs machine (show q) cells state = ⊥
AskedLoads fs machine (several dir words) cells state = ⊥
AskedLoads fs machine (load dir words) cells state = LoadGives (are_pairs words) fs machine dir words cells state

-- what a question prints where memory ran out
abbrev pub is_out_of_memory : List ℕ → ℕ → Bool
is_out_of_memory text status = bytes_eq text (codes "error: out of memory\n") && status == 1

-- the text and the status are those of the question that a request asks, in every world that agrees with what it gives
-- of files and programs; so nothing else matters
abbrev pub AnswersIn : Given → Machine → List ℕ → ℕ → Type 0
AnswersIn g machine text status =
    (fs : Tree) (answers : Answers) → AgreesOnPaths g.paths fs → AgreesOnRuns g.runs answers
    → AskedAnswers fs answers machine g.state (asked_in g.words) text status

-- the cells and the state are those of the load that a request asks, in every world that agrees with what it gives
abbrev pub LoadsIn : Given → Machine → List ℕ → List ℕ → Type 0
LoadsIn g machine cells state =
    (fs : Tree) → AgreesOnPaths g.paths fs → AskedLoads fs machine (asked_in g.words) cells state

-- they are so by the machine that it gives, and they don't say that memory ran out
pub record IsAnswer (g : Given) (text : List ℕ) (status : ℕ) : Type 0 where
  pub machine : Machine
  pub given : IsMachine g machine
  pub answers : AnswersIn g machine text status
  pub known : is_out_of_memory text status ≡ false

-- they are so by the machine that it gives
pub record IsLoadedBy (g : Given) (cells state : List ℕ) : Type 0 where
  pub machine : Machine
  pub given : IsMachine g machine
  pub loads : LoadsIn g machine cells state

-- There are some needs, and the request gives none of them. Each that is for a path is for one of a list, which the words and
-- the machine of the request fix.
pub record AreNeeds (g : Given) (ns : List Need) : Type 0 where
  pub machine : Machine
  pub given : IsMachine g machine
  pub some : ns ≢ []
  pub new : AreNew g ns
  pub listed : AreNeedsOf (askable g.words machine) ns

-- a reply by what a request gives: an answer, a load, or needs
abbrev pub IsReplyTo : Given → Reply → Type 0
IsReplyTo g (answer status text) = IsAnswer g text status
IsReplyTo g (loaded cells state) = IsLoadedBy g cells state
IsReplyTo g (needs ns) = AreNeeds g ns

-- a request has such a reply; it is malformed where it gives nothing
abbrev pub IsReplied : Option Given → Result CodeReply Fault → Type 0
IsReplied given (Ok reply) = (g : Given) × (given ≡ Some g) × IsReplyTo g (reply_view reply)
IsReplied given (Err fault) = IsRefused given fault

-- the bytes are those of such a reply; of a request that gives nothing they are the byte `B`
abbrev pub IsReply : Option Given → List ℕ → Type 0
IsReply None bytes = bytes ≡ byte "B" ∷ []
IsReply (Some g) bytes = (reply : Reply) × IsReplyTo g reply × (bytes ≡ reply_bytes reply)
