-- What the code answers: an answer, or what a load gives.
use Rattle.std.specs.Prelude.{◌≡◌, ℕ, List, Option, Result, Ok, Err, Vec, codes}
use Rattle.std.specs.declared.alloc.Global.{Global}
use Rattle.cc2_error.specs.declared.error.NoMemory.{NoMemory}
use Rattle.cc2_base.specs.Told.{Tree}
use Rattle.cc2_base.specs.ToldPrograms.{Answers}
use Rattle.cc2_base.specs.declared.machine.Machine.{Machine}
use Rattle.cc2_cli.specs.Answers.{answer_text}
use Rattle.cc2_cli.specs.Choices.{are_pairs}
use Rattle.cc2_ask.specs.Givens.{Given}
use Rattle.cc2_reply.specs.Asked.{Asked}
use Rattle.cc2_reply.specs.Replies.{AnswersIn, AskedAnswers, AskedLoads, LoadAnswers, LoadGives, LoadsIn}
use Rattle.cc2_reply.specs.declared.load.Answered.{Answered}
use Rattle.cc2_reply.specs.declared.load.Answered.TheVariants as answered

-- it is what a load gives, or why it is refused
abbrev pub IsLoadAnswer : Tree → Machine → List ℕ → List (List ℕ) → Answered → Type 0
IsLoadAnswer fs machine dir words (answered.Answer a) = LoadAnswers (are_pairs words) fs machine dir words (answer_text a) a.status
IsLoadAnswer fs machine dir words (answered.Loaded cells state) = LoadGives (are_pairs words) fs machine dir words cells.items state.items

-- it is what was loaded, or that memory ran out
abbrev pub IsLoadedOrMemory : Result (Vec ℕ Global × Vec ℕ Global) NoMemory → Answered → Type 0
IsLoadedOrMemory (Ok r) (answered.Loaded cells state) = (cells ≡ r.0) × (state ≡ r.1)
IsLoadedOrMemory (Ok r) (answered.Answer a) = ⊥
IsLoadedOrMemory (Err e) (answered.Loaded cells state) = ⊥
IsLoadedOrMemory (Err e) (answered.Answer a) = (answer_text a ≡ codes "error: out of memory\n") × (a.status ≡ 1)

-- it is what words ask, where this state is handed back
abbrev pub IsAskedAnswer : Tree → Answers → Machine → Option (List ℕ) → Asked → Answered → Type 0
IsAskedAnswer fs answers machine state asked (answered.Answer a) = AskedAnswers fs answers machine state asked (answer_text a) a.status
IsAskedAnswer fs answers machine state asked (answered.Loaded cells bytes) = AskedLoads fs machine asked cells.items bytes.items

-- it is so in every world that agrees with what a request gives
abbrev pub IsAnsweredBy : Given → Machine → Answered → Type 0
IsAnsweredBy g machine (answered.Answer a) = AnswersIn g machine (answer_text a) a.status
IsAnsweredBy g machine (answered.Loaded cells state) = LoadsIn g machine cells.items state.items
