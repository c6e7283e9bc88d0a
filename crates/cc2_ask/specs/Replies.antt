-- Replies: an answer, or what has to be known next.
use Rattle.std.specs.Prelude.{◌≡◌, ℕ, true, List, [], ◌∷◌, ◌++◌, All, take, drop, length}
use Rattle.std.specs.Str.{byte}
use Rattle.cc2_ask.specs.Fields.{field_bytes}
use Rattle.cc2_ask.specs.Givens.{Given}
use Rattle.cc2_ask.specs.Needs.{Need, is_new, need_bytes}

pub data Reply : Type 0 where
  -- the status and the text of the answer
  answer : ℕ → List ℕ → Reply
  -- what a load gives: the cells of the resolved configuration in bytes, and the state for later questions
  loaded : List ℕ → List ℕ → Reply
  -- all this has to be known
  needs : List Need → Reply

-- the bytes of needs, one after the other
abbrev pub needs_bytes : List Need → List ℕ
needs_bytes [] = []
needs_bytes (n ∷ ns) = need_bytes n ++ needs_bytes ns

abbrev pub answer_bytes : ℕ → List ℕ → List ℕ
answer_bytes status text = byte "A" ∷ (status ∷ field_bytes text)

abbrev pub loaded_bytes : List ℕ → List ℕ → List ℕ
loaded_bytes cells state = byte "L" ∷ (field_bytes cells ++ field_bytes state)

abbrev pub reply_bytes : Reply → List ℕ
reply_bytes (answer status text) = answer_bytes status text
reply_bytes (loaded cells state) = loaded_bytes cells state
reply_bytes (needs ns) = needs_bytes ns

-- the request gives none of these yet
abbrev pub AreNew : Given → List Need → Type 0
AreNew g ns = All (λ n. is_new g n ≡ true) ns

-- what fits of some bytes, in front of what was after them
abbrev pub written_over : List ℕ → List ℕ → List ℕ
written_over bytes was = take (length was) bytes ++ drop (length bytes) was
