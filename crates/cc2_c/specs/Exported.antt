-- What a caller finds written.
use Rattle.std.specs.Prelude.{◌≡◌, ◌⊎◌, ℕ, List, length}
use Rattle.cc2_ask.specs.Givens.{given_of}
use Rattle.cc2_ask.specs.Replies.{written_over}
use Rattle.cc2_reply.specs.Replies.{IsReply}

-- where the count is 0 since memory ran out nothing is written; else it is the length of a reply's bytes, and what fits of
-- them is in front of what was after
abbrev pub IsWritten : List ℕ → List ℕ → List ℕ → ℕ → Type 0
IsWritten request was now count =
    ((count ≡ 0) × (now ≡ was))
    ⊎ ((bytes : List ℕ) × IsReply (given_of request) bytes × (count ≡ length bytes) × (now ≡ written_over bytes was))
