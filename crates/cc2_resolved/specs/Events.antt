-- What a list of texts sends to a serializer.
use Rattle.std.specs.Prelude.{◌≡◌, ℕ, List, [], ◌∷◌, ◌++◌, length, map, Some, None, ⊤}
use Rattle.serde.specs.Event.{Event, Log, seq_begins, text, seq_ends}

-- the events of a list of texts: a sequence of as many, and each text in turn
abbrev pub text_events : List (List ℕ) → List Event
text_events texts = seq_begins (Some (length texts)) ∷ (map text texts ++ seq_ends ∷ [])

-- where the events so far are known, these follow them
abbrev pub SendsAll : List Event → Log → Log → Type 0
SendsAll events None new = ⊤
SendsAll events (Some sent) new = new ≡ Some (sent ++ events)
