-- What a list of owned texts sends, as one list of events.
use Rattle.std.proofs.Common.{◌≡◌, List, [], ◌∷◌, ◌++◌, length, map, Some, None, String, Global, string_bytes, sym, ap, subst, ◌∙◌, append-nil, append_assoc}
use Rattle.std.proofs.lemmas.List.{length-map}
use Rattle.serde.specs.Event.{Event, Log, Logs, WritesEach, WritesSeq, seq_begins, text, seq_ends}
use Rattle.cc2_resolved.specs.Texts.{texts_of}
use Rattle.cc2_resolved.specs.Events.{text_events, SendsAll}

-- what one text sends
abbrev SendsText : String Global → Log → Log → Type 0
SendsText v old new = Logs old new (text (string_bytes v))

each_sent : (items : List (String Global)) (sent : List Event) (new : Log) → WritesEach SendsText items (Some sent) new → new ≡ Some (sent ++ map text (texts_of items))
each_sent [] sent new h = h ∙ ap Some (sym (append-nil sent))
each_sent (x ∷ xs) sent new h =
    let event = text (string_bytes x) in
    each_sent xs (sent ++ event ∷ []) new (subst (λ (mid : Log). WritesEach SendsText xs mid new) h.1 h.2)
    ∙ ap Some (append_assoc sent (event ∷ []) (map text (texts_of xs)))

pub texts_sent : (items : List (String Global)) (old new : Log) → WritesSeq SendsText items old new → SendsAll (text_events (texts_of items)) old new
texts_sent items None new h = tt
texts_sent items (Some sent) new h =
    let begins = seq_begins (Some (length items)) in
    let all = map text (texts_of items) in
    let last : h.1 ≡ Some ((sent ++ begins ∷ []) ++ all) = each_sent items (sent ++ begins ∷ []) h.1 (subst (λ (mid : Log). WritesEach SendsText items mid h.1) h.2 h.3) in
    let ends : new ≡ Some (((sent ++ begins ∷ []) ++ all) ++ seq_ends ∷ []) = subst (λ (mid : Log). Logs mid new seq_ends) last h.4 in
    ends
    ∙ ap Some (append_assoc (sent ++ begins ∷ []) all (seq_ends ∷ []) ∙ append_assoc sent (begins ∷ []) (all ++ seq_ends ∷ []))
    ∙ ap (λ n. Some (sent ++ seq_begins (Some n) ∷ (all ++ seq_ends ∷ []))) (sym (length-map items string_bytes))
