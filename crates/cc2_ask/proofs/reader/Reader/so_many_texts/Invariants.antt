use Rattle.std.proofs.Common.{◌≡◌, ◌-◌, map, string_bytes}
use Rattle.cc2_ask.specs.Fields.{texts_at}
use Rattle.cc2_ask.proofs.Written.{after}
use Rattle.cc2_ask.proofs.reader.Reader.so_many_texts.Given as goal

abbrev pub invariant-loop : goal.invariant-loop
invariant-loop l =
    after (map string_bytes l.texts.items) (texts_at (l.count - l.counter) l.self.rest.now)
    ≡ texts_at l.count l.initial.self.rest.now
