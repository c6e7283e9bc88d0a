use Rattle.std.proofs.Common.{map, string_bytes, take}
use Rattle.std.specs.Fmt.{HasWritten, IsPlainFormatter}
use Rattle.cc2_error.specs.ErrorTexts.{each_behind}
use Rattle.cc2_error.proofs.error_texts.write_each_behind.Given as goal

abbrev pub invariant-loop-text : goal.invariant-loop-text
invariant-loop-text g l =
    IsPlainFormatter l.initial.f → HasWritten g.W.Write.write_str_gives l.initial.f (each_behind l.mark (map string_bytes (take l.text-index l.texts))) l.f
