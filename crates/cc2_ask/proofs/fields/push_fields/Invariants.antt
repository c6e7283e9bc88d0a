use Rattle.std.proofs.Common.{◌≡◌, ◌++◌, map, string_bytes, drop}
use Rattle.cc2_ask.specs.Fields.{fields_bytes, AreShort}
use Rattle.cc2_ask.proofs.fields.push_fields.Given as goal

-- where the texts that are left are short, all are
abbrev pub invariant-loop-text : goal.invariant-loop-text
invariant-loop-text l = record {
  bytes : l.out.items ++ fields_bytes (map string_bytes (drop l.text-index l.texts))
      ≡ l.initial.out.items ++ fields_bytes (map string_bytes l.texts);
  short : AreShort (map string_bytes (drop l.text-index l.texts)) → AreShort (map string_bytes l.texts);
}
