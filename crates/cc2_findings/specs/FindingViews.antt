-- What is found, as the definitions have it.
use Rattle.std.specs.Prelude.{map, string_bytes}
use Rattle.cc2_findings.specs.declared.finding.Finding.{Finding}
use Rattle.cc2_findings.specs.Findings.{Found}

abbrev pub finding_view : {A : Type 0} → Finding A → Found A
finding_view f = (map string_bytes f.path.items, f.kind)
