-- Clashes and files of the code, as the definitions have them.
use Rattle.std.specs.Prelude.{ℕ, List, map, string_bytes}
use Rattle.toml.specs.View.{table_view}
use Rattle.cc2_findings.specs.declared.clash.Clash.{Clash as CodeClash}
use Rattle.cc2_findings.specs.declared.clash.Near.{Near}
use Rattle.cc2_findings.specs.declared.dir.LintedFile.{LintedFile}
use Rattle.cc2_findings.specs.declared.form.Form.{Form}
use Rattle.cc2_findings.specs.Clashes.{Clash, File}

abbrev pub clash_view : CodeClash → Clash
clash_view c = record { path = map string_bytes c.path.items; form = c.form; file = string_bytes c.file; nearer = c.nearer }

abbrev pub file_view : LintedFile → File
file_view f = (string_bytes f.path, table_view f.found.table)

abbrev pub near_view : Near → List ℕ × Form
near_view n = (n.file.now, n.form)
