-- Rivals and files of the code, as the definitions have them.
use Rattle.std.specs.Prelude.{List, map, string_bytes, Vec}
use Rattle.std.specs.declared.alloc.Global.{Global}
use Rattle.toml.specs.Data.{Members}
use Rattle.toml.specs.View.{table_view}
use Rattle.cc2_findings.specs.declared.dir.LintedFile.{LintedFile}
use Rattle.cc2_lint_settings.specs.Rivals.{Rival}
use Rattle.cc2_lint_settings.specs.declared.rival.Rival.{Rival as CodeRival}

abbrev pub rival_view : CodeRival → Rival
rival_view r = (map string_bytes r.path.items, string_bytes r.other)

abbrev pub rival_views : Vec (Vec CodeRival Global) Global → List (List Rival)
rival_views found = map (λ rivals. map rival_view rivals.items) found.items

abbrev pub table_of : LintedFile → Members
table_of f = table_view f.found.table
