-- Hidden keys and files of the code, as the definitions have them.
use Rattle.std.specs.Prelude.{List, map, string_bytes, Vec}
use Rattle.std.specs.declared.alloc.Global.{Global}
use Rattle.toml.specs.Data.{Members}
use Rattle.toml.specs.View.{table_view}
use Rattle.cc2_findings.specs.declared.dir.LintedFile.{LintedFile}
use Rattle.cc2_lint_settings.specs.Keys.{Hidden}
use Rattle.cc2_lint_settings.specs.declared.hidden_keys.HiddenKey.{HiddenKey}

abbrev pub hidden_view : HiddenKey → Hidden
hidden_view k = (map string_bytes k.path.items, string_bytes k.variable)

abbrev pub hidden_views : Vec (Vec HiddenKey Global) Global → List (List Hidden)
hidden_views found = map (λ keys. map hidden_view keys.items) found.items

abbrev pub table_of : LintedFile → Members
table_of f = table_view f.found.table
