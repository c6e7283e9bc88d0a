-- What resolution refuses, as it is judged of a file.
use Rattle.std.specs.Prelude.{ℕ, List, Option}
use Rattle.toml.specs.Data.{Members}
use Rattle.cc2_error.specs.declared.error.Error.{Error}
use Rattle.cc2_lint_settings.specs.declared.unresolved_settings.Rootless.{Rootless}
use Rattle.cc2_lint_settings.specs.Unresolved.{IsReadRefusal}

abbrev pub IsRootlessRefusal : Rootless → List (List ℕ) → Members → Option Error → Type 0
IsRootlessRefusal r keys ms e = IsReadRefusal r.directory.now r.path.now keys ms e
