-- A resolved source of the table `source`.
-- Cargo Reference, Source Replacement.
use Rattle.std.specs.Prelude.{List, [], ◌∷◌, codes, option_map}
use Rattle.cc2_resolved.specs.Answers.{text_answer}
use Rattle.cc2_resolved.specs.Resolving.{meant_as, settled}
use Rattle.cc2_resolved.specs.Rows.{Row, value}
use Rattle.cc2_resolved_tables.specs.declared.source.SourceConfigValue.{SourceConfigValue}
use Rattle.cc2_resolved.specs.declared.roots.Meant.TheVariants.{Path}

abbrev pub source_rows : List (Row SourceConfigValue)
source_rows =
    value (codes "replace-with") settled (λ s. option_map text_answer s.replace_with)
    ∷ value (codes "directory") (meant_as Path) (λ s. option_map text_answer s.directory)
    ∷ value (codes "registry") settled (λ s. option_map text_answer s.registry)
    ∷ value (codes "local-registry") (meant_as Path) (λ s. option_map text_answer s.local_registry)
    ∷ value (codes "git") settled (λ s. option_map text_answer s.git)
    ∷ value (codes "branch") settled (λ s. option_map text_answer s.branch)
    ∷ value (codes "tag") settled (λ s. option_map text_answer s.tag)
    ∷ value (codes "rev") settled (λ s. option_map text_answer s.rev)
    ∷ []
