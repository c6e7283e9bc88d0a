-- What questions in turn leave.
use Rattle.std.proofs.Common.{◌≡◌, refl, ◌∙◌}
use Rattle.cc2_base.specs.Told.{Keeps, Tree}
use Rattle.cc2_base.specs.ToldPrograms.{Answers}
use Rattle.cargo_config2.specs.Left.{IsLeft}
use Rattle.cargo_config2.specs.declared.config.Config.{Config}

-- the same is left
pub left_same : (files : Tree → Type 0) (programs : Answers → Type 0) (c : Config) → IsLeft files programs c c
left_same files programs c = record { agrees = λ fs answers f p h. h; tables = refl; loaded = refl }

-- what is left where programs answer as before
pub left_before : (files : Tree → Type 0) (programs after : Answers → Type 0) (was c : Config) → Keeps programs after
    → IsLeft files after was c → IsLeft files programs was c
left_before files programs after was c keeps left = record {
  agrees = λ fs answers f p h. left.agrees fs answers f ((keeps answers).0 p) h;
  tables = left.tables;
  loaded = left.loaded;
}

-- one question after others
pub left_on : (files : Tree → Type 0) (programs : Answers → Type 0) (was mid c : Config) → IsLeft files programs was mid
    → IsLeft files programs mid c → IsLeft files programs was c
left_on files programs was mid c first later = record {
  agrees = λ fs answers f p h. later.agrees fs answers f p (first.agrees fs answers f p h);
  tables = later.tables ∙ first.tables;
  loaded = later.loaded ∙ first.loaded;
}
