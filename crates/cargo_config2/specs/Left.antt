-- What questions leave of a configuration, whatever they are answered.
use Rattle.std.specs.Prelude.{◌≡◌, Option}
use Rattle.cc2_base.specs.Told.{Tree}
use Rattle.cc2_base.specs.ToldPrograms.{Answers}
use Rattle.cc2_rustc.specs.Kept.{WhereBothTold}
use Rattle.cargo_config2.specs.Config.{tables_of}
use Rattle.cargo_config2.specs.Kept.{Agrees}
use Rattle.cargo_config2.specs.declared.config.Config.{Config}

-- what agreed agrees, and the tables and what is read beside them are as they were
pub record IsLeft (files : Tree → Type 0) (programs : Answers → Type 0) (was c : Config) : Type 0 where
  pub agrees : WhereBothTold files programs (λ fs answers. Agrees fs answers was → Agrees fs answers c)
  pub tables : tables_of c ≡ tables_of was
  pub loaded : c.loaded ≡ was.loaded
