-- What questions leave of a configuration, whatever they are answered.
use Rattle.std.specs.Prelude.{◌≡◌, None}
use Rattle.cc2_base.specs.Told.{Keeps, Tree}
use Rattle.cc2_base.specs.ToldPrograms.{Answers}
use Rattle.cc2_rustc.specs.Kept.{WhereBothTold}
use Rattle.cargo_config2.specs.Kept.{Agrees}
use Rattle.cargo_config2.specs.Left.{IsLeft}
use Rattle.cargo_config2.specs.declared.config.Config.{Config}

-- no command for rustc was chosen in place of the configuration's
abbrev pub IsUnchosen : Config → Type 0
IsUnchosen c = c.loaded.context.rustc ≡ None

-- what is kept agrees, and rustc is the configuration's
pub record IsReady (fs : Tree) (answers : Answers) (c : Config) : Type 0 where
  pub agrees : Agrees fs answers c
  pub unchosen : IsUnchosen c

-- What a question leaves of a configuration, and that programs answer as before. Where files and programs are known, and the
-- configuration is ready, `Says` holds of its answer.
pub record IsAsked (files : Tree → Type 0) (programs after : Answers → Type 0) (was c : Config) (Says : Tree → Answers → Type 0) : Type 0 where
  pub left : IsLeft files programs was c
  pub same : Keeps programs after
  pub told : WhereBothTold files programs (λ fs answers. IsReady fs answers was → Says fs answers)
