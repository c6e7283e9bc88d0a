-- What `rustc` and `host_triple` lend with the configuration, and what they leave of it, whatever they answer.
use Rattle.std.specs.Prelude.{◌≡◌, ℕ, List, [], Option, unwrap_or, Result}
use Rattle.std.specs.Borrow.{MutBor, Fml, RestsIfErr}
use Rattle.cc2_error.specs.declared.error.Error.{Error}
use Rattle.cc2_base.specs.Told.{Tree, WhereTold}
use Rattle.cc2_base.specs.ToldPrograms.{Answers}
use Rattle.cc2_rustc.specs.Kept.{WhereBothTold}
use Rattle.cargo_config2.specs.Config.{tables_of}
use Rattle.cargo_config2.specs.Kept.{Agrees, KeepsFinds, host_of}
use Rattle.cargo_config2.specs.contracts.config.Config as config
use Rattle.cargo_config2.specs.declared.config.Config.{Config}
use Rattle.cargo_config2.specs.declared.lent.HostRef.{HostRef}
use Rattle.cargo_config2.specs.declared.lent.RustcRef.{RustcRef}

-- what a lent host shows
abbrev pub lent_host : HostRef → List ℕ
lent_host h = unwrap_or (host_of h.config.now) []

-- What looking for rustc leaves: what agreed agrees, what was kept is kept, and but for the kept command all is
-- as it was.
pub record LeavesRustc (files : Tree → Type 0) (was c : Config) : Type 0 where
  pub agrees : WhereTold files (λ fs. (answers : Answers) → Agrees fs answers was → Agrees fs answers c)
  pub keeps : KeepsFinds was c
  pub tables : tables_of c ≡ tables_of was
  pub loaded : c.loaded ≡ was.loaded
  pub versions : c.kept.versions ≡ was.kept.versions
  pub sets : c.kept.cfg_sets ≡ was.kept.cfg_sets
  pub targets : c.target ≡ was.target

-- What looking for the host leaves: what agreed agrees, what was kept is kept, and the tables, what is read
-- beside them and the settings of targets are as they were.
pub record LeavesHost (files : Tree → Type 0) (programs : Answers → Type 0) (was c : Config) : Type 0 where
  pub agrees : WhereBothTold files programs (λ fs answers. Agrees fs answers was → Agrees fs answers c)
  pub keeps : KeepsFinds was c
  pub tables : tables_of c ≡ tables_of was
  pub loaded : c.loaded ≡ was.loaded
  pub targets : c.target ≡ was.target

-- where `rustc` is refused, this is left, and the kept command too is as it was
abbrev pub AfterRustc : (Tree → Type 0) → MutBor Config → Result RustcRef Error → Fml
AfterRustc files s r =
    RestsIfErr config.the_row s (λ h. h.config.ghost_name) r
    (λ c. LeavesRustc files s.now c × (c.kept.rustc ≡ s.now.kept.rustc))

-- where `host_triple` is refused, this is left
abbrev pub AfterHost : (Tree → Type 0) → (Answers → Type 0) → MutBor Config → Result HostRef Error → Fml
AfterHost files programs s r =
    RestsIfErr config.the_row s (λ h. h.config.ghost_name) r (λ c. LeavesHost files programs s.now c)
