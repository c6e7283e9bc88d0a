-- Which rivals there are, by what was found out.
use Rattle.std.proofs.Common.{◌≡◌, ◌⊎◌, ℕ, List, [], ◌∷◌, length, map, Some, None, refl, sym, inl, inr, arith}
use Rattle.std.specs.Borrow.{Bor}
use Rattle.toml.specs.Data.{Members}
use Rattle.cc2_error.specs.Causes.{refusal_of}
use Rattle.cc2_error.specs.Outcomes.{IsRefusal, IsWantOfMemory}
use Rattle.cc2_error.specs.declared.error.Error.{Error}
use Rattle.cc2_base.specs.Told.{Tree}
use Rattle.cc2_base.specs.ToldPrograms.{Answers}
use Rattle.cc2_base.specs.declared.machine.Machine.{Machine}
use Rattle.cc2_cfg.specs.Meaning.{Atom}
use Rattle.cc2_rustc.specs.Asking.{TrueValues}
use Rattle.cc2_resolved.specs.Targets.{Target}
use Rattle.cc2_rustc.specs.CfgSets.{set_said}
use Rattle.cc2_value.specs.Rows.{texts_of}
use Rattle.cargo_config2.specs.Loads.{IsConfig, nothing_chosen}
use Rattle.cargo_config2.specs.RustcKept.{rustc_command_of}
use Rattle.cargo_config2.specs.declared.config.Config.{Config}
use Rattle.cc2_lint_settings.specs.Asked.{AreRivals, IsSetOf, IsUntold, paired}
use Rattle.cc2_lint_settings.specs.Givers.{open_givers}
use Rattle.cc2_lint_settings.specs.Rivals.{Rival, rivals_of}
use Rattle.cc2_lint_settings.specs.declared.rival_setting.Setting.TheVariants.{Linker, Runner}

-- what no key is lent of is empty
pub none_there : (keys : List (Bor (List ℕ))) (all : List (List ℕ)) → length keys ≡ 0 → texts_of keys ≡ all → all ≡ []
none_there [] all none is = sym is
none_there (k ∷ keys) all none is = absurd (omega (arith, none))

-- a refusal of rustc's answer by the configuration
pub untold : (fs : Tree) (answers : Answers) (machine : Machine) (dir : List ℕ) (t : Target) (c : Config) (e : Error)
    → IsConfig fs machine dir nothing_chosen c → IsRefusal (set_said (rustc_command_of fs c) answers t) e
    → IsWantOfMemory e ⊎ IsUntold fs answers machine dir t (refusal_of e)
untold fs answers machine dir t c e is (inl wants) = inl wants
untold fs answers machine dir t c e is (inr refused) = inr (c, is, refused)

module _ (fs : Tree) (answers : Answers) (machine : Machine) (dir : List ℕ) (t : Target) (files : List Members) (found : List (List Rival)) where
  -- where no key is open nothing is asked
  pub none_open : open_givers Linker t.triple machine files ≡ [] → open_givers Runner t.triple machine files ≡ []
      → found ≡ map (rivals_of [] []) files → AreRivals fs answers machine dir t files found
  none_open linkers runners is = ([], [], inl (linkers, refl), inl (runners, refl), is)

  -- where the load is refused none holds
  pub none_held : IsSetOf fs answers machine dir t None → found ≡ map (rivals_of [] []) files
      → AreRivals fs answers machine dir t files found
  none_held refused is = ([], [], inr (None, refused, refl), inr (None, refused, refl), is)

  -- else those hold that are true
  pub held_by : (atoms : List Atom) (linkers runners : List (List ℕ)) → IsSetOf fs answers machine dir t (Some atoms)
      → TrueValues atoms (paired (open_givers Linker t.triple machine files)) linkers
      → TrueValues atoms (paired (open_givers Runner t.triple machine files)) runners
      → found ≡ map (rivals_of linkers runners) files → AreRivals fs answers machine dir t files found
  held_by atoms linkers runners set l r is = (linkers, runners, inr (Some atoms, set, l), inr (Some atoms, set, r), is)
