use Rattle.std.proofs.Common.{refl, ap, sym, subst, ◌∙◌}
use Rattle.cargo_config2.specs.Kept.{rustc_of}
use Rattle.cargo_config2.specs.Lent.{LeavesRustc}
use Rattle.cargo_config2.specs.declared.config.Config.{Config}
use Rattle.cargo_config2.proofs.config.Config.rustc.Goals as goal

pub returns : goal.returns
returns g c =
    let was = c.args.self.now in
    let found = c.in_ok-find_rustc.ensures in
    let same = c.new.ensures.same in (
      (cc, λ w. refl, tt),
      record {
        after = tt;
        same_reference = c.new.ensures.same_reference;
        leaves = subst (λ (n : Config). LeavesRustc (g.F.Files.told c.args.files.now) was n) (sym same)
            (record {
              agrees = found.all_agree;
              keeps = found.all_kept;
              tables = found.tables;
              loaded = found.loaded;
              versions = found.versions;
              sets = found.sets;
              targets = found.targets;
            });
        kept = λ known. ap (λ (n : Config). n.kept.rustc) same ∙ found.keeps known;
        answer = λ fs files agrees. ap rustc_of same ∙ found.found fs files agrees;
        succeeds = λ known. refl;
        refused = tt;
      },
    )
