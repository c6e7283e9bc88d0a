use Rattle.std.proofs.Common.{Ok, refl, ap, sym, subst, ◌∙◌}
use Rattle.std.specs.Prelude.{[], unwrap_or}
use Rattle.cc2_rustc.specs.AskedVersions.{Asked, host_said}
use Rattle.cargo_config2.specs.Kept.{asked_by, host_of}
use Rattle.cargo_config2.specs.Lent.{LeavesHost}
use Rattle.cargo_config2.specs.declared.config.Config.{Config}
use Rattle.cargo_config2.proofs.Keeping.{known_said, same_asked, some_there}
use Rattle.cargo_config2.proofs.config.Config.host_triple.Goals as goal

pub returns : goal.returns
returns g c =
    let was = c.args.self.now in
    let new = c.find_host.new.self in
    let found = c.in_ok-find_host.ensures in
    let same = c.new.ensures.same in (
      (cc, λ w. refl, tt),
      record {
        after = tt;
        same_reference = c.new.ensures.same_reference;
        leaves = subst (λ (n : Config). LeavesHost (g.F.Files.told c.args.files.now) (g.P.Programs.told c.args.programs.now) was n) (sym same)
            (record {
              agrees = found.agrees;
              keeps = found.keeps;
              tables = found.tables;
              loaded = found.loaded;
              targets = found.targets;
            });
        answer = λ fs answers files programs h.
            let after = found.agrees fs answers files programs h in
            ap (λ (s : Asked). host_said s answers) (sym (same_asked fs answers was new found.tables found.loaded))
            ∙ known_said (asked_by fs new) answers new.kept.versions after.versions (unwrap_or (host_of new) [])
            (some_there (host_of new) [] found.found)
            ∙ ap (λ (n : Config). Ok (unwrap_or (host_of n) [])) (sym same);
        same = found.same;
        few = found.few;
        none = λ known. ((found.none known).0, refl);
      },
    )
