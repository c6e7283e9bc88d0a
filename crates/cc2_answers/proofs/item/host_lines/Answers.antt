use Rattle.std.proofs.Common.{sym, ap, ◌∙◌}
use Rattle.cc2_rustc.specs.AskedVersions.{Asked, host_said}
use Rattle.cargo_config2.specs.Kept.{asked_by}
use Rattle.cargo_config2.proofs.Keeping.{known_said, same_asked}
use Rattle.cc2_cli.specs.CommandLines.{host_line}
use Rattle.cc2_answers.proofs.Comes.{given_lines}
use Rattle.cc2_answers.proofs.item.host_lines.Goals as goal

pub returns : goal.returns
returns g c =
    let was = c.args.config.now in
    let config = c.find_host.new.self in
    let found = c.in_ok-find_host.ensures in
    let host = c.in-Some.host.now in record {
      left = record { agrees = found.agrees; tables = found.tables; loaded = found.loaded };
      same = found.same;
      told = λ fs answers files programs ready.
          let agrees = found.agrees fs answers files programs ready.agrees in
          given_lines host_line (host_said (asked_by fs was) answers) host c.in_ok-host_line-in-Some.field-0.items
          (ap (λ (s : Asked). host_said s answers) (sym (same_asked fs answers was config found.tables found.loaded))
          ∙ known_said (asked_by fs config) answers config.kept.versions agrees.versions host (sym c.in-Some.ensures))
          c.in_ok-host_line-in-Some.ensures;
    }
