use Rattle.cc2_base.proofs.Telling.{kept_same}
use Rattle.cargo_config2.specs.RustcKept.{rustc_command_of}
use Rattle.cargo_config2.proofs.Left.{left_same}
use Rattle.cc2_cli.specs.CommandLines.{rustc_lines}
use Rattle.cc2_answers.proofs.Comes.{comes_alone}
use Rattle.cc2_answers.proofs.Leaving.{asked_alike}
use Rattle.cc2_answers.proofs.item.item_lines.Goals as goal

pub returns-in-Rustc : goal.returns-in-Rustc
returns-in-Rustc g c =
    let config = c.args.config.now in
    let told = g.P.Programs.told c.args.programs.now in
    asked_alike (g.F.Files.told c.args.files.now) told told config config c.command_lines.result _ _ c.in-Rustc.is (record {
      left = left_same _ _ config;
      same = kept_same told;
      told = λ fs answers files programs ready.
          comes_alone (rustc_lines (rustc_command_of fs config)) c.command_lines.result
          (c.command_lines.ensures.told fs files ready.unchosen) c.command_lines.ensures.refused;
    })

pub returns-in-Host : goal.returns-in-Host
returns-in-Host g c =
    asked_alike _ _ _ c.args.config.now _ c.host_lines.result _ _ c.in-Host.is c.host_lines.ensures

pub returns-in-Target : goal.returns-in-Target
returns-in-Target g c =
    asked_alike _ _ _ c.args.config.now _ c.settings_lines.result _ _ c.in-Target.is c.settings_lines.ensures

pub returns-in-Cfg : goal.returns-in-Cfg
returns-in-Cfg g c =
    asked_alike _ _ _ c.args.config.now _ c.values_lines.result _ _ c.in-Cfg.is c.values_lines.ensures

pub returns-in-RustcVersion : goal.returns-in-RustcVersion
returns-in-RustcVersion g c =
    asked_alike _ _ _ c.args.config.now _ c.rustc_lines_of.result _ _ c.in-RustcVersion.is c.rustc_lines_of.ensures

pub returns-in-CargoVersion : goal.returns-in-CargoVersion
returns-in-CargoVersion g c =
    asked_alike _ _ _ c.args.config.now _ c.cargo_lines_of.result _ _ c.in-CargoVersion.is c.cargo_lines_of.ensures
