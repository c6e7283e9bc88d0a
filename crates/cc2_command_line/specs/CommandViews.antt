-- A command of the code, as one of the definitions.
use Rattle.std.specs.Prelude.{map, option_map}
use Rattle.cc2_command_line.specs.Commands.{Get, Targets, Lint, Command, get, target, rustc, host, version, lint}
use Rattle.cc2_command_line.specs.declared.command.Command.{Command as CodeCommand}
use Rattle.cc2_command_line.specs.declared.command.Command.TheVariants as code
use Rattle.cc2_command_line.specs.declared.command.Get.{Get as CodeGet}
use Rattle.cc2_command_line.specs.declared.command.Lint.{Lint as CodeLint}
use Rattle.cc2_command_line.specs.declared.command.Targets.{Targets as CodeTargets}

abbrev pub get_view : CodeGet → Get
get_view g = record {
  key = option_map (λ key. key.now) g.key;
  stage = g.stage;
  rules = g.rules;
  format = g.format;
  merged = g.merged;
  origins = g.origins;
  tokens = g.tokens;
}

abbrev pub targets_view : CodeTargets → Targets
targets_view t = record {
  triples = map (λ triple. triple.now) t.triples.items;
  build_scripts = t.build_scripts;
  rules = t.rules;
  format = t.format;
}

abbrev pub lint_view : CodeLint → Lint
lint_view l = record {
  paths = map (λ path. path.now) l.paths.items;
  deny = l.deny;
  format = l.format;
  allowed = map (λ lint. lint.now) l.allowed.items;
  targets = map (λ triple. triple.now) l.targets.items;
  compares = l.compares;
}

abbrev pub command_view : CodeCommand → Command
command_view (code.Get g) = get (get_view g)
command_view (code.Target t) = target (targets_view t)
command_view (code.Rustc rules) = rustc rules
command_view (code.Host rules) = host rules
command_view code.Version = version
command_view (code.Lint l) = lint (lint_view l)
