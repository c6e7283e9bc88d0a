-- A command line of the code, as one of the definitions.
use Rattle.std.specs.Prelude.{map, option_map}
use Rattle.cc2_command_line.specs.CommandViews.{command_view}
use Rattle.cc2_command_line.specs.Lines.{Invocation, Line, help, version, run}
use Rattle.cc2_command_line.specs.declared.line.Invocation.{Invocation as CodeInvocation}
use Rattle.cc2_command_line.specs.declared.line.Invocation.TheVariants as code
use Rattle.cc2_command_line.specs.declared.line.Line.{Line as CodeLine}

abbrev pub line_view : CodeLine → Line
line_view l = record {
  command = command_view l.command;
  directory = option_map (λ d. d.now) l.directory;
  configs = map (λ config. config.now) l.configs.items;
  color = l.color;
  quiet = l.quiet;
  no_programs = l.no_programs;
}

abbrev pub invocation_view : CodeInvocation → Invocation
invocation_view (code.Help v) = help v
invocation_view code.Version = version
invocation_view (code.Run l) = run (line_view l)
