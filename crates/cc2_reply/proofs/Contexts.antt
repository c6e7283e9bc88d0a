-- What queries read of a context, and configurations that have the same state.
use Rattle.std.proofs.Common.{◌≡◌, ℕ, List, [], codes, Option, option_map, Result, Ok, Err, String, Vec, Global, string_bytes, sym, ap, ◌∙◌}
use Rattle.std.specs.BTreeMap.{BTreeMap}
use Rattle.cc2_error.specs.Causes.{Refusal}
use Rattle.cc2_error.specs.Commands.{command_of}
use Rattle.cc2_base.specs.declared.machine.Machine.{Machine}
use Rattle.cc2_env.specs.CommandLine.{Override}
use Rattle.cc2_env.specs.Kept.{kept_of, variables_in}
use Rattle.cc2_env.specs.Options.{IsContext, cargo_of, variables_or}
use Rattle.cc2_env.specs.declared.context.ResolveContext.{ResolveContext}
use Rattle.cc2_env.specs.declared.options.ResolveOptions.{ResolveOptions}
use Rattle.cargo_config2.specs.Loads.{nothing_chosen}
use Rattle.cargo_config2.specs.declared.config.Config.{Config}
use Rattle.cc2_answers.specs.Choices.{ChoosesAlone}
use Rattle.cc2_state.specs.State.{LoadState}
use Rattle.cc2_state.proofs.Same.{same_tables}
use Rattle.cc2_reply.specs.States.{IsConfigBy, IsContextIn}
use Rattle.cc2_reply.proofs.SameAnswers.{ReadsAlike}

-- a context under overrides alone has what queries read
pub context_under : (os : List Override) (options : ResolveOptions) (machine : Machine) (dir : List ℕ) (context : ResolveContext)
    → ChoosesAlone os options → string_bytes context.current_dir ≡ dir → IsContext options context.current_dir machine context
    → IsContextIn machine dir context
context_under os options machine dir context alone there is = record {
  directory = there;
  variables = λ name.
      is.variables name
      ∙ ap (λ (env : Option (BTreeMap (String Global) (Vec ℕ Global))). variables_or (option_map variables_in env) (kept_of machine.env.items) name) alone.env;
  cargo =
      (λ i. cargo_of (option_map string_bytes (sym alone.cargo i))
      (variables_or (option_map variables_in (sym alone.env i)) (kept_of machine.env.items) (codes "CARGO")))
      ∙ is.cargo;
  rustc = is.rustc ∙ alone.rustc;
  host = is.host ∙ alone.host;
}

-- so has one where nothing is chosen
pub context_alone : (machine : Machine) (dir : List ℕ) (context : ResolveContext) → string_bytes context.current_dir ≡ dir
    → IsContext nothing_chosen context.current_dir machine context → IsContextIn machine dir context
context_alone machine dir context there is =
    record { directory = there; variables = is.variables; cargo = is.cargo; rustc = is.rustc; host = is.host }

abbrev text_or_none : Result (List ℕ) Refusal → List ℕ
text_or_none (Ok text) = text
text_or_none (Err refusal) = []

-- two configurations with one state in one context have the same of what queries read
pub reads_alike : (machine : Machine) (dir : List ℕ) (s : LoadState) (c d : Config) → IsConfigBy machine dir s c → IsConfigBy machine dir s d
    → ReadsAlike c d
reads_alike machine dir s c d is also = record {
  tables = same_tables s c.loaded.target d.loaded.target is.state.tables is.state.ordered also.state.tables also.state.ordered;
  cells = λ p. is.state.cells p ∙ sym (also.state.cells p);
  flags = is.state.flags ∙ sym also.state.flags;
  doc_flags = is.state.doc_flags ∙ sym also.state.doc_flags;
  rustc = is.state.rustc ∙ sym also.state.rustc;
  wrapper = is.state.wrapper ∙ sym also.state.wrapper;
  workspace_wrapper = is.state.workspace_wrapper ∙ sym also.state.workspace_wrapper;
  rustflags = is.state.rustflags ∙ sym also.state.rustflags;
  rustdocflags = is.state.rustdocflags ∙ sym also.state.rustdocflags;
  variables = λ name. is.context.variables name ∙ sym (also.context.variables name);
  cargo = ap text_or_none (sym is.context.cargo ∙ also.context.cargo);
  directory = is.context.directory ∙ sym also.context.directory;
  chosen = ap (option_map command_of) (is.context.rustc ∙ sym also.context.rustc);
  host = ap (option_map string_bytes) (is.context.host ∙ sym also.context.host);
}
