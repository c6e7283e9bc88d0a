use Rattle.std.proofs.Common.{◌≡◌, ℕ, List, None, ap, option_map, rules, ◌∙◌}
use Rattle.cc2_base.specs.declared.machine.Machine.{Machine}
use Rattle.cc2_env.specs.Kept.{kept_of, variables_in}
use Rattle.cc2_env.specs.Options.{chosen_variables, variables_of, variables_or}
use Rattle.cc2_env.specs.declared.options.ResolveOptions.{ResolveOptions}
use Rattle.cc2_de.specs.VariablesAlone.{AreVariables}
use Rattle.cc2_de.proofs.Made.{refused_for, set_by}
use Rattle.cc2_de.proofs.variables.set_by_variables.Goals as goal

-- where none were chosen they are the machine's
unchosen : (machine : Machine) (options : ResolveOptions) → options.env ≡ None
    → (name : List ℕ) → chosen_variables options machine name ≡ kept_of machine.env.items name
unchosen machine options env name = ap (λ given. variables_or (option_map variables_in given) (kept_of machine.env.items) name) env

pub returns : goal.returns
returns c =
    let options = c.default.result in
    let machine = c.args.machine.now in
    let env : options.env ≡ None = search rules in
    let vars = variables_of c.in_ok-context.context in
    let are : AreVariables machine vars = λ name. c.in_ok-context.ensures.ok.variables name ∙ unchosen machine options env name in record {
      ok = set_by machine vars c.empty.result are c.empty.ensures c.apply_env.result c.apply_env.ensures.ok;
      refused = refused_for machine vars c.empty.result are c.empty.ensures c.apply_env.result c.apply_env.ensures.refused;
    }
