use Rattle.std.proofs.Common.{[], ◌∷◌, ◌++◌, ◌≡◌, List, String, Global, Ok, map, option_map, string_bytes, arith, ap, ◌∙◌}
use Rattle.std.proofs.lemmas.Grind.{common_steps}
use Rattle.std.proofs.lemmas.List.{map-append}
use Rattle.std.specs.Map.{keys_of}
use Rattle.cc2_cargo.specs.Raw.{raw_members_at}
use Rattle.cc2_cargo.specs.declared.raw.Raw.{Raw}
use Rattle.cc2_cargo_settings.specs.EnvVariables.{variable_view, variables_at, variables_view}
use Rattle.cc2_cargo_settings.proofs.EnvNames.{behind, gives_exit, none_at, refused_at, some_at}
use Rattle.cc2_cargo_settings.proofs.env.variables_of.Goals as goal

pub loop-name-preserved : goal.loop-name-preserved
loop-name-preserved c =
    let look = raw_members_at c.args.sources.settings.now in
    let machine = c.args.sources.machine.now in
    let dir = c.args.dir.now in
    let all = variables_at look machine dir (map string_bytes (keys_of c.args.entries.now.entries)) in
    let done = map variable_view c.loop-name.variables.items in
    let is = c.loop-name.invariant ∙ ap (λ (es : List (String Global × Raw)). behind done (variables_at look machine dir (map string_bytes (keys_of es)))) c.in-Some.ensures.steps in
    none_at look machine dir all done (string_bytes c.in-Some.name.now) (map string_bytes (keys_of c.next.new.self)) is
    c.as_str.result.now c.as_str.ensures.value (c.in_ok-text.ensures ∙ ap (λ o. Ok (option_map string_bytes o)) c.in_default.is)

pub loop-name-preserved-in-Continue-branch-4 : goal.loop-name-preserved-in-Continue-branch-4
loop-name-preserved-in-Continue-branch-4 c =
    let look = raw_members_at c.args.sources.settings.now in
    let machine = c.args.sources.machine.now in
    let dir = c.args.dir.now in
    let all = variables_at look machine dir (map string_bytes (keys_of c.args.entries.now.entries)) in
    let done = map variable_view c.loop-name.variables.items in
    let is = c.loop-name.invariant ∙ ap (λ (es : List (String Global × Raw)). behind done (variables_at look machine dir (map string_bytes (keys_of es)))) c.in-Some.ensures.steps in
    let e : String Global × String Global = (c.in_ok-name.name, c.in-Some-2.text) in
    let pushed : c.push.new.self.items ≡ c.loop-name.variables.items ++ e ∷ [] = grind (arith, common_steps) in
    let named : string_bytes c.in_ok-name.name ≡ string_bytes c.in-Some.name.now = c.in_ok-name.ensures.ok ∙ c.as_str-in-Some-2.ensures.value in
    some_at look machine dir all done (string_bytes c.in-Some.name.now) (map string_bytes (keys_of c.next.new.self)) is
    c.as_str.result.now c.as_str.ensures.value (string_bytes c.in-Some-2.text) (map variable_view c.push.new.self.items)
    (c.in_ok-text.ensures ∙ ap (λ o. Ok (option_map string_bytes o)) c.in-Some-2.is)
    (ap (map variable_view) pushed ∙ map-append variable_view c.loop-name.variables.items (e ∷ [])
    ∙ ap (λ n. done ++ (n, string_bytes c.in-Some-2.text) ∷ []) named)

pub returns-in_err-text-clause-variables : goal.returns-in_err-text-clause-variables
returns-in_err-text-clause-variables c =
    let look = raw_members_at c.args.sources.settings.now in
    let machine = c.args.sources.machine.now in
    let dir = c.args.dir.now in
    let all = variables_at look machine dir (map string_bytes (keys_of c.args.entries.now.entries)) in
    let done = map variable_view c.loop-name.variables.items in
    let is = c.loop-name.invariant ∙ ap (λ (es : List (String Global × Raw)). behind done (variables_at look machine dir (map string_bytes (keys_of es)))) c.in-Some.ensures.steps in
    gives_exit variables_view c.from_residual.result all _ c.from_residual.ensures.1
    (refused_at look machine dir all done (string_bytes c.in-Some.name.now) (map string_bytes (keys_of c.next.new.self)) is
    c.as_str.result.now c.as_str.ensures.value _ c.in_err-text.ensures)
