use Rattle.std.proofs.Common.{ap, sym, subst, ◌∙◌}
use Rattle.std.specs.Path.{path_components, components_remaining, IsLastComponent}
use Rattle.cc2_base.specs.PathSteps.{name_in}
use Rattle.cc2_base.proofs.FileNames.{file_name_by}
use Rattle.cc2_base.proofs.path.file_name.Goals as goal

pub returns-in-Some : goal.returns-in-Some
returns-in-Some c =
    let h = file_name_by c.args.path.now c.next_back.result _
    (subst (λ cs. IsLastComponent cs c.next_back.result (components_remaining c.next_back.new.self))
    (c.components.ensures ∙ ap path_components c.new.ensures) c.next_back.ensures.steps) in
    c.as_name.ensures ∙ ap name_in (sym c.in-Some.is) ∙ h

pub returns-in-None : goal.returns-in-None
returns-in-None c =
    let h = file_name_by c.args.path.now c.next_back.result _
    (subst (λ cs. IsLastComponent cs c.next_back.result (components_remaining c.next_back.new.self))
    (c.components.ensures ∙ ap path_components c.new.ensures) c.next_back.ensures.steps) in
    ap name_in (sym c.in-None.is) ∙ h
