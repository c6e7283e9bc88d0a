use Rattle.std.proofs.Common.{[], Some, option_map, refl, sym, ap, ◌∙◌}
use Rattle.cc2_value.specs.Cells.{word}
use Rattle.cc2_value.specs.Singles.{text_value}
use Rattle.cc2_value.specs.Values.{word_of}
use Rattle.cc2_resolved.specs.Answers.{single, text_answer}
use Rattle.cc2_resolved.specs.Resolving.{meant_as}
use Rattle.cc2_resolved.specs.Roots.{resolved}
use Rattle.cc2_resolved.specs.Rows.{made_of}
use Rattle.cc2_resolved.specs.Turns.{map_ok}
use Rattle.cc2_resolved.specs.declared.roots.Meant.TheVariants.{Program}
use Rattle.cc2_target.specs.Settings.{site_for}
use Rattle.cc2_target.proofs.Exits.{gives_exit, refused_more}
use Rattle.cc2_target.proofs.programs.linker_of.Goals as goal

pub returns-in_err-resolve_text-in-Some : goal.returns-in_err-resolve_text-in-Some
returns-in_err-resolve_text-in-Some c =
    let directory = c.args.directory.now in
    let how = made_of (meant_as Program (site_for directory)) in
    gives_exit (option_map text_answer) c.from_residual-in_err-resolve_text-in-Some.result
    (how (text_value (option_map (λ l. l.now) c.args.linker) [])) c.in_err-resolve_text-in-Some.field-0.0
    c.from_residual-in_err-resolve_text-in-Some.ensures.1
    (refused_more (λ r. map_ok Some (map_ok (λ t. single (word t)) r)) (λ refusal. refl)
    (resolved Program directory (word_of c.in_ok-linker-in-Some.linker)) _ _
    (ap (λ o. how (text_value (option_map (λ l. l.now) o) [])) c.in-Some.is
    ∙ ap how (sym (c.in_ok-linker-in-Some.ensures.ok []))) c.in_err-resolve_text-in-Some.ensures)

pub returns-in_ok-resolve_text-in-Some : goal.returns-in_ok-resolve_text-in-Some
returns-in_ok-resolve_text-in-Some c =
    let how = made_of (meant_as Program (site_for c.args.directory.now)) in
    ap (λ o. how (text_value (option_map (λ l. l.now) o) [])) c.in-Some.is
    ∙ ap how (sym (c.in_ok-linker-in-Some.ensures.ok []))
    ∙ ap (λ r. map_ok Some (map_ok (λ t. single (word t)) r)) c.in_ok-resolve_text-in-Some.ensures
