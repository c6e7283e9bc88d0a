use Rattle.std.proofs.Common.{◌⊎◌, List, ℕ, map, option_map, string_bytes, sym, subst}
use Rattle.cc2_error.specs.Causes.{refusal_of}
use Rattle.cc2_error.specs.Outcomes.{IsWantOfMemory}
use Rattle.cc2_error.proofs.Refused.{err_exit}
use Rattle.cc2_base.specs.Walked.{walked}
use Rattle.cc2_answers.specs.Choices.{overrides_by}
use Rattle.cc2_cli.specs.ShowTasks.{request_view}
use Rattle.cc2_show_answers.specs.Sources.{above, file}
use Rattle.cc2_show_answers.specs.Unmerged.{AreBlocks, IsUnmergedCause, sources_of}
use Rattle.cc2_show_answers.proofs.Blocks.{both, or_above, or_below}
use Rattle.cc2_show_answers.proofs.unmerged.unmerged.Goals as goal

pub returns-in_err-text-clause-refused : goal.returns-in_err-text-clause-refused
returns-in_err-text-clause-refused g c fs told =
    let machine = c.args.machine.now in
    let os = overrides_by (map string_bytes c.args.choices.now) in
    let request = request_view c.args.request in
    let pieces = map (λ p. p.now) c.args.pieces.now in
    err_exit c.from_residual-in_err-text.result (λ e. IsWantOfMemory e ⊎ IsUnmergedCause fs machine os request pieces (refusal_of e)) _
    c.from_residual-in_err-text.ensures.1
    (or_above fs machine os request pieces (option_map string_bytes c.in_ok-home.home) _ c.in_ok-home.ensures (c.in_err-text.ensures.refused fs told))

pub returns-in_err-below-clause-refused : goal.returns-in_err-below-clause-refused
returns-in_err-below-clause-refused g c fs told =
    let machine = c.args.machine.now in
    let os = overrides_by (map string_bytes c.args.choices.now) in
    let request = request_view c.args.request in
    let pieces = map (λ p. p.now) c.args.pieces.now in
    err_exit c.from_residual-in_err-below.result (λ e. IsWantOfMemory e ⊎ IsUnmergedCause fs machine os request pieces (refusal_of e)) _
    c.from_residual-in_err-below.ensures.1
    (or_below fs machine os request pieces (option_map string_bytes c.in_ok-home.home) _ c.in_ok-home.ensures (c.in_err-below.ensures.refused machine os fs told))

pub returns-clause-ok : goal.returns-clause-ok
returns-clause-ok g c fs told =
    let machine = c.args.machine.now in
    let os = overrides_by (map string_bytes c.args.choices.now) in
    let request = request_view c.args.request in
    let pieces = map (λ p. p.now) c.args.pieces.now in
    let home = option_map string_bytes c.in_ok-home.home in (
      home,
      c.in_ok-home.ensures,
      subst (λ (text : List ℕ). AreBlocks fs machine os request pieces (sources_of fs machine os request pieces home) text) (sym c.in_ok-append.ensures.items)
          (both fs machine os request pieces (above request.stage) (map file (walked fs request.dir home)) c.in_ok-text.text.items c.in_ok-below.below.items
          (c.in_ok-text.ensures.ok fs told) (c.in_ok-below.ensures.ok machine os fs told)),
    )
