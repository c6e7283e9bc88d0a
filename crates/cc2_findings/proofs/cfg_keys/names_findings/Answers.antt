use Rattle.std.proofs.Common.{◌≡◌, ◌∷◌, [], ◌++◌, map, string_bytes, List, ℕ, sym, ap, subst, ◌∙◌, append_assoc}
use Rattle.std.proofs.lemmas.List.{append-nil}
use Rattle.toml.proofs.Views.{Entry}
use Rattle.cc2_findings.specs.KeyFaults.{IsJudged}
use Rattle.cc2_findings.specs.KeyFindings.{shown_fault}
use Rattle.cc2_findings.proofs.Names.{entry_more, all_judged}
use Rattle.cc2_findings.proofs.cfg_keys.names_findings.Goals as goal

pub loop-key-preserved : goal.loop-key-preserved
loop-key-preserved c =
    let (done, whole, so_far) = c.loop-key.invariant in
    let e : Entry = (c.in-Some.key.now, c.in-Some.field-0-1.now) in
    let left = c.next.new.self in
    let all : c.args.table.now.entries ≡ done ++ e ∷ left = whole ∙ ap (λ es. done ++ es) c.in-Some.ensures.steps in
    let judged : IsJudged (string_bytes e.0) c.in_ok-fault.fault = subst (λ (k : List ℕ). IsJudged k c.in_ok-fault.fault) c.as_str.ensures.value c.in_ok-fault.ensures.judged in (
      done ++ e ∷ [],
      all ∙ sym (append_assoc done (e ∷ []) left),
      entry_more done e c.loop-key.found.items c.keep.new.found.items c.in_ok-fault.fault so_far judged c.in_ok-keep.ensures,
    )

pub returns : goal.returns
returns c =
    let (done, whole, so_far) = c.loop-key.invariant in
    all_judged c.args.table.now.entries done (map shown_fault c.loop-key.found.items) (whole ∙ ap (λ es. done ++ es) c.in-None.ensures.steps.0 ∙ append-nil done) so_far
