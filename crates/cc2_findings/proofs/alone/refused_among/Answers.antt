use Rattle.std.proofs.Common.{◌≡◌, ◌∷◌, [], ◌++◌, length, List, String, Global, map, string_bytes, sym, ap, subst, ◌∙◌, append_assoc, arith}
use Rattle.std.proofs.lemmas.List.{append-nil, nil_from_length}
use Rattle.toml.specs.View.{table_view}
use Rattle.cc2_findings.specs.Alone.{AreJudged, alone}
use Rattle.cc2_findings.specs.declared.finding.Finding.{Finding}
use Rattle.cc2_findings.proofs.Keyed.{paths_of, key_more}
use Rattle.cc2_findings.proofs.alone.refused_among.Goals as goal

pub loop-key-preserved : goal.loop-key-preserved
loop-key-preserved g c =
    let (parted, long, so_far) = c.loop-key.invariant in
    let k = c.in-Some.key in
    let ms = table_view c.args.table.now in
    let judges = g.J.Judge.judges c.args.judge.now in
    let (steps, less) = c.in-Some.ensures.steps in (
      append_assoc c.loop-key.yielded (k ∷ []) c.next.new.self.rest.items
          ∙ ap (λ (xs : List (Finding _)). c.loop-key.yielded ++ xs) (sym steps) ∙ parted,
      omega (arith, long, less, ap length steps),
      key_more judges ms c.loop-key.yielded k c.loop-key.found.items c.keep.new.found.items c.in_ok-error.error so_far
          (subst (λ (p : List (String Global)). judges (map string_bytes p) (alone (map string_bytes p) ms) c.in_ok-error.error)
          c.as_slice.ensures.value c.in_ok-error.ensures)
          c.in_ok-keep.ensures,
    )

pub returns : goal.returns
returns g c =
    let (parted, long, so_far) = c.loop-key.invariant in
    let none = nil_from_length c.loop-key.key-iterator.rest.items (sym long ∙ c.in-None.ensures.steps.0) in
    let all : c.loop-key.yielded ≡ c.args.keys.items =
    sym (append-nil c.loop-key.yielded) ∙ ap (λ (xs : List (Finding _)). c.loop-key.yielded ++ xs) (sym none) ∙ parted in
    subst (λ (xs : List (Finding _)). AreJudged (g.J.Judge.judges c.args.judge.now) (table_view c.args.table.now) (paths_of xs) c.loop-key.found.items)
    all so_far
