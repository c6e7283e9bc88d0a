use Rattle.std.proofs.Common.{◌≡◌, List, [], ◌∷◌, ◌++◌, sym, ap, subst, ◌∙◌, append_assoc, string_bytes, option_map}
use Rattle.std.proofs.lemmas.List.{append-nil}
use Rattle.std.proofs.lemmas.Result.{err_from_is_err_and}
use Rattle.std.specs.List.Sorted.{IsStrictlySortedBy}
use Rattle.std.specs.Map.{keys_of}
use Rattle.std.specs.String.{string_cmp}
use Rattle.cc2_value.proofs.Found.{found_here}
use Rattle.cc2_env.specs.Options.{variables_of}
use Rattle.cc2_env.proofs.Keeping.{Entry}
use Rattle.cc2_env.proofs.Naming.{variables_among, named_start, named_past, named_more, named_cause}
use Rattle.cc2_env.proofs.maps.read_names.Goals as goal

pub loop-name-init : goal.loop-name-init
loop-name-init g c = (
  [],
  sym (c.into_iter-name-iterator.ensures.into_iter_gives ∙ c.iter-name-items.ensures.rest
      ∙ ap (λ m. m.entries) c.variables.ensures),
  named_start g.T.MergeFrom.cell_at g.T.ReadEnv.text_way c.args.prefix.now c.args.map.now,
)

pub returns-in_err-read-clause-refused : goal.returns-in_err-read-clause-refused
returns-in_err-read-clause-refused g c =
    let (done, whole, so_far) = c.loop-name.invariant in
    let e : Entry = (c.in-Some.name.now, c.in-Some.value.now) in
    let left = c.next.new.self in
    let all : c.args.context.now.env.entries ≡ done ++ e ∷ left =
    whole ∙ ap (λ es. done ++ es) c.in-Some.ensures.steps in
    let sorted = subst (λ es. IsStrictlySortedBy string_cmp (keys_of es))
    (ap (λ m. m.entries) c.variables.ensures ∙ all) c.iter-name-items.ensures.ordered in
    let cut = c.in-Some-strip_prefix.ensures.cases in
    let is : string_bytes e.0 ≡ c.args.prefix.now ++ c.in-Some-strip_prefix.key.now =
    sym c.as_str.ensures.value ∙ cut.1.1 ∙ ap (λ t. c.args.prefix.now ++ t) (sym cut.2) in
    let set = ap (λ (es : List Entry). variables_among es (string_bytes e.0)) all
    ∙ ap (option_map (λ value. value.items)) (found_here done e left sorted) in
    let p = err_from_is_err_and c.from_residual.result c.from_residual.ensures.1 in
    rw (p.1, p.2) (named_cause g.T.MergeFrom.cell_at g.T.ReadEnv.text_way c.args.prefix.now c.args.map.now
    (variables_of c.args.context.now) c.in-Some-strip_prefix.key.now (string_bytes e.0) e.1.items _ is set
    (rw (c.as_str-in-Some-strip_prefix.ensures.value, c.as_slice.ensures.value) at c.in_err-read.ensures.refused))

pub loop-name-preserved-in_ok-put : goal.loop-name-preserved-in_ok-put
loop-name-preserved-in_ok-put g c =
    let (done, whole, so_far) = c.loop-name.invariant in
    let e : Entry = (c.in-Some.name.now, c.in-Some.value.now) in
    let left = c.next.new.self in
    let all : c.args.context.now.env.entries ≡ done ++ e ∷ left =
    whole ∙ ap (λ es. done ++ es) c.in-Some.ensures.steps in
    let sorted = subst (λ es. IsStrictlySortedBy string_cmp (keys_of es))
    (ap (λ m. m.entries) c.variables.ensures ∙ all) c.iter-name-items.ensures.ordered in
    let cut = c.in-Some-strip_prefix.ensures.cases in
    let is : string_bytes e.0 ≡ c.args.prefix.now ++ string_bytes c.in_ok-from_str.field-0 =
    sym c.as_str.ensures.value ∙ cut.1.1 ∙ ap (λ t. c.args.prefix.now ++ t)
    (sym cut.2 ∙ sym c.in_ok-from_str.ensures.ok) in (
      done ++ e ∷ [],
      all ∙ sym (append_assoc done (e ∷ []) left),
      named_more g.T.MergeFrom.cell_at g.T.ReadEnv.text_way c.args.prefix.now c.args.map.now done e left c.loop-name.map
          c.put.new.map c.in_ok-from_str.field-0 c.in_ok-read.read sorted is c.in_ok-put.ensures.updates
          (rw (c.as_str-in-Some-strip_prefix.ensures.value, c.as_slice.ensures.value) at c.in_ok-read.ensures.ok.0)
          (λ p. rw (c.as_str-in-Some-strip_prefix.ensures.value, c.as_slice.ensures.value) at
          (c.in_ok-read.ensures.ok.1 p)) so_far,
    )

pub loop-name-preserved : goal.loop-name-preserved
loop-name-preserved g c =
    let (done, whole, so_far) = c.loop-name.invariant in
    let e : Entry = (c.in-Some.name.now, c.in-Some.value.now) in
    let left = c.next.new.self in
    let all : c.args.context.now.env.entries ≡ done ++ e ∷ left =
    whole ∙ ap (λ es. done ++ es) c.in-Some.ensures.steps in (
      done ++ e ∷ [],
      all ∙ sym (append_assoc done (e ∷ []) left),
      named_past g.T.MergeFrom.cell_at g.T.ReadEnv.text_way c.args.prefix.now c.args.map.now done e c.loop-name.map
          (λ n is. c.in_default.ensures.cases n (c.as_str.ensures.value ∙ is)) so_far,
    )

pub returns-clause-ok : goal.returns-clause-ok
returns-clause-ok g c =
    let (done, whole, so_far) = c.loop-name.invariant in
    let all : c.args.context.now.env.entries ≡ done =
    whole ∙ ap (λ es. done ++ es) c.in-None.ensures.steps.0 ∙ append-nil done in
    rw all so_far
