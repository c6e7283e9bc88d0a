use Rattle.std.proofs.Common.{[], ◌∷◌, refl}
use Rattle.cc2_error.specs.declared.error.Shape.TheVariants.{String, Array}
use Rattle.cc2_value.specs.Gathered.{reversed_at}
use Rattle.cc2_value.specs.Shown.{leaf_at}
use Rattle.cc2_value.proofs.Tables.{refused_here}
use Rattle.cc2_leaf.specs.Wholes.{whole_cell}
use Rattle.cc2_leaf.proofs.Reversing.{wholes_gathered, whole_arrays_gathered}
use Rattle.cc2_leaf.proofs.string_or_array.StringOrArrayMergeFrom.gather.Goals.{
  in-String-String,
  in-String-Array,
  in-Array-Array+in_ok-append_reversed-in-Array-Array,
  in-Array-String,
}
use Rattle.cc2_leaf.proofs.string_or_array.StringOrArrayMergeFrom.gather.Goals as goal

pub returns-clause-refused : goal.returns-clause-refused
returns-clause-refused c =
    let both = reversed_at (leaf_at whole_cell) c.args.self.now ∷ leaf_at whole_cell c.args.low.now ∷ [] in
    elim c.match-self.branch [
      | in-String-String w ↦ rw w.result-is tt
      | in-String-Array w ↦ rw w.result-is (refused_here (λ l. l) both String Array _
          (rw (w.in-String-Array.is-0, w.in-String-Array.is-1) refl) w.mixed.ensures)
      | in-Array-Array+in_ok-append_reversed-in-Array-Array w ↦ rw w.result-is tt
      | in-Array-String w ↦ rw w.result-is (refused_here (λ l. l) both Array String _
          (rw (w.in-Array-String.is-0, w.in-Array-String.is-1) refl) w.mixed-in-Array-String.ensures)
    ]

pub returns-clause-ok : goal.returns-clause-ok
returns-clause-ok c =
    elim c.match-self.branch [
      | in-String-String w ↦ rw (w.result-is, w.self-is, w.in-String-String.is-0, w.in-String-String.is-1) (wholes_gathered w.in-String-String.field-0-0 w.in-String-String.field-0-1)
      | in-String-Array w ↦ rw w.result-is tt
      | in-Array-Array+in_ok-append_reversed-in-Array-Array w ↦ rw (w.result-is, w.self-is, w.in-Array-Array.is-0, w.in-Array-Array.is-1)
          (whole_arrays_gathered w.in-Array-Array.high w.in-Array-Array.low w.append_reversed.new.list w.in_ok-append_reversed-in-Array-Array.ensures.ok)
      | in-Array-String w ↦ rw w.result-is tt
    ]
