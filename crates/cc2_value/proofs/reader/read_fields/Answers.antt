use Rattle.std.proofs.Common.{[], None, refl, subst}
use Rattle.toml.specs.View.{table_view}
use Rattle.cc2_value.specs.Copies.{origin_given}
use Rattle.cc2_value.specs.Reading.{fields_faults}
use Rattle.cc2_value.specs.Taking.{GoesOn}
use Rattle.cc2_value.specs.Visits.{FieldsDecoded}
use Rattle.cc2_value.specs.Ways.{IsFaultBehind}
use Rattle.cc2_value.proofs.Taking.{fields_taken}
use Rattle.cc2_value.proofs.reader.read_fields.Goals as goal

pub returns-in-None-clause-ok : goal.returns-in-None-clause-ok
returns-in-None-clause-ok g c =
    let fs = g.T.Fields.fields in
    let origin = origin_given c.args.definition in
    subst (λ o. GoesOn None o (FieldsDecoded fs origin (table_view c.args.table) c.each_taken.new.self)
    (IsFaultBehind [] (fields_faults fs (table_view c.args.table)))) c.in-None.is
    (fields_taken (λ t. table_view t.table) (λ t. t.refused) (λ t. origin_given t.definition) fs _ _
    c.each_taken.new.self g.met.T.Fields.distinct c.each_taken.ensures refl)

pub returns-clause-refused : goal.returns-clause-refused
returns-clause-refused g c =
    let fs = g.T.Fields.fields in
    let origin = origin_given c.args.definition in
    subst (λ o. GoesOn None o (FieldsDecoded fs origin (table_view c.args.table) c.each_taken.new.self)
    (IsFaultBehind [] (fields_faults fs (table_view c.args.table)))) c.in-Some.is
    (fields_taken (λ t. table_view t.table) (λ t. t.refused) (λ t. origin_given t.definition) fs _ _
    c.each_taken.new.self g.met.T.Fields.distinct c.each_taken.ensures refl)
