-- A configuration, from its tables to the whole.
use Rattle.std.proofs.Common.{◌≡◌, Bool, true, false, ◌||◌, [], ◌∷◌, Option, None, option_map, Ok, refl, sym, ap, ◌∙◌, inl, inr}
use Rattle.toml.specs.Data.{Members}
use Rattle.cc2_value.specs.Cells.{field, name, KeyPath, Cell, Origin, joined, present}
use Rattle.cc2_value.specs.Copies.{cell_set, IsCopied}
use Rattle.cc2_value.specs.Ways.{IsDecoded}
use Rattle.cc2_value.specs.Shown.{fields_at}
use Rattle.cc2_error.specs.declared.error.Error.{Error}
use Rattle.cc2_value.specs.Gathered.{reversed, IsGathered, IsUngathered, IsReversed, FieldsGathered, FieldsReversed, IsFieldUngathered}
use Rattle.cc2_value.specs.Visits.{FieldsAbsent, FieldsDecoded, FieldsCopied}
use Rattle.cc2_value.proofs.Copies.{table_copied}
use Rattle.cc2_value.proofs.GatheredTables.{field_gathered, field_reversed}
use Rattle.cc2_value.proofs.Tables.{fields_absent}
use Rattle.cc2_value.proofs.Decoded.{table_decoded}
use Rattle.cc2_de.specs.declared.config.Config.{Config}
use Rattle.cc2_de.specs.Config.{config_fields, marks_at, config_at, decoded, config_faults}

-- the marks of two are set where either has them
pub marks_joined : (b d c e : Bool) → joined (present (marks_at b d ∷ marks_at c e ∷ [])) ≡ Ok (marks_at (b || c) (d || e))
marks_joined false false false false = refl
marks_joined false false false true = refl
marks_joined false false true false = refl
marks_joined false false true true = refl
marks_joined false true false false = refl
marks_joined false true false true = refl
marks_joined false true true false = refl
marks_joined false true true true = refl
marks_joined true false false false = refl
marks_joined true false false true = refl
marks_joined true false true false = refl
marks_joined true false true true = refl
marks_joined true true false false = refl
marks_joined true true false true = refl
marks_joined true true true false = refl
marks_joined true true true true = refl

marks_reversed : (b d : Bool) → option_map reversed (marks_at b d) ≡ marks_at b d
marks_reversed false false = refl
marks_reversed false true = refl
marks_reversed true d = refl

-- a configuration whose tables are gathered is gathered
pub config_gathered : (x y c : Config) → FieldsGathered config_fields x y c
    → c.target_flags_overridden ≡ (x.target_flags_overridden || y.target_flags_overridden)
    → c.target_doc_flags_overridden ≡ (x.target_doc_flags_overridden || y.target_doc_flags_overridden)
    → IsGathered config_at x y c
config_gathered x y c h flags doc_flags [] =
    ap (λ (o : Option Cell). joined (present (o ∷ config_at y [] ∷ []))) (marks_reversed x.target_flags_overridden x.target_doc_flags_overridden)
    ∙ marks_joined x.target_flags_overridden x.target_doc_flags_overridden y.target_flags_overridden y.target_doc_flags_overridden
    ∙ ap (λ (b : Bool). Ok (marks_at b (x.target_doc_flags_overridden || y.target_doc_flags_overridden))) (sym flags)
    ∙ ap (λ (b : Bool). Ok (marks_at c.target_flags_overridden b)) (sym doc_flags)
    ∙ ap Ok (sym (marks_reversed c.target_flags_overridden c.target_doc_flags_overridden))
config_gathered x y c h flags doc_flags (field k ∷ p) = field_gathered config_fields x y c h k p
config_gathered x y c h flags doc_flags (name k ∷ p) = refl

-- what is refused of its tables is refused of the configuration
pub config_ungathered : (x y : Config) (e : Error) → IsFieldUngathered config_fields x y e → IsUngathered config_at x y e
config_ungathered x y e (k, inl memory) = inl memory
config_ungathered x y e (k, inr h) = inr (field k ∷ h.0, h.1, h.2, h.3)

-- a configuration whose tables have their lists reversed, and that has the same marks, has its lists reversed
pub config_reversed : (x c : Config) → FieldsReversed config_fields x c
    → c.target_flags_overridden ≡ x.target_flags_overridden → c.target_doc_flags_overridden ≡ x.target_doc_flags_overridden
    → IsReversed config_at x c
config_reversed x c h flags doc_flags [] = rw (flags, doc_flags) (sym (marks_reversed x.target_flags_overridden x.target_doc_flags_overridden))
config_reversed x c h flags doc_flags (field k ∷ p) = field_reversed config_fields x c h k p
config_reversed x c h flags doc_flags (name k ∷ p) = refl

-- a configuration whose tables are read, and that has no mark, is read
pub config_decoded : (origin : Option Origin) (ms : Members) (c : Config) → FieldsDecoded config_fields origin ms c
    → c.target_flags_overridden ≡ false → c.target_doc_flags_overridden ≡ false
    → IsDecoded config_at (decoded origin ms) (config_faults ms) c
config_decoded origin ms c h flags doc_flags = (whole.0, shown)
  where
    whole : IsDecoded (fields_at config_fields) (decoded origin ms) (config_faults ms) c
    whole = table_decoded false config_fields origin ms c h

    shown : (p : KeyPath) → config_at c p ≡ decoded origin ms p
    shown [] = rw (flags, doc_flags) refl
    shown (field k ∷ p) = whole.1 (field k ∷ p)
    shown (name k ∷ p) = refl

-- a copy of the marks is the same
marks_copied : (origin : Option Origin) (b d : Bool) → marks_at b d ≡ option_map (cell_set origin) (marks_at b d)
marks_copied origin false false = refl
marks_copied origin false true = refl
marks_copied origin true d = refl

-- a configuration whose tables are copied, and that has the same marks, is copied
pub config_copied : (origin : Option Origin) (x y : Config) → FieldsCopied config_fields origin x y
    → y.target_flags_overridden ≡ x.target_flags_overridden → y.target_doc_flags_overridden ≡ x.target_doc_flags_overridden
    → IsCopied config_at origin x y
config_copied origin x y h flags doc_flags [] = rw (flags, doc_flags) (marks_copied origin x.target_flags_overridden x.target_doc_flags_overridden)
config_copied origin x y h flags doc_flags (field k ∷ p) = table_copied false config_fields origin x y h (field k ∷ p)
config_copied origin x y h flags doc_flags (name k ∷ p) = refl

-- a configuration whose tables are empty, and that has no mark, is empty
pub config_absent : (c : Config) → FieldsAbsent config_fields c → c.target_flags_overridden ≡ false → c.target_doc_flags_overridden ≡ false
    → (p : KeyPath) → config_at c p ≡ None
config_absent c h flags doc_flags [] = rw (flags, doc_flags) refl
config_absent c h flags doc_flags (field k ∷ p) = fields_absent config_fields c h (field k ∷ p)
config_absent c h flags doc_flags (name k ∷ p) = refl
