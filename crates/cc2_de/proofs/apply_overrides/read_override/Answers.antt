use Rattle.std.proofs.Common.{◌≡◌, ◌⊎◌, List, ℕ, Some, IfErr, OnOk, string_bytes, sym, ap, subst, ◌∙◌}
use Rattle.cc2_base.specs.Paths.{joined as path_joined}
use Rattle.cc2_error.specs.Causes.{refusal_of}
use Rattle.cc2_error.specs.Outcomes.{IsWantOfMemory}
use Rattle.cc2_value.specs.Cells.{command_line}
use Rattle.cc2_env.specs.CommandLine.{Override, override_of}
use Rattle.cc2_de.specs.Overrides.{IsOfOverride, IsOverrideCause}
use Rattle.cc2_de.proofs.Over.{on_file, err_file}
use Rattle.cc2_de.proofs.apply_overrides.read_override.Goals as goal

pub returns-in_ok-clone-in-File-clause-ok : goal.returns-in_ok-clone-in-File-clause-ok
returns-in_ok-clone-in-File-clause-ok g c fs told =
    let dir = c.args.directory.now in
    let whole = c.as_str-in-File-2.result.now in
    let joins : whole ≡ path_joined dir (string_bytes c.in-File.path) =
    c.as_str-in-File-2.ensures.value ∙ c.in_ok-whole-in-File.ensures ∙ ap (path_joined dir) c.as_str-in-File.ensures.value in
    let named : command_line (Some (string_bytes c.in_ok-clone-in-File.field-0)) ≡ command_line (Some whole) =
    ap (λ (b : List ℕ). command_line (Some b)) (c.in_ok-clone-in-File.ensures.cases ∙ sym c.as_str-in-File-2.ensures.value) in
    subst (λ (o : Override). OnOk c.read_file_as.result (IsOfOverride fs dir o c.read_file_as.new.config)) (sym (ap override_of c.in-File.is))
    (on_file fs dir (string_bytes c.in-File.path) whole _ joins named c.read_file_as.result c.read_file_as.new.config
    (c.read_file_as.ensures.ok fs told))

pub returns-in_ok-clone-in-File-clause-refused : goal.returns-in_ok-clone-in-File-clause-refused
returns-in_ok-clone-in-File-clause-refused g c fs told =
    let dir = c.args.directory.now in
    let whole = c.as_str-in-File-2.result.now in
    let joins : whole ≡ path_joined dir (string_bytes c.in-File.path) =
    c.as_str-in-File-2.ensures.value ∙ c.in_ok-whole-in-File.ensures ∙ ap (path_joined dir) c.as_str-in-File.ensures.value in
    let named : command_line (Some (string_bytes c.in_ok-clone-in-File.field-0)) ≡ command_line (Some whole) =
    ap (λ (b : List ℕ). command_line (Some b)) (c.in_ok-clone-in-File.ensures.cases ∙ sym c.as_str-in-File-2.ensures.value) in
    subst (λ (o : Override). IfErr c.read_file_as.result (λ e. IsWantOfMemory e ⊎ IsOverrideCause fs dir c.args.number o (refusal_of e)))
    (sym (ap override_of c.in-File.is))
    (err_file fs dir (string_bytes c.in-File.path) whole _ joins named c.args.number c.read_file_as.result
    (c.read_file_as.ensures.refused fs told))
