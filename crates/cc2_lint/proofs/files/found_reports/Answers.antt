use Rattle.std.proofs.Common.{◌≡◌, ◌++◌, ap, append_assoc, ◌∙◌}
use Rattle.cc2_findings.specs.Dirs.{path_of}
use Rattle.cc2_reports.specs.Problems.{subjects_of}
use Rattle.cc2_lint.specs.Files.{checked_in, subjects_beside}
use Rattle.cc2_lint.specs.Subjects.{load_subjects, name_subjects}
use Rattle.cc2_lint.proofs.files.found_reports.Goals as goal

pub returns : goal.returns
returns g c fs is_open files permissions =
    let file = c.args.file.now in
    let fault = file.found.fault in
    let values = file.found.values.items in
    let named = c.push_name.new.reports.items in
    let name = name_subjects (path_of file) fs in
    let load = load_subjects (path_of file) fault values in
    let keys = subjects_beside (checked_in fs is_open c.args.check.now) c.args.number file c.args.beside.now in
    let path : c.as_str-name.result.now ≡ path_of file = c.as_str-name.ensures.value in
    let first : subjects_of named ≡ name =
    c.in_ok-push_name.ensures fs files
    ∙ ap (λ rs. subjects_of rs ++ name_subjects c.as_str-name.result.now fs) c.new-reports.ensures.items
    ∙ ap (λ p. name_subjects p fs) path in
    let second : subjects_of c.push_fault.new.reports.items ≡ name ++ load =
    c.in_ok-push_fault.ensures ∙ ap (λ p. subjects_of named ++ load_subjects p fault values) path ∙ ap (λ ss. ss ++ load) first in
    c.in_ok-push_at_keys.ensures fs is_open permissions ∙ ap (λ ss. ss ++ keys) second ∙ append_assoc name load keys
