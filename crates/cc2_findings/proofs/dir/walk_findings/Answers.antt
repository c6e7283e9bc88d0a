use Rattle.std.proofs.Common.{◌≡◌, Some, List, [], ◌∷◌, ◌++◌, map, string_bytes, All, Result, String, Global, sym, ap, subst, ◌∙◌, append_assoc}
use Rattle.std.proofs.lemmas.List.{append-nil, map-append}
use Rattle.std.proofs.lemmas.List.Elements.{All-push}
use Rattle.cc2_error.specs.declared.error.Error.{Error}
use Rattle.cc2_base.specs.Walked.{left, files_of, GivesNext}
use Rattle.cc2_base.proofs.Telling.{kept_on, tells}
use Rattle.cc2_findings.specs.declared.dir.LintedFile.{LintedFile}
use Rattle.cc2_findings.specs.Dirs.{path_of, IsOfFile}
use Rattle.cc2_findings.proofs.dir.walk_findings.Goals as goal

pub loop-path-preserved : goal.loop-path-preserved
loop-path-preserved g c =
    let walk = c.loop-path.path-iterator in
    let rest = c.next.new.self in
    let items = c.loop-path.linted.items in
    let file = c.in_ok-file.file in
    let pushed : c.push.new.self.items ≡ items ++ file ∷ [] = c.in_ok-push.ensures.items in record {
      told = kept_on _ _ _ c.loop-path.invariant.told c.next.ensures.steps.0;
      so_far = λ fs told.
          let asked = (c.loop-path.invariant.told fs).0 told in
          let given : GivesNext (left walk fs) (Some c.in-Some.path) (left rest fs) = c.in-Some.ensures.steps.1 fs asked in
          let next : left walk fs ≡ string_bytes c.in_ok-path.field-0 ∷ left rest fs =
          subst (λ (r : Result (String Global) Error). GivesNext (left walk fs) (Some r) (left rest fs)) c.in_ok-path.was given in
          let files = tells (sym (ap (λ w. g.F.Files.told (files_of w)) c.into_iter-path-iterator.ensures.into_iter_gives
          ∙ ap g.F.Files.told c.with_cargo_home-path-items.ensures.files)) fs told in
          let named : path_of file ≡ string_bytes c.in_ok-path.field-0 = (c.in_ok-file.ensures fs files).0 in
          ap (λ (xs : List LintedFile). map path_of xs ++ left rest fs) pushed
          ∙ ap (λ ps. ps ++ left rest fs) (map-append path_of items (file ∷ []))
          ∙ append_assoc (map path_of items) (path_of file ∷ []) (left rest fs)
          ∙ ap (λ ps. map path_of items ++ ps) (ap (λ k. k ∷ left rest fs) named ∙ sym next)
          ∙ c.loop-path.invariant.so_far fs told;
      each = λ fs told.
          let files = tells (sym (ap (λ w. g.F.Files.told (files_of w)) c.into_iter-path-iterator.ensures.into_iter_gives
          ∙ ap g.F.Files.told c.with_cargo_home-path-items.ensures.files)) fs told in
          subst (λ (xs : List LintedFile). All (IsOfFile fs) xs) (sym pushed)
          (All-push (IsOfFile fs) items file (c.loop-path.invariant.each fs told) (c.in_ok-file.ensures fs files).1);
    }

pub returns-clause-ok : goal.returns-clause-ok
returns-clause-ok g c fs files =
    let walk = c.loop-path.path-iterator in
    let items = c.loop-path.linted.items in
    let told = tells (ap (λ w. g.F.Files.told (files_of w)) c.into_iter-path-iterator.ensures.into_iter_gives
    ∙ ap g.F.Files.told c.with_cargo_home-path-items.ensures.files) fs files in
    let ended = c.in-None.ensures.steps.1 fs ((c.loop-path.invariant.told fs).0 told) in record {
      walked_is =
          sym (append-nil (map path_of items)) ∙ ap (λ ps. map path_of items ++ ps) (sym ended.0)
          ∙ c.loop-path.invariant.so_far fs told
          ∙ ap (λ w. left w fs) c.into_iter-path-iterator.ensures.into_iter_gives
          ∙ c.with_cargo_home-path-items.ensures.left fs;
      each = c.loop-path.invariant.each fs told;
    }
