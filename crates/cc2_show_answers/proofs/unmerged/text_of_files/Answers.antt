use Rattle.std.proofs.Common.{◌≡◌, ◌⊎◌, Some, List, ℕ, [], ◌∷◌, ◌++◌, map, option_map, string_bytes, Result, String, Global, sym, ap, subst, ◌∙◌, append_assoc}
use Rattle.std.proofs.lemmas.List.{append-nil, map-append}
use Rattle.cc2_error.specs.Causes.{refusal_of}
use Rattle.cc2_error.specs.Outcomes.{IsWantOfMemory}
use Rattle.cc2_error.specs.declared.error.Error.{Error}
use Rattle.cc2_error.proofs.Refused.{err_exit}
use Rattle.cc2_base.specs.Walked.{left, files_of, walked, GivesNext}
use Rattle.cc2_base.proofs.Telling.{kept_on, tells}
use Rattle.cc2_de.specs.Config.{config_at}
use Rattle.cc2_de.specs.ConfigFile.{IsConfig, IsFileCause, file_at}
use Rattle.cc2_value.specs.Cells.{KeyPath}
use Rattle.cc2_cli.specs.ShowTasks.{request_view}
use Rattle.cc2_show_answers.specs.Sources.{Source, IsCauseAmong, file}
use Rattle.cc2_show_answers.specs.Unmerged.{AreBlocks, IsBlock}
use Rattle.cc2_show_answers.proofs.Blocks.{both, one, or_file}
use Rattle.cc2_show_answers.proofs.unmerged.text_of_files.Goals as goal

pub loop-path-preserved : goal.loop-path-preserved
loop-path-preserved g c =
    let walk = c.loop-path.path-iterator in
    let rest = c.next.new.self in
    let request = request_view c.args.request in
    let pieces = map (λ p. p.now) c.args.pieces.now in
    let path = string_bytes c.in_ok-path.path in record {
      told = kept_on _ _ _ c.loop-path.invariant.told c.next.ensures.steps.0;
      so_far = λ fs told.
          let asked = (c.loop-path.invariant.told fs).0 told in
          let (done, split, blocks) = c.loop-path.invariant.so_far fs told in
          let given : GivesNext (left walk fs) (Some c.in-Some.path) (left rest fs) = c.in-Some.ensures.steps.1 fs asked in
          let next : left walk fs ≡ path ∷ left rest fs =
          subst (λ (r : Result (String Global) Error). GivesNext (left walk fs) (Some r) (left rest fs)) c.in_ok-path.was given in
          let files = tells (sym (ap (λ w. g.F.Files.told (files_of w)) c.into_iter-path-iterator.ensures.into_iter_gives
          ∙ ap g.F.Files.told c.with_cargo_home-path-items.ensures.files)) fs told in
          let config = c.in_ok-config.config in
          let of_file = subst (λ (p : List ℕ). IsConfig fs p × ((q : KeyPath) → config_at config q ≡ file_at fs p q)) c.as_str.ensures.value (c.in_ok-config.ensures.ok fs files) in
          let block = subst (λ (p : List ℕ). IsBlock request pieces (file p) (config_at config) c.in_ok-below.below.items) c.as_str-in-loop-path.ensures.value c.in_ok-below.ensures in (
            done ++ path ∷ [],
            append_assoc done (path ∷ []) (left rest fs) ∙ ap (λ ps. done ++ ps) (sym next) ∙ split,
            λ machine os.
                subst (λ (ss : List Source). AreBlocks fs machine os request pieces ss c.append.new.self.items) (sym (map-append file done (path ∷ [])))
                (subst (λ (text : List ℕ). AreBlocks fs machine os request pieces (map file done ++ file path ∷ []) text) (sym c.in_ok-append.ensures.items)
                (both fs machine os request pieces (map file done) (file path ∷ []) c.loop-path.text.items c.in_ok-below.below.items (blocks machine os)
                (one fs machine os request pieces (file path) c.in_ok-below.below.items (config_at config, of_file, block)))),
          );
    }

pub returns-in_err-config-clause-refused : goal.returns-in_err-config-clause-refused
returns-in_err-config-clause-refused g c machine os fs files =
    let walk = c.loop-path.path-iterator in
    let rest = c.next.new.self in
    let dir = c.args.request.dir.now in
    let path = string_bytes c.in_ok-path.path in
    let paths = walked fs dir (option_map string_bytes c.args.home) in
    let told = tells (ap (λ w. g.F.Files.told (files_of w)) c.into_iter-path-iterator.ensures.into_iter_gives
    ∙ ap g.F.Files.told c.with_cargo_home-path-items.ensures.files) fs files in
    let (done, split, blocks) = c.loop-path.invariant.so_far fs told in
    let given : GivesNext (left walk fs) (Some c.in-Some.path) (left rest fs) = c.in-Some.ensures.steps.1 fs ((c.loop-path.invariant.told fs).0 told) in
    let next : left walk fs ≡ path ∷ left rest fs =
    subst (λ (r : Result (String Global) Error). GivesNext (left walk fs) (Some r) (left rest fs)) c.in_ok-path.was given in
    let all : done ++ path ∷ left rest fs ≡ paths =
    ap (λ ps. done ++ ps) (sym next) ∙ split ∙ ap (λ w. left w fs) c.into_iter-path-iterator.ensures.into_iter_gives
    ∙ c.with_cargo_home-path-items.ensures.left fs in
    let cause = subst (λ (p : List ℕ). IsWantOfMemory c.in_err-config.field-0.0 ⊎ IsFileCause fs p (refusal_of c.in_err-config.field-0.0)) c.as_str.ensures.value
    (c.in_err-config.ensures.refused fs files) in
    err_exit c.from_residual-in_err-config.result (λ e. IsWantOfMemory e ⊎ IsCauseAmong fs machine dir os (map file paths) (refusal_of e)) c.in_err-config.field-0.0
    c.from_residual-in_err-config.ensures.1
    (subst (λ (ps : List (List ℕ)). IsWantOfMemory c.in_err-config.field-0.0 ⊎ IsCauseAmong fs machine dir os (map file ps) (refusal_of c.in_err-config.field-0.0)) all
    (or_file fs machine dir os done path (left rest fs) c.in_err-config.field-0.0 cause))

pub returns-clause-ok : goal.returns-clause-ok
returns-clause-ok g c machine os fs files =
    let walk = c.loop-path.path-iterator in
    let request = request_view c.args.request in
    let pieces = map (λ p. p.now) c.args.pieces.now in
    let told = tells (ap (λ w. g.F.Files.told (files_of w)) c.into_iter-path-iterator.ensures.into_iter_gives
    ∙ ap g.F.Files.told c.with_cargo_home-path-items.ensures.files) fs files in
    let (done, split, blocks) = c.loop-path.invariant.so_far fs told in
    let ended = c.in-None.ensures.steps.1 fs ((c.loop-path.invariant.told fs).0 told) in
    let all = sym (append-nil done) ∙ ap (λ ps. done ++ ps) (sym ended.0) ∙ split
    ∙ ap (λ w. left w fs) c.into_iter-path-iterator.ensures.into_iter_gives
    ∙ c.with_cargo_home-path-items.ensures.left fs in
    subst (λ (ps : List (List ℕ)). AreBlocks fs machine os request pieces (map file ps) c.loop-path.text.items) all (blocks machine os)
