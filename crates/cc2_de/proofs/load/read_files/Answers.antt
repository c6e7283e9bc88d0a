use Rattle.std.proofs.Common.{◌≡◌, ◌+◌, ◌++◌, [], ◌∷◌, Some, map, take, drop, string_bytes, sym, ap, subst, ◌∙◌, arith}
use Rattle.std.proofs.lemmas.Grind.{common_steps}
use Rattle.std.proofs.lemmas.List.{take-append-drop, map-append}
use Rattle.cc2_error.proofs.Refused.{err_exit}
use Rattle.cc2_de.specs.LoadedFiles.{AreOfFiles}
use Rattle.cc2_de.proofs.Loads.{file_more, file_refused}
use Rattle.cc2_de.proofs.load.read_files.Goals as goal

pub returns-in_err-read_next-clause-refused : goal.returns-in_err-read_next-clause-refused
returns-in_err-read_next-clause-refused g c fs told =
    let paths = c.args.paths.now in
    let at = c.loop-path.path-index in
    let next : map string_bytes (drop at paths) ≡ c.as_str.result.now ∷ map string_bytes (drop (at + 1) paths) = grind (arith, common_steps) in
    let split : map string_bytes paths ≡ map string_bytes (take at paths) ++ c.as_str.result.now ∷ map string_bytes (drop (at + 1) paths) =
    ap (map string_bytes) (sym (take-append-drop at paths)) ∙ map-append string_bytes (take at paths) (drop at paths)
    ∙ ap (λ ps. map string_bytes (take at paths) ++ ps) next in
    err_exit c.from_residual-in_err-read_next.result _ _ c.from_residual-in_err-read_next.ensures.1
    (file_refused fs (map string_bytes paths) (map string_bytes (take at paths)) (map string_bytes (drop (at + 1) paths))
    c.as_str.result.now _ split (c.in_err-read_next.ensures.refused fs told))

pub loop-path-preserved : goal.loop-path-preserved
loop-path-preserved g c =
    let paths = c.args.paths.now in
    let at = c.loop-path.path-index in
    let so_far = c.loop-path.invariant in record {
      counted = c.in_ok-read_next.ensures.counted ∙ ap (λ n. n + 1) so_far.counted;
      read = λ fs told.
          let (configs, all, read) = so_far.read fs told in
          let (config, pushed, of_file) = c.in_ok-read_next.ensures.ok fs told in
          let more : map string_bytes (take (at + 1) paths) ≡ map string_bytes (take at paths) ++ c.as_str.result.now ∷ [] = grind (arith, common_steps) in (
            configs ++ config ∷ [],
            pushed ∙ ap (λ list. list ++ Some config ∷ []) all ∙ sym (map-append Some configs (config ∷ [])),
            subst (λ ps. AreOfFiles fs ps (configs ++ config ∷ [])) (sym more)
                (file_more fs (map string_bytes (take at paths)) c.as_str.result.now configs config read of_file),
          );
    }
