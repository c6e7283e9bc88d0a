use Rattle.std.proofs.Common.{◌≡◌, ℕ, List, map, option_map, string_bytes, ap, ◌∙◌, subst}
use Rattle.cc2_base.specs.Walked.{walked}
use Rattle.cc2_base.proofs.Telling.{tells}
use Rattle.cc2_de.specs.LoadFrom.{IsLoadOf}
use Rattle.cc2_de.proofs.load.load_over.Goals as goal

pub returns : goal.returns
returns g c fs told =
    let asked = tells (ap g.F.Files.told c.with_cargo_home.ensures.files) fs told in
    let all : map string_bytes c.as_slice.result.now ≡ walked fs c.args.cwd.now (option_map string_bytes c.args.home) =
    ap (map string_bytes) c.as_slice.ensures.value ∙ c.in_ok-paths.ensures.ok fs asked ∙
    c.with_cargo_home.ensures.left fs in
    subst (λ (paths : List (List ℕ)). IsLoadOf fs paths c.load_paths.result) all (c.load_paths.ensures fs told)
