use Rattle.std.proofs.Common.{map, option_map, string_bytes, sym, ap, ◌∙◌, subst}
use Rattle.cc2_base.specs.Homes.{cargo_home_of}
use Rattle.cc2_base.specs.Walked.{walked}
use Rattle.cc2_cargo.specs.Raw.{raw_members_at}
use Rattle.cc2_error.specs.Causes.{refusal_of}
use Rattle.cargo_rules.proofs.Loading.{error_of, map_of, none_of}
use Rattle.cargo_rules.proofs.load.load_from.Goals as goal

pub returns-in-Ok : goal.returns-in-Ok
returns-in-Ok g c fs told reals real =
    let dir = c.args.dir.now in
    let found = cargo_home_of dir c.args.machine.now in
    let home = option_map string_bytes c.in_ok-home.home in
    let at_walk = subst (λ files. g.F.Files.told files fs) (sym c.with_cargo_home.ensures.files) told in
    let are = ap (map string_bytes) c.as_slice.ensures.value ∙ c.in_ok-paths.ensures.ok fs at_walk ∙ c.with_cargo_home.ensures.left fs
    ∙ ap (walked fs dir) (c.in_ok-beside.ensures reals real) in (
      map_of fs reals dir (map string_bytes c.as_slice.result.now) found home c.in_ok-home.ensures are (raw_members_at c.in-Ok.settings)
          (c.in-Ok.ensures.ok fs told),
      none_of fs reals dir (map string_bytes c.as_slice.result.now) found home c.in_ok-home.ensures are (c.in-Ok.ensures.exact fs told),
    )

pub returns : goal.returns
returns g c fs told reals real =
    let dir = c.args.dir.now in
    let found = cargo_home_of dir c.args.machine.now in
    let home = option_map string_bytes c.in_ok-home.home in
    let at_walk = subst (λ files. g.F.Files.told files fs) (sym c.with_cargo_home.ensures.files) told in
    let are = ap (map string_bytes) c.as_slice.ensures.value ∙ c.in_ok-paths.ensures.ok fs at_walk ∙ c.with_cargo_home.ensures.left fs
    ∙ ap (walked fs dir) (c.in_ok-beside.ensures reals real) in
    error_of fs reals dir (map string_bytes c.as_slice.result.now) found home c.in_ok-home.ensures are c.in-Err.fault (refusal_of c.error_of.result)
    (c.in-Err.ensures.refused fs told) c.error_of.ensures
