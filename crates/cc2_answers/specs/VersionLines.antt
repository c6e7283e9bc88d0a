-- How a version is printed.
use Rattle.std.specs.Prelude.{ℕ, List, [], ◌++◌, codes, Option, Some, None}
use Rattle.std.specs.Fmt.{decimal}
use Rattle.cc2_cli.specs.Lines.{truth_text}
use Rattle.cc2_rustc.specs.Versions.{Version}

-- the line of a part
abbrev pub part_line : List ℕ → List ℕ → List ℕ → List ℕ
part_line key part value = key ++ (codes "." ++ (part ++ (codes " = " ++ (value ++ codes "\n"))))

-- that of the patch version, where it is printed
abbrev pub patch_line : List ℕ → Option ℕ → List ℕ
patch_line key None = []
patch_line key (Some patch) = part_line key (codes "patch") (decimal patch)

-- a line for each part
abbrev pub version_lines : List ℕ → Version → List ℕ
version_lines key v =
    part_line key (codes "major") (decimal v.major)
    ++ (part_line key (codes "minor") (decimal v.minor)
    ++ (patch_line key v.patch ++ part_line key (codes "nightly") (truth_text v.nightly)))

abbrev pub rustc_version_lines : Version → List ℕ
rustc_version_lines v = version_lines (codes "rustc-version") v

abbrev pub cargo_version_lines : Version → List ℕ
cargo_version_lines v = version_lines (codes "cargo-version") v
