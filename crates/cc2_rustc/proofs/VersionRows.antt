-- Worked rows of what programs say of their versions, computed on the definitions.
use Rattle.std.proofs.Common.{◌≡◌, ℕ, true, false, List, codes, Some, None, refl}
use Rattle.cc2_rustc.specs.LineEnds.{without_line_ends}
use Rattle.cc2_rustc.specs.Versions.{release, rustc_version_in, cargo_version_in, host_in}

-- what a nightly cargo says
nightly : List ℕ
nightly = codes "cargo 1.70.0\nrelease: 1.70.0-nightly\nhost: h\nhost: i"

row-nightly : cargo_version_in nightly ≡ Some (record { major = 1; minor = 70; patch = Some 0; nightly = true })
unfolding nightly
row-nightly = refl

row-first-host : host_in nightly ≡ Some (codes "h")
unfolding nightly
row-first-host = refl

row-empty-host : host_in (codes "host: \nhost: h") ≡ Some (codes "")
row-empty-host = refl

row-stable : rustc_version_in true nightly ≡ Some (record { major = 1; minor = 70; patch = Some 0; nightly = false })
unfolding nightly
row-stable = refl

row-short : rustc_version_in false (codes "release: 1.70") ≡ Some (record { major = 1; minor = 70; patch = None; nightly = false })
row-short = refl

row-short-cargo : cargo_version_in (codes "release: 1.70") ≡ None
row-short-cargo = refl

row-one-number : release (codes "1") ≡ None
row-one-number = refl

row-four-numbers : release (codes "1.2.3.4") ≡ None
row-four-numbers = refl

row-other-channel : release (codes "1.2.3-beta.1") ≡ Some (record { major = 1; minor = 2; patch = Some 3; nightly = false })
row-other-channel = refl

row-source : release (codes "1.2.3-dev") ≡ Some (record { major = 1; minor = 2; patch = Some 3; nightly = true })
row-source = refl

row-too-large : release (codes "1.4294967296.0") ≡ None
row-too-large = refl

row-line-ends : without_line_ends (codes "a\nb\n\n") ≡ codes "a\nb"
row-line-ends = refl
