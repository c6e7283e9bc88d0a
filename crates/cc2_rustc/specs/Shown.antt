-- What the structs show.
use Rattle.std.specs.Prelude.{Some}
use Rattle.cc2_rustc.specs.Versions.{Version}
use Rattle.cc2_rustc.specs.declared.version.RustcVersion.{RustcVersion}
use Rattle.cc2_rustc.specs.declared.version.CargoVersion.{CargoVersion}
use Rattle.cc2_rustc.specs.declared.release.Release.{Release}

abbrev pub of_release : Release → Version
of_release v = record { major = v.major; minor = v.minor; patch = v.patch; nightly = v.nightly }

abbrev pub of_rustc : RustcVersion → Version
of_rustc v = record { major = v.major; minor = v.minor; patch = v.patch; nightly = v.nightly }

abbrev pub of_cargo : CargoVersion → Version
of_cargo v = record { major = v.major; minor = v.minor; patch = Some v.patch; nightly = v.nightly }
