-- Enums that are spelled: the values of each, the text of a value, and the line that says the texts.
use Rattle.std.specs.Prelude.{◌≡◌, ℕ, Bool, List, [], ◌∷◌, codes}
use Rattle.std.specs.List.{list_any}
use Rattle.std.specs.Str.{bytes_eq}
use Rattle.cc2_error.specs.Causes.{refusal_of, plain, bad_spelling}
use Rattle.cc2_error.specs.declared.error.Error.{Error}
use Rattle.cc2_value.specs.declared.color.Color.{Color}
use Rattle.cc2_value.specs.declared.color.Color.TheVariants as color
use Rattle.cc2_value.specs.declared.when.When.{When}
use Rattle.cc2_value.specs.declared.when.When.TheVariants as when
use Rattle.cc2_value.specs.declared.frequency.Frequency.{Frequency}
use Rattle.cc2_value.specs.declared.frequency.Frequency.TheVariants as frequency
use Rattle.cc2_value.specs.declared.registries_protocol.RegistriesProtocol.{RegistriesProtocol}
use Rattle.cc2_value.specs.declared.registries_protocol.RegistriesProtocol.TheVariants as protocol
use Rattle.cc2_value.specs.declared.version_control_software.VersionControlSoftware.{VersionControlSoftware}
use Rattle.cc2_value.specs.declared.version_control_software.VersionControlSoftware.TheVariants as vcs

-- the text is one of these
abbrev pub is_spelling : List (List ℕ) → List ℕ → Bool
is_spelling texts text = list_any (bytes_eq text) texts

-- the error says the line of the texts, and the text spells no value
abbrev pub IsMisspelled : {E : Type 0} → (E → List ℕ) → List ℕ → List ℕ → Error → Type 0
IsMisspelled {E} spelling must text err = (refusal_of err ≡ plain (bad_spelling must)) × ((e : E) → spelling e ≡ text → ⊥)

abbrev pub color_spelling : Color → List ℕ
color_spelling color.Auto = codes "auto"
color_spelling color.Always = codes "always"
color_spelling color.Never = codes "never"

abbrev pub colors : List Color
colors = color.Auto ∷ color.Always ∷ color.Never ∷ []

abbrev pub color_must : List ℕ
color_must = codes "must be auto, always, or never"

abbrev pub when_spelling : When → List ℕ
when_spelling when.Auto = codes "auto"
when_spelling when.Always = codes "always"
when_spelling when.Never = codes "never"

abbrev pub whens : List When
whens = when.Auto ∷ when.Always ∷ when.Never ∷ []

abbrev pub when_must : List ℕ
when_must = codes "must be auto, always, or never"

abbrev pub frequency_spelling : Frequency → List ℕ
frequency_spelling frequency.Always = codes "always"
frequency_spelling frequency.Never = codes "never"

abbrev pub frequencies : List Frequency
frequencies = frequency.Always ∷ frequency.Never ∷ []

abbrev pub frequency_must : List ℕ
frequency_must = codes "must be always or never"

abbrev pub protocol_spelling : RegistriesProtocol → List ℕ
protocol_spelling protocol.Git = codes "git"
protocol_spelling protocol.Sparse = codes "sparse"

abbrev pub protocols : List RegistriesProtocol
protocols = protocol.Git ∷ protocol.Sparse ∷ []

abbrev pub protocol_must : List ℕ
protocol_must = codes "must be git or sparse"

abbrev pub vcs_spelling : VersionControlSoftware → List ℕ
vcs_spelling vcs.Git = codes "git"
vcs_spelling vcs.Mercurial = codes "hg"
vcs_spelling vcs.Pijul = codes "pijul"
vcs_spelling vcs.Fossil = codes "fossil"
vcs_spelling vcs.None = codes "none"

abbrev pub all_vcs : List VersionControlSoftware
all_vcs = vcs.Git ∷ vcs.Mercurial ∷ vcs.Pijul ∷ vcs.Fossil ∷ vcs.None ∷ []

abbrev pub vcs_must : List ℕ
vcs_must = codes "must be git, hg, pijul, fossil, none"
