-- What is wrong at a key of a file.
-- Cargo Reference, Configuration, configuration format, and Source Replacement.
use Rattle.std.specs.Prelude.{ℕ, zero, ℤ, pos, Bool, true, false, not, ◌&&◌, ◌||◌, ◌==◌, eqb, length, List, [], ◌∷◌, codes, Option, Some, None, if◌then◌else◌}
use Rattle.std.specs.List.{list_any, ends_with}
use Rattle.std.specs.Option.{is_some}
use Rattle.std.specs.Str.{bytes_eq}
use Rattle.toml.specs.Data.{Data, Items, no_items, item, Members, get_member, as_table, as_array, as_integer, as_bool, as_str}
use Rattle.cc2_rustc.specs.Keys.{is_cfg}
use Rattle.cc2_findings.specs.declared.place.Place.{Place}
use Rattle.cc2_findings.specs.declared.place.Place.TheVariants as at
use Rattle.cc2_findings.specs.declared.kind.Kind.{Kind}
use Rattle.cc2_findings.specs.declared.kind.Kind.TheVariants as kind
use Rattle.cc2_findings.specs.Places.{is_among, is_cargo_only, cargo_keys_at, below, cargo_below}
use Rattle.cc2_findings.specs.Templates.{has_stray_brace}

-- `.`
abbrev pub is_dot : ℕ → Bool
is_dot b = b == 46

abbrev pub is_table : Data → Bool
is_table d = is_some (as_table d)

-- the commands of Cargo 1.95: data, of which nothing is proved
abbrev pub commands : List (List ℕ)
commands =
    codes "add" ∷ codes "bench" ∷ codes "build" ∷ codes "check" ∷ codes "clean" ∷ codes "config" ∷ codes "doc" ∷
    codes "fetch" ∷ codes "fix" ∷ codes "generate-lockfile" ∷ codes "git-checkout" ∷ codes "help" ∷ codes "info" ∷
    codes "init" ∷ codes "install" ∷ codes "locate-project" ∷ codes "login" ∷ codes "logout" ∷ codes "metadata" ∷
    codes "new" ∷ codes "owner" ∷ codes "package" ∷ codes "pkgid" ∷ codes "publish" ∷ codes "read-manifest" ∷
    codes "remove" ∷ codes "report" ∷ codes "run" ∷ codes "rustc" ∷ codes "rustdoc" ∷ codes "search" ∷ codes "test" ∷
    codes "tree" ∷ codes "uninstall" ∷ codes "update" ∷ codes "vendor" ∷ codes "verify-project" ∷ codes "version" ∷
    codes "yank" ∷ []

abbrev pub is_command : List ℕ → Bool
is_command name = is_among commands name

abbrev pub is_zero_number : Option ℤ → Bool
is_zero_number (Some (pos zero)) = true
is_zero_number _ = false

abbrev pub is_zero : Data → Bool
is_zero d = is_zero_number (as_integer d)

abbrev pub has_member : List ℕ → Members → Bool
has_member key ms = is_some (get_member key ms)

-- it says a folder to look in
abbrev pub has_directory : Members → Bool
has_directory ms = has_member (codes "local-registry") ms || has_member (codes "directory") ms

-- a table without a key that says where to look
abbrev pub says_nowhere : Option Members → Bool
says_nowhere None = false
says_nowhere (Some ms) = not ((has_member (codes "registry") ms || has_directory ms) || has_member (codes "git") ms)

abbrev pub lacks_location : Data → Bool
lacks_location d = says_nowhere (as_table d)

-- two of the four keys that say where to look
abbrev pub are_locations : Members → Bool
are_locations ms =
    ((has_member (codes "registry") ms && ((has_member (codes "git") ms || has_member (codes "local-registry") ms) || has_member (codes "directory") ms))
    || (has_member (codes "git") ms && (has_member (codes "local-registry") ms || has_member (codes "directory") ms)))
    || (has_member (codes "local-registry") ms && has_member (codes "directory") ms)

abbrev pub says_twice : Option Members → Bool
says_twice None = false
says_twice (Some ms) = are_locations ms

abbrev pub has_locations : Data → Bool
has_locations d = says_twice (as_table d)

abbrev pub is_empty_string : Option (List ℕ) → Bool
is_empty_string None = false
is_empty_string (Some text) = length text == 0

-- a text without characters
abbrev pub is_empty_text : Data → Bool
is_empty_text d = is_empty_string (as_str d)

abbrev pub has_stray : Option (List ℕ) → Bool
has_stray None = false
has_stray (Some text) = has_stray_brace text

-- a text with a brace outside of Cargo's variables
abbrev pub is_bad_template : Data → Bool
is_bad_template d = has_stray (as_str d)

abbrev pub ends_in_json : List ℕ → Bool
ends_in_json text = ends_with eqb text (codes ".json")

abbrev pub is_file_name : Option (List ℕ) → Bool
is_file_name None = false
is_file_name (Some text) = ends_in_json text

-- the name of a target's file
abbrev pub is_target_file : Data → Bool
is_target_file d = is_file_name (as_str d)

abbrev pub has_target_file : Items → Bool
has_target_file no_items = false
has_target_file (item d ds) = is_target_file d || has_target_file ds

abbrev pub have_target_file : Option Items → Bool
have_target_file None = false
have_target_file (Some ds) = has_target_file ds

-- an array with the name of a target's file
abbrev pub holds_target_file : Data → Bool
holds_target_file d = have_target_file (as_array d)

-- the name of a target's file, or an array with one
abbrev pub names_target_file : Data → Bool
names_target_file d = is_target_file d || holds_target_file d

abbrev pub is_true_value : Option Bool → Bool
is_true_value None = false
is_true_value (Some b) = b

-- the value is there and true
abbrev pub is_true : Option Data → Bool
is_true None = false
is_true (Some d) = is_true_value (as_bool d)

abbrev pub are_both : Option Members → Bool
are_both None = false
are_both (Some ms) = is_true (get_member (codes "quiet") ms) && is_true (get_member (codes "verbose") ms)

-- a table in which `quiet` and `verbose` are true
abbrev pub is_quiet_and_verbose : Data → Bool
is_quiet_and_verbose d = are_both (as_table d)

abbrev pub some_has : Option Members → List ℕ → Bool
some_has None key = false
some_has (Some ms) key = has_member key ms

-- a table with this key
abbrev pub table_has : Data → List ℕ → Bool
table_has d key = some_has (as_table d) key

-- a key of `[target]` is a triple with dots: TOML has them in one key only between quotes
abbrev pub is_quoted_triple : List ℕ → Bool
is_quoted_triple key = list_any is_dot key && not (is_cfg key)

-- a tab, a line feed, a carriage return, a quote
abbrev pub is_tab : ℕ → Bool
is_tab b = b == 9

abbrev pub is_feed : ℕ → Bool
is_feed b = b == 10

abbrev pub is_return : ℕ → Bool
is_return b = b == 13

abbrev pub is_quote : ℕ → Bool
is_quote b = b == 34

-- a key without quotes has white space other than spaces
abbrev pub has_other_space : List ℕ → Bool
has_other_space key = ((list_any is_tab key || list_any is_feed key) || list_any is_return key) && not (list_any is_quote key)

-- Cargo 1.95 refuses the key
abbrev pub is_removed : Place → List ℕ → Bool
is_removed at.Registry key = bytes_eq key (codes "index")
is_removed _ key = false

-- an include that is a string
abbrev pub is_text_include : Place → List ℕ → Data → Bool
is_text_include at.Config key d = bytes_eq key (codes "include") && is_some (as_str d)
is_text_include _ key d = false

-- of a key that this library doesn't read
abbrev pub unread_kind : Place → List ℕ → Data → Kind
unread_kind place key d =
    if is_removed place key then kind.RemovedKey
    else if is_text_include place key d then kind.TextInclude
    else if is_among (cargo_keys_at place) key then kind.CargoOnly
    else kind.UnknownKey

-- at a key of `build`
abbrev pub build_kind : List ℕ → Data → Option Kind
build_kind key d =
    if bytes_eq key (codes "jobs") && is_zero d then Some kind.ZeroJobs
    else if (bytes_eq key (codes "target-dir") || bytes_eq key (codes "build-dir")) && is_empty_text d then Some kind.EmptyDirectory
    else if bytes_eq key (codes "build-dir") && is_bad_template d then Some kind.BadTemplate
    else if (bytes_eq key (codes "rustc-wrapper") || bytes_eq key (codes "rustc-workspace-wrapper")) && is_empty_text d then Some kind.EmptyWrapper
    else if bytes_eq key (codes "target") && names_target_file d then Some kind.JsonTarget
    else None

-- at a source
abbrev pub source_kind : List ℕ → Data → Option Kind
source_kind key d =
    if not (bytes_eq key (codes "crates-io")) && lacks_location d then Some kind.NoLocation
    else if has_locations d then Some kind.ManyLocations
    else None

-- at a key of `target`
abbrev pub target_kind : List ℕ → Data → Option Kind
target_kind key d =
    if is_quoted_triple key then Some kind.QuotedTriple
    else if is_cfg key && has_other_space key then Some kind.OtherSpace
    else if is_cfg key && table_has d (codes "rustdocflags") then Some kind.IgnoredDocFlags
    else None

-- at a key that it reads
abbrev pub known_kind : Place → List ℕ → Data → Option Kind
known_kind at.Config key d = if bytes_eq key (codes "term") && is_quiet_and_verbose d then Some kind.QuietAndVerbose else None
known_kind at.Aliases key d = if is_command key then Some kind.HiddenAlias else None
known_kind at.Build key d = build_kind key d
known_kind at.NamedRegistry key d = if bytes_eq key (codes "token") then Some kind.Token else None
known_kind at.Registry key d = if bytes_eq key (codes "token") then Some kind.Token else None
known_kind at.Sources key d = source_kind key d
known_kind at.Targets key d = target_kind key d
known_kind _ key d = None

abbrev pub kind_by : Option Place → Kind → Option Kind → Option Kind
kind_by None unread known = Some unread
kind_by (Some place) unread known = known

-- at a key of a table that Cargo alone reads: nothing where the key is known
abbrev pub cargo_kind : Place → List ℕ → Option Kind
cargo_kind place key =
    if is_some (cargo_below place key) || is_among (cargo_keys_at place) key then None else Some kind.UnknownKey

-- what is wrong at a key of a table at this place
abbrev pub kind_at : Place → List ℕ → Data → Option Kind
kind_at place key d =
    if is_cargo_only place then cargo_kind place key
    else kind_by (below place key (is_table d)) (unread_kind place key d) (known_kind place key d)
