-- Which environment variables set which setting, by rank, and how each is read.
-- Cargo Reference, Configuration, environment variables.
use Rattle.std.specs.Prelude.{ℕ, true, false, if◌then◌else◌, List, [], ◌∷◌, ◌++◌, map, codes, Option, Some, None}
use Rattle.std.specs.Str.{bytes_eq}
use Rattle.cc2_value.specs.Cells.{truth, word}
use Rattle.cc2_value.specs.Ways.{read_at, plain_cell}
use Rattle.cc2_leaf.specs.TextWays.{TextWay, int32_text_way, uint32_text_way, truth_text_way, any_text_way, whole_text_way, spaced_text_way, encoded_text_way, command_text_way}
use Rattle.cc2_leaf.specs.TextWays.{provider_text_way, providers_text_way, color_text_way, protocol_text_way, when_text_way, frequency_text_way, vcs_text_way}
use Rattle.cc2_env.specs.Ranked.{Named, Ranking, Row, MemberRow, unset, by, by_field, rows_of, by_member, by_name, where_absent}

-- a text; the empty one removes what was there
abbrev pub filled : List ℕ → Option (List ℕ)
filled [] = None
filled (b ∷ text) = Some (b ∷ text)

-- the same of what has the text
abbrev pub if_filled : {A : Type 0} → List ℕ → A → Option A
if_filled [] a = None
if_filled (b ∷ text) a = Some a

abbrev pub wrapper_text_way : TextWay
wrapper_text_way = record {
  cells = λ origin text p. read_at (plain_cell word origin) (filled text) p;
  faults = λ text. [];
}

-- any text, and true for `1` alone
abbrev pub one_text_way : TextWay
one_text_way = record {
  cells = λ origin text p. read_at (plain_cell truth origin) (Some (bytes_eq text (codes "1"))) p;
  faults = λ text. [];
}

abbrev pub variable_by : List ℕ → TextWay → Named
variable_by n way = record { name = n; way = way; has_line = true }

-- these variables, all read in one way
abbrev pub named_by : TextWay → List (List ℕ) → List Named
named_by way names = map (λ n. variable_by n way) names

abbrev pub all_by : TextWay → List (List ℕ) → Ranking
all_by way names = by (named_by way names)

abbrev pub one_by : TextWay → List ℕ → Ranking
one_by way n = by (variable_by n way ∷ [])

-- flags: a variable that is split at U+001F, then those that are split at spaces
abbrev pub flags_rank : List ℕ → List (List ℕ) → Ranking
flags_rank encoded names = by (variable_by encoded encoded_text_way ∷ named_by spaced_text_way names)

abbrev pub incremental_rank : Ranking
incremental_rank =
    by (variable_by (codes "CARGO_INCREMENTAL") one_text_way
    ∷ (variable_by (codes "CARGO_BUILD_INCREMENTAL") truth_text_way ∷ []))

-- a map: the variable whose name is this and a key sets the key
abbrev pub names_rank : TextWay → List ℕ → Ranking
names_rank way prefix = by_name (λ n. one_by way (prefix ++ n))

abbrev pub alias_rank : Ranking
alias_rank = names_rank spaced_text_way (codes "CARGO_ALIAS_")

abbrev pub credential_alias_rank : Ranking
credential_alias_rank = names_rank command_text_way (codes "CARGO_CREDENTIAL_ALIAS_")

-- the variable of a registry whose name ends so
abbrev pub registry_variable : List ℕ → List ℕ → List ℕ
registry_variable n suffix = codes "CARGO_REGISTRIES_" ++ (n ++ suffix)

-- the protocol of crates.io, which no line names
abbrev pub protocol_variable : Named
protocol_variable = record {
  name = codes "CARGO_REGISTRIES_CRATES_IO_PROTOCOL";
  way = protocol_text_way;
  has_line = false;
}

abbrev pub protocol_variables : List ℕ → List Named
protocol_variables n = if bytes_eq n (codes "crates-io") then (protocol_variable ∷ []) else []

abbrev pub registries_ranks : List ℕ → List MemberRow
registries_ranks n =
    (codes "index", variable_by (registry_variable n (codes "_INDEX")) any_text_way ∷ [])
    ∷ (codes "token", variable_by (registry_variable n (codes "_TOKEN")) any_text_way ∷ [])
    ∷ (codes "credential-provider", variable_by (registry_variable n (codes "_CREDENTIAL_PROVIDER")) provider_text_way ∷ [])
    ∷ (codes "protocol", protocol_variables n)
    ∷ []

abbrev pub registries_rank : Ranking
registries_rank = by_name (λ n. by_member (registries_ranks n))

abbrev pub build_ranks : List Row
build_ranks =
    (codes "jobs", one_by int32_text_way (codes "CARGO_BUILD_JOBS"))
    ∷ (codes "rustc", all_by any_text_way (codes "RUSTC" ∷ (codes "CARGO_BUILD_RUSTC" ∷ [])))
    ∷ (codes "rustc-wrapper", all_by wrapper_text_way (codes "RUSTC_WRAPPER" ∷ (codes "CARGO_BUILD_RUSTC_WRAPPER" ∷ [])))
    ∷ (codes "rustc-workspace-wrapper", all_by wrapper_text_way (codes "RUSTC_WORKSPACE_WRAPPER" ∷ (codes "CARGO_BUILD_RUSTC_WORKSPACE_WRAPPER" ∷ [])))
    ∷ (codes "rustdoc", all_by any_text_way (codes "RUSTDOC" ∷ (codes "CARGO_BUILD_RUSTDOC" ∷ [])))
    ∷ (codes "target", one_by whole_text_way (codes "CARGO_BUILD_TARGET"))
    ∷ (codes "target-dir", all_by any_text_way (codes "CARGO_TARGET_DIR" ∷ (codes "CARGO_BUILD_TARGET_DIR" ∷ [])))
    ∷ (codes "build-dir", one_by any_text_way (codes "CARGO_BUILD_BUILD_DIR"))
    ∷ (codes "rustflags", flags_rank (codes "CARGO_ENCODED_RUSTFLAGS") (codes "RUSTFLAGS" ∷ (codes "CARGO_BUILD_RUSTFLAGS" ∷ [])))
    ∷ (codes "rustdocflags", flags_rank (codes "CARGO_ENCODED_RUSTDOCFLAGS") (codes "RUSTDOCFLAGS" ∷ (codes "CARGO_BUILD_RUSTDOCFLAGS" ∷ [])))
    ∷ (codes "incremental", incremental_rank)
    ∷ (codes "dep-info-basedir", one_by any_text_way (codes "CARGO_BUILD_DEP_INFO_BASEDIR"))
    ∷ []

-- looked at only where no file has a browser
abbrev pub browser_rank : Ranking
browser_rank = where_absent (one_by command_text_way (codes "BROWSER"))

abbrev pub doc_ranks : List Row
doc_ranks = (codes "browser", browser_rank) ∷ []

abbrev pub report_ranks : List Row
report_ranks = (codes "frequency", one_by frequency_text_way (codes "CARGO_FUTURE_INCOMPAT_REPORT_FREQUENCY")) ∷ []

abbrev pub new_ranks : List Row
new_ranks = (codes "vcs", one_by vcs_text_way (codes "CARGO_CARGO_NEW_VCS")) ∷ []

abbrev pub http_ranks : List Row
http_ranks =
    (codes "debug", one_by truth_text_way (codes "CARGO_HTTP_DEBUG"))
    ∷ (codes "proxy", one_by any_text_way (codes "CARGO_HTTP_PROXY"))
    ∷ (codes "timeout", one_by uint32_text_way (codes "CARGO_HTTP_TIMEOUT"))
    ∷ (codes "cainfo", one_by any_text_way (codes "CARGO_HTTP_CAINFO"))
    ∷ (codes "check-revoke", one_by truth_text_way (codes "CARGO_HTTP_CHECK_REVOKE"))
    ∷ (codes "low-speed-limit", one_by uint32_text_way (codes "CARGO_HTTP_LOW_SPEED_LIMIT"))
    ∷ (codes "multiplexing", one_by truth_text_way (codes "CARGO_HTTP_MULTIPLEXING"))
    ∷ (codes "user-agent", one_by any_text_way (codes "CARGO_HTTP_USER_AGENT"))
    ∷ []

abbrev pub net_ranks : List Row
net_ranks =
    (codes "retry", one_by uint32_text_way (codes "CARGO_NET_RETRY"))
    ∷ (codes "git-fetch-with-cli", one_by truth_text_way (codes "CARGO_NET_GIT_FETCH_WITH_CLI"))
    ∷ (codes "offline", one_by truth_text_way (codes "CARGO_NET_OFFLINE"))
    ∷ []

-- the table `registry`, each setting by its variables alone
abbrev pub registry_rows : List MemberRow
registry_rows =
    (codes "default", variable_by (codes "CARGO_REGISTRY_DEFAULT") any_text_way ∷ [])
    ∷ (codes "credential-provider", variable_by (codes "CARGO_REGISTRY_CREDENTIAL_PROVIDER") provider_text_way ∷ [])
    ∷ (codes "token", variable_by (codes "CARGO_REGISTRY_TOKEN") any_text_way ∷ [])
    ∷ (codes "global-credential-providers", variable_by (codes "CARGO_REGISTRY_GLOBAL_CREDENTIAL_PROVIDERS") providers_text_way ∷ [])
    ∷ []

abbrev pub registry_ranks : List Row
registry_ranks = rows_of registry_rows

abbrev pub progress_ranks : List Row
progress_ranks =
    (codes "when", one_by when_text_way (codes "CARGO_TERM_PROGRESS_WHEN"))
    ∷ (codes "width", one_by uint32_text_way (codes "CARGO_TERM_PROGRESS_WIDTH"))
    ∷ []

abbrev pub term_ranks : List Row
term_ranks =
    (codes "quiet", one_by truth_text_way (codes "CARGO_TERM_QUIET"))
    ∷ (codes "verbose", one_by truth_text_way (codes "CARGO_TERM_VERBOSE"))
    ∷ (codes "color", one_by color_text_way (codes "CARGO_TERM_COLOR"))
    ∷ (codes "progress", by_field progress_ranks)
    ∷ []

-- the tables of a configuration; of those that are unset no variable is looked at
abbrev pub config_ranks : List Row
config_ranks =
    (codes "alias", alias_rank)
    ∷ (codes "build", by_field build_ranks)
    ∷ (codes "credential-alias", credential_alias_rank)
    ∷ (codes "doc", by_field doc_ranks)
    ∷ (codes "env", unset)
    ∷ (codes "future-incompat-report", by_field report_ranks)
    ∷ (codes "cargo-new", by_field new_ranks)
    ∷ (codes "http", by_field http_ranks)
    ∷ (codes "net", by_field net_ranks)
    ∷ (codes "registries", registries_rank)
    ∷ (codes "registry", by_field registry_ranks)
    ∷ (codes "source", unset)
    ∷ (codes "target", unset)
    ∷ (codes "term", by_field term_ranks)
    ∷ []
