-- In a resolved configuration's tables no key path goes below a token.
use Rattle.std.proofs.Common.{◌≡◌, ℕ, BTreeMap, Bool, true, false, List, [], ◌∷◌, ◌++◌, Option, Some, None, option_map, codes, refl, sym, subst, true≢false}
use Rattle.std.specs.Prelude.{String, if◌then◌else◌}
use Rattle.std.specs.Str.{bytes_eq}
use Rattle.std.specs.declared.alloc.Global.{Global}
use Rattle.cc2_value.specs.Cells.{Key, field, name, KeyPath, Cell, Payload, truth, word, is_entry}
use Rattle.cc2_value.specs.Rows.{part_at}
use Rattle.cc2_value.specs.Shown.{map_at}
use Rattle.cc2_value.specs.Visits.{Look}
use Rattle.cc2_resolved.specs.Providers.{Provider, providers_of}
use Rattle.cc2_resolved.specs.Variables.{Variable, variable_of}
use Rattle.cc2_resolved.specs.declared.env.EnvConfigValue.{EnvConfigValue}
use Rattle.cc2_resolved.specs.declared.provider.GlobalCredentialProviders.{GlobalCredentialProviders}
use Rattle.cc2_resolved.specs.Answers.{Answer, list_answer, command_answer, providers_answer, listed_providers, providers, shown_at}
use Rattle.cc2_resolved.specs.Env.{variable_shown}
use Rattle.cc2_resolved.specs.Rows.{Row, answer_at, rows_at, shown_in, entry_shown, names_at}
use Rattle.cc2_resolved_tables.specs.TermProgress.{progress_rows}
use Rattle.cc2_resolved_tables.specs.declared.term_progress.TermProgressConfig.{TermProgressConfig}
use Rattle.cc2_resolved_tables.specs.Build.{build_rows}
use Rattle.cc2_resolved_tables.specs.declared.build.BuildConfig.{BuildConfig}
use Rattle.cc2_resolved_tables.specs.CargoNew.{new_rows}
use Rattle.cc2_resolved_tables.specs.declared.cargo_new.CargoNewConfig.{CargoNewConfig}
use Rattle.cc2_resolved_tables.specs.Doc.{doc_rows}
use Rattle.cc2_resolved_tables.specs.declared.doc.DocConfig.{DocConfig}
use Rattle.cc2_resolved_tables.specs.FutureIncompatReport.{report_rows}
use Rattle.cc2_resolved_tables.specs.declared.future_incompat_report.FutureIncompatReportConfig.{FutureIncompatReportConfig}
use Rattle.cc2_resolved_tables.specs.Http.{http_rows}
use Rattle.cc2_resolved_tables.specs.declared.http.HttpConfig.{HttpConfig}
use Rattle.cc2_resolved_tables.specs.Net.{net_rows}
use Rattle.cc2_resolved_tables.specs.declared.net.NetConfig.{NetConfig}
use Rattle.cc2_resolved_tables.specs.Registries.{registries_rows}
use Rattle.cc2_resolved_tables.specs.declared.registries.RegistriesConfigValue.{RegistriesConfigValue}
use Rattle.cc2_resolved_tables.specs.Registry.{registry_rows}
use Rattle.cc2_resolved_tables.specs.declared.registry.RegistryConfig.{RegistryConfig}
use Rattle.cc2_resolved_tables.specs.Source.{source_rows}
use Rattle.cc2_resolved_tables.specs.declared.source.SourceConfigValue.{SourceConfigValue}
use Rattle.cc2_resolved_tables.specs.Term.{term_rows}
use Rattle.cc2_resolved_tables.specs.declared.term.TermConfig.{TermConfig}
use Rattle.cc2_resolved_tables.specs.Tables.{tables_rows}
use Rattle.cc2_resolved_tables.specs.declared.tables.Tables.{Tables}
use Rattle.cargo_config2.specs.Config.{shown, tables_of}
use Rattle.cargo_config2.specs.declared.config.Config.{Config}
use Rattle.cc2_json.specs.Reader.{is_token, TokensAreValues}
use Rattle.cc2_json.proofs.Tokens.{IsFlat, GoodTokens, Suits, AllSuit, empty_flat, flat_tokens, map_tokens, other_suits, part_below, part_here, value_suits}
use Rattle.cc2_resolved_json.specs.Plain.{cell_of, plain_at, value_at, variable_part}
use Rattle.cc2_resolved_json.specs.Rows.{keys_of_rows, looks_of_rows}
use Rattle.cc2_resolved_json.proofs.ByRow.{same_row}
use Rattle.cc2_resolved_json.proofs.Cells.{names_same, plain_none, shown_none, whole_below}

-- what tokens are in a look, and what may have a key
abbrev Tokens : Look → Type 0
Tokens look = GoodTokens IsFlat empty_flat look

abbrev Fits : List ℕ → Look → Type 0
Fits k look = Suits IsFlat empty_flat k look

abbrev RowsSuit : {A : Type 0} → List (Row A) → A → Type 0
RowsSuit rows a = AllSuit IsFlat empty_flat (keys_of_rows rows) (looks_of_rows rows a)

flat_fits : {k : List ℕ} {look : Look} → IsFlat look → Fits k look
flat_fits flat = value_suits IsFlat empty_flat flat flat

below : {k : List ℕ} {look : Look} → bytes_eq k (codes "token") ≡ false → Tokens look → Fits k look
below apart tokens = other_suits IsFlat empty_flat apart tokens

-- an optional value
value_fits : {k : List ℕ} {A : Type 0} (answered : A → Answer) → ((a : A) → is_entry (cell_of (answered a)) ≡ false) → (o : Option A)
    → Fits k (plain_at (shown_at (option_map answered o)))
value_fits answered whole None = flat_fits (record { flat = λ l r. shown_none (l ∷ r) })
value_fits answered whole (Some a) = flat_fits (record { flat = λ l r. whole_below (answered a) (whole a) l r })

listed_flat : (ps : List Provider) → IsFlat (plain_at (shown_at (listed_providers ps)))
listed_flat [] = record { flat = λ l r. shown_none (l ∷ r) }
listed_flat (p ∷ ps) = record { flat = λ l r. whole_below (providers (p ∷ ps)) refl l r }

providers_fit : {k : List ℕ} (g : GlobalCredentialProviders) → Fits k (plain_at (shown_at (providers_answer g)))
providers_fit g = flat_fits (listed_flat (providers_of g))

parts : {A : Type 0} (rows : List (Row A)) (a : A) (q : List ℕ) → part_at (keys_of_rows rows) (looks_of_rows rows a) q ≡ plain_at (λ s. shown_in rows a q s)
parts rows a q = λ i p. same_row rows a q p i

row_here : {A : Type 0} (rows : List (Row A)) (a : A) → RowsSuit rows a → (q : List ℕ) → bytes_eq q (codes "token") ≡ true → IsFlat (λ r. plain_at (λ s. shown_in rows a q s) r)
row_here rows a h q is = subst (λ look. IsFlat (λ r. look r)) (parts rows a q) (part_here IsFlat empty_flat (keys_of_rows rows) (looks_of_rows rows a) h q is)

row_below : {A : Type 0} (rows : List (Row A)) (a : A) → RowsSuit rows a → (q : List ℕ) (p : KeyPath) (k : Key) → is_token k ≡ true
    → IsFlat (λ r. plain_at (λ s. shown_in rows a q s) (p ++ k ∷ r))
row_below rows a h q p k is =
    subst (λ look. IsFlat (λ r. look (p ++ k ∷ r))) (parts rows a q) (part_below IsFlat empty_flat (keys_of_rows rows) (looks_of_rows rows a) h q p k is)

table_tokens : {A : Type 0} (rows : List (Row A)) (a : A) → RowsSuit rows a → Tokens (plain_at (rows_at rows a))
table_tokens rows a h [] (field q) is = row_here rows a h q is
table_tokens rows a h [] (name q) is = absurd (true≢false (sym is))
table_tokens rows a h (field q ∷ p) k is = row_below rows a h q p k is
table_tokens rows a h (name q ∷ p) k is = empty_flat _ (λ r. plain_none (p ++ k ∷ r))

entry_tokens : {A : Type 0} (rows : List (Row A)) (a : A) → RowsSuit rows a → Tokens (plain_at (entry_shown rows a))
entry_tokens rows a h [] (field q) is = row_here rows a h q is
entry_tokens rows a h [] (name q) is = absurd (true≢false (sym is))
entry_tokens rows a h (field q ∷ p) k is = row_below rows a h q p k is
entry_tokens rows a h (name q ∷ p) k is = empty_flat _ (λ r. plain_none (p ++ k ∷ r))

-- nothing is below the values of a variable
variable_flat : (v : Variable) (q : List ℕ) (l : Key) (r : KeyPath) → variable_part v q (l ∷ r) ≡ None
variable_flat v q l r = go (bytes_eq (codes "value") q) (bytes_eq (codes "force") q) (bytes_eq (codes "relative") q)
  where
    go : (a b c : Bool) → (if a then value_at (word v.value) (l ∷ r) else if b then value_at (truth v.force) (l ∷ r) else if c then value_at (truth v.relative) (l ∷ r) else None) ≡ None
    go true b c = refl
    go false true c = refl
    go false false true = refl
    go false false false = refl

variable_below : (v : Variable) (q : List ℕ) (p : KeyPath) (k : Key) (r : KeyPath) → variable_part v q (p ++ k ∷ r) ≡ None
variable_below v q [] k r = variable_flat v q k r
variable_below v q (m ∷ p) k r = variable_flat v q m (p ++ k ∷ r)

env_tokens : (v : EnvConfigValue) → Tokens (plain_at (variable_shown v))
env_tokens v [] (field q) is = record { flat = λ l r. variable_flat (variable_of v) q l r }
env_tokens v [] (name q) is = absurd (true≢false (sym is))
env_tokens v (field q ∷ p) k is = empty_flat _ (λ r. variable_below (variable_of v) q p k r)
env_tokens v (name q ∷ p) k is = empty_flat _ (λ r. refl)

names : {V : Type 0} (shows : V → KeyPath → Option Answer) (m : BTreeMap (String Global) V) → map_at (λ v. plain_at (shows v)) m ≡ plain_at (names_at shows m)
names shows m = λ i p. names_same shows m p i

names_tokens : {V : Type 0} (shows : V → KeyPath → Option Answer) (m : BTreeMap (String Global) V) → ((v : V) → Tokens (plain_at (shows v)))
    → Tokens (plain_at (names_at shows m))
names_tokens shows m h = subst (λ look. Tokens look) (names shows m) (map_tokens IsFlat empty_flat (λ v. plain_at (shows v)) h m)

answer_tokens : {A : Type 0} (answered : A → Answer) → ((a : A) → is_entry (cell_of (answered a)) ≡ false) → (a : A) → Tokens (plain_at (answer_at answered a))
answer_tokens answered whole a = flat_tokens IsFlat empty_flat (plain_at (answer_at answered a)) (record { flat = λ l r. whole_below (answered a) (whole a) l r })

progress_suits : (p : TermProgressConfig) → RowsSuit progress_rows p
progress_suits p = search value_fits depth 40

progress_fits : (p : TermProgressConfig) → Fits (codes "progress") (plain_at (rows_at progress_rows p))
progress_fits p = below refl (table_tokens progress_rows p (progress_suits p))

build_suits : (b : BuildConfig) → RowsSuit build_rows b
build_suits b = search value_fits depth 40

new_suits : (n : CargoNewConfig) → RowsSuit new_rows n
new_suits n = search value_fits depth 40

doc_suits : (d : DocConfig) → RowsSuit doc_rows d
doc_suits d = search value_fits depth 40

report_suits : (r : FutureIncompatReportConfig) → RowsSuit report_rows r
report_suits r = search value_fits depth 40

http_suits : (h : HttpConfig) → RowsSuit http_rows h
http_suits h = search value_fits depth 40

net_suits : (n : NetConfig) → RowsSuit net_rows n
net_suits n = search value_fits depth 40

registries_suits : (r : RegistriesConfigValue) → RowsSuit registries_rows r
registries_suits r = search value_fits depth 40

registry_suits : (r : RegistryConfig) → RowsSuit registry_rows r
registry_suits r = search (value_fits, providers_fit) depth 40

source_suits : (s : SourceConfigValue) → RowsSuit source_rows s
source_suits s = search value_fits depth 40

term_suits : (t : TermConfig) → RowsSuit term_rows t
term_suits t = search (value_fits, progress_fits t.progress) depth 40

tables_suits : (t : Tables) → RowsSuit tables_rows t
tables_suits t = (
  below refl (names_tokens (answer_at list_answer) t.alias (answer_tokens list_answer (λ x. refl))),
  (
    below refl (table_tokens build_rows t.build (build_suits t.build)),
    (
      below refl (names_tokens (answer_at command_answer) t.credential_alias (answer_tokens command_answer (λ x. refl))),
      (
        below refl (table_tokens doc_rows t.doc (doc_suits t.doc)),
        (
          below refl (names_tokens variable_shown t.env env_tokens),
          (
            below refl (table_tokens report_rows t.future_incompat_report (report_suits t.future_incompat_report)),
            (
              below refl (table_tokens new_rows t.cargo_new (new_suits t.cargo_new)),
              (
                below refl (table_tokens http_rows t.http (http_suits t.http)),
                (
                  below refl (table_tokens net_rows t.net (net_suits t.net)),
                  (
                    below refl (names_tokens (entry_shown registries_rows) t.registries (λ r. entry_tokens registries_rows r (registries_suits r))),
                    (
                      below refl (table_tokens registry_rows t.registry (registry_suits t.registry)),
                      (
                        below refl (names_tokens (entry_shown source_rows) t.source (λ s. entry_tokens source_rows s (source_suits s))),
                        (
                          below refl (table_tokens term_rows t.term (term_suits t.term)),
                          tt,
                        ),
                      ),
                    ),
                  ),
                ),
              ),
            ),
          ),
        ),
      ),
    ),
  ),
)

-- no key path goes below a token
pub resolved_values : (c : Config) → TokensAreValues (plain_at (shown c))
resolved_values c p k l r is = (table_tokens tables_rows (tables_of c) (tables_suits (tables_of c)) p k is).flat l r
