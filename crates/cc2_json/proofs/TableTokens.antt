-- Each token of a table is one value.
use Rattle.std.proofs.Common.{◌≡◌, ℕ, true, false, List, [], ◌∷◌, ◌++◌, Option, Some, None, codes, bytes_eq, refl, sym, true≢false}
use Rattle.std.specs.BTreeMap.{get_by_text}
use Rattle.cc2_value.specs.Cells.{Key, field, name, KeyPath, Setting}
use Rattle.cc2_value.specs.Shown.{Field, single_at, leaf_at, option_at, fields_at}
use Rattle.cc2_value.specs.Singles.{whole_number, counting_number, truth_value, text_value}
use Rattle.cc2_value.specs.Spelled.{color_value, frequency_value, protocol_value, vcs_value, when_value}
use Rattle.cc2_value.specs.Visits.{Look}
use Rattle.cc2_leaf.specs.Commands.{command_at, command_value}
use Rattle.cc2_leaf.specs.Env.{env_at, env_fields}
use Rattle.cc2_leaf.specs.Lists.{flags_at, flags_value}
use Rattle.cc2_leaf.specs.ManyProviders.{joined_at, providers_value, settings_of_providers}
use Rattle.cc2_leaf.specs.Providers.{provider_value}
use Rattle.cc2_leaf.specs.Wholes.{whole_cell, whole_value}
use Rattle.cc2_leaf.specs.declared.env.EnvConfigValue.{EnvConfigValue}
use Rattle.cc2_leaf.specs.declared.env.EnvConfigValue.TheVariants as variable
use Rattle.cc2_leaf.specs.declared.providers.GlobalCredentialProviders.{GlobalCredentialProviders}
use Rattle.cc2_tables.specs.Build.{build_fields}
use Rattle.cc2_tables.specs.declared.build.BuildConfig.{BuildConfig}
use Rattle.cc2_tables.specs.CargoNew.{new_fields}
use Rattle.cc2_tables.specs.declared.cargo_new.CargoNewConfig.{CargoNewConfig}
use Rattle.cc2_tables.specs.Doc.{doc_fields}
use Rattle.cc2_tables.specs.declared.doc.DocConfig.{DocConfig}
use Rattle.cc2_tables.specs.FutureIncompatReport.{report_fields}
use Rattle.cc2_tables.specs.declared.future_incompat_report.FutureIncompatReportConfig.{FutureIncompatReportConfig}
use Rattle.cc2_tables.specs.Http.{http_fields}
use Rattle.cc2_tables.specs.declared.http.HttpConfig.{HttpConfig}
use Rattle.cc2_tables.specs.Net.{net_fields}
use Rattle.cc2_tables.specs.declared.net.NetConfig.{NetConfig}
use Rattle.cc2_tables.specs.Registries.{registries_fields}
use Rattle.cc2_tables.specs.declared.registries.RegistriesConfigValue.{RegistriesConfigValue}
use Rattle.cc2_tables.specs.Registry.{registry_fields}
use Rattle.cc2_tables.specs.declared.registry.RegistryConfig.{RegistryConfig}
use Rattle.cc2_tables.specs.Source.{source_fields}
use Rattle.cc2_tables.specs.declared.source.SourceConfigValue.{SourceConfigValue}
use Rattle.cc2_tables.specs.Term.{term_fields}
use Rattle.cc2_tables.specs.declared.term.TermConfig.{TermConfig}
use Rattle.cc2_tables.specs.TermProgress.{progress_fields}
use Rattle.cc2_tables.specs.declared.term_progress.TermProgress.{TermProgress}
use Rattle.cc2_target_table.specs.declared.target.Node.{Node, out-Node}
use Rattle.cc2_target_table.specs.declared.target.Node.TheOpen.{Node-F}
use Rattle.cc2_target_table.specs.declared.target.TargetConfig.{TargetConfig}
use Rattle.cc2_target_table.specs.Target.{target_fields, in_node, in_found, below_target, mark_at}
use Rattle.cc2_json.specs.Reader.{is_token}
use Rattle.cc2_json.proofs.Tokens.{IsSingle, GoodTokens, Suits, FieldsSuit, empty_single, flat_tokens, single_flat, value_suits, other_suits}
use Rattle.cc2_json.proofs.Tokens.{field_below, field_here, table_tokens}

-- what tokens are in a look, and what may have a key
abbrev pub Tokens : Look → Type 0
Tokens look = GoodTokens IsSingle empty_single look

abbrev pub Fits : List ℕ → Look → Type 0
Fits k look = Suits IsSingle empty_single k look

abbrev pub Fields : {A : Type 0} → List (Field A) → A → Type 0
Fields fs a = FieldsSuit IsSingle empty_single fs a

-- an optional single value
single : {k : List ℕ} {A : Type 0} (setting : A → Setting) (o : Option A) → Fits k (option_at (single_at setting) o)
single setting o = value_suits IsSingle empty_single (single_flat (go o)) (go o)
  where
    go : (o : Option _) → IsSingle (option_at (single_at setting) o)
    go None = record { flat = λ l r. refl; no_array = refl }
    go (Some a) = record { flat = λ l r. refl; no_array = refl }

-- an optional value at a key that isn't that of a token
other : {k : List ℕ} {A : Type 0} (look : A → Look) → ((a : A) (l : Key) (r : KeyPath) → look a (l ∷ r) ≡ None) → bytes_eq k (codes "token") ≡ false → (o : Option A)
    → Fits k (option_at look o)
other look h apart o = other_suits IsSingle empty_single apart (flat_tokens IsSingle empty_single (option_at look o) (record { flat = go o }))
  where
    go : (o : Option _) (l : Key) (r : KeyPath) → option_at look o (l ∷ r) ≡ None
    go None l r = refl
    go (Some a) l r = h a l r

-- a table
pub below : {k : List ℕ} {look : Look} → bytes_eq k (codes "token") ≡ false → Tokens look → Fits k look
below apart tokens = other_suits IsSingle empty_single apart tokens

-- the fields' values, by their types
module _ {k : List ℕ} where
  int_fits : (o : _) → Fits k (whole_number o)
  int_fits o = single _ o

  count_fits : (o : _) → Fits k (counting_number o)
  count_fits o = single _ o

  truth_fits : (o : _) → Fits k (truth_value o)
  truth_fits o = single _ o

  text_fits : (o : _) → Fits k (text_value o)
  text_fits o = single _ o

  provider_fits : (o : _) → Fits k (provider_value o)
  provider_fits o = single _ o

  color_fits : (o : _) → Fits k (color_value o)
  color_fits o = single _ o

  frequency_fits : (o : _) → Fits k (frequency_value o)
  frequency_fits o = single _ o

  protocol_fits : (o : _) → Fits k (protocol_value o)
  protocol_fits o = single _ o

  vcs_fits : (o : _) → Fits k (vcs_value o)
  vcs_fits o = single _ o

  when_fits : (o : _) → Fits k (when_value o)
  when_fits o = single _ o

  command_fits : bytes_eq k (codes "token") ≡ false → (o : _) → Fits k (command_value o)
  command_fits apart o = other command_at (λ x l r. refl) apart o

  flags_fits : bytes_eq k (codes "token") ≡ false → (o : _) → Fits k (flags_value o)
  flags_fits apart o = other flags_at (λ x l r. refl) apart o

  whole_fits : bytes_eq k (codes "token") ≡ false → (o : _) → Fits k (whole_value o)
  whole_fits apart o = other (leaf_at whole_cell) (λ x l r. refl) apart o

  providers_fit : bytes_eq k (codes "token") ≡ false → (g : GlobalCredentialProviders) → Fits k (providers_value g)
  providers_fit apart g =
      below apart (flat_tokens IsSingle empty_single (providers_value g) (record { flat = go (settings_of_providers g) }))
    where
      go : (ss : List Setting) (l : Key) (r : KeyPath) → joined_at ss (l ∷ r) ≡ None
      go [] l r = refl
      go (s ∷ ss) l r = refl

ruleset values = (
  int_fits,
  count_fits,
  truth_fits,
  text_fits,
  provider_fits,
  color_fits,
  frequency_fits,
  protocol_fits,
  vcs_fits,
  when_fits,
  command_fits,
  flags_fits,
  whole_fits,
  providers_fit,
)

pub progress_suits : (t : TermProgress) → Fields progress_fields t
progress_suits t = search values depth 40

progress_fits : (t : TermProgress) → Fits (codes "progress") (fields_at progress_fields t)
progress_fits t = below refl (table_tokens IsSingle empty_single false progress_fields t (progress_suits t))

pub build_suits : (b : BuildConfig) → Fields build_fields b
build_suits b = search values depth 40

pub new_suits : (n : CargoNewConfig) → Fields new_fields n
new_suits n = search values depth 40

pub doc_suits : (d : DocConfig) → Fields doc_fields d
doc_suits d = search values depth 40

pub report_suits : (r : FutureIncompatReportConfig) → Fields report_fields r
report_suits r = search values depth 40

pub http_suits : (h : HttpConfig) → Fields http_fields h
http_suits h = search values depth 40

pub net_suits : (n : NetConfig) → Fields net_fields n
net_suits n = search values depth 40

pub registries_suits : (r : RegistriesConfigValue) → Fields registries_fields r
registries_suits r = search values depth 40

pub registry_suits : (r : RegistryConfig) → Fields registry_fields r
registry_suits r = search values depth 40

pub source_suits : (s : SourceConfigValue) → Fields source_fields s
source_suits s = search values depth 40

pub term_suits : (t : TermConfig) → Fields term_fields t
term_suits t = search (values, progress_fits t.progress) depth 40

env_suits : (e : _) → Fields env_fields e
env_suits e = search values depth 40

pub env_tokens : (e : EnvConfigValue) → Tokens (env_at e)
env_tokens (variable.Value text) = flat_tokens IsSingle empty_single (env_at (variable.Value text)) (record { flat = λ l r. refl })
env_tokens (variable.Table value force relative) =
    table_tokens IsSingle empty_single true env_fields (record { value = Some value; force = force; relative = relative })
    (env_suits (record { value = Some value; force = force; relative = relative }))

pub target_suits : (t : TargetConfig) → Fields target_fields t
target_suits t = search values depth 40

mark_flat : (p : KeyPath) (k : Key) (r : KeyPath) → mark_at (p ++ k ∷ r) ≡ None
mark_flat [] k r = refl
mark_flat (l ∷ p) k r = refl

pub target_tokens : (p : KeyPath) (t : TargetConfig) (k : Key) → is_token k ≡ true → IsSingle (λ r. below_target (p ++ k ∷ r) t)
target_tokens [] t (field q) is = field_here IsSingle empty_single target_fields t (target_suits t) q is
target_tokens [] t (name q) is = absurd (true≢false (sym is))
target_tokens (field q ∷ p) t k is = field_below IsSingle empty_single target_fields t (target_suits t) q p k is
target_tokens (name q ∷ p) t k is = found (get_by_text t.nested q) (λ u. target_tokens p u k is)
  where
    node : (n : Node-F Node TargetConfig) → ((u : TargetConfig) → IsSingle (λ r. below_target (p ++ k ∷ r) u))
        → IsSingle (λ r. in_node (p ++ k ∷ r) (below_target (p ++ k ∷ r)) n)
    node (Node-F.Table b) rest = rest b.value
    node Node-F.Undecoded rest = empty_single _ (λ r. mark_flat p k r)

    found : (o : Option Node) → ((u : TargetConfig) → IsSingle (λ r. below_target (p ++ k ∷ r) u))
        → IsSingle (λ r. in_found (p ++ k ∷ r) (below_target (p ++ k ∷ r)) o)
    found None rest = empty_single _ (λ r. refl)
    found (Some n) rest = node (out-Node n) rest
