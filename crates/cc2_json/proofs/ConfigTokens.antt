-- In a configuration each token is one value.
use Rattle.std.proofs.Common.{◌≡◌, ℕ, true, false, List, [], ◌∷◌, ◌++◌, Option, Some, None, codes, bytes_eq, refl, sym, true≢false}
use Rattle.std.specs.BTreeMap.{get_by_text}
use Rattle.cc2_value.specs.Cells.{Key, field, name, KeyPath, Cell, Setting}
use Rattle.cc2_value.specs.Shown.{Field, single_at, leaf_at, option_at, map_at, entry_at, fields_at, table_at}
use Rattle.cc2_value.specs.Visits.{Look}
use Rattle.cc2_leaf.specs.Commands.{command_at}
use Rattle.cc2_leaf.specs.Env.{env_at, env_fields}
use Rattle.cc2_leaf.specs.Lists.{flags_at, string_list_at}
use Rattle.cc2_leaf.specs.ManyProviders.{joined_at, providers_value, settings_of_providers}
use Rattle.cc2_leaf.specs.Wholes.{whole_cell}
use Rattle.cc2_tables.specs.Build.{build_fields}
use Rattle.cc2_tables.specs.CargoNew.{new_fields}
use Rattle.cc2_tables.specs.Doc.{doc_fields}
use Rattle.cc2_tables.specs.FutureIncompatReport.{report_fields}
use Rattle.cc2_tables.specs.Http.{http_fields}
use Rattle.cc2_tables.specs.Net.{net_fields}
use Rattle.cc2_tables.specs.Registries.{registries_fields}
use Rattle.cc2_tables.specs.Registry.{registry_fields}
use Rattle.cc2_tables.specs.Source.{source_fields}
use Rattle.cc2_tables.specs.Term.{term_fields}
use Rattle.cc2_tables.specs.TermProgress.{progress_fields}
use Rattle.cc2_target_table.specs.Target.{target_fields, in_node, in_found, below_target, mark_at, target_at}
use Rattle.cc2_de.specs.Config.{config_at, config_fields}
use Rattle.cc2_de.specs.declared.config.Config.{Config}
use Rattle.cc2_json.specs.Reader.{is_token, TokensAreValues}
use Rattle.cc2_json.proofs.Tokens.{IsFlat, IsSingle, GoodTokens, Suits, FieldsSuit, TokensAreNoArrays, empty_single, flat_tokens, single_flat, value_suits, other_suits}
use Rattle.cc2_json.proofs.Tokens.{field_below, field_here, map_tokens, table_tokens}
use Rattle.cc2_json.proofs.TableTokens.{Fields, Tokens, below, progress_suits, build_suits, new_suits, doc_suits, report_suits}
use Rattle.cc2_json.proofs.TableTokens.{http_suits, net_suits, registries_suits, registry_suits, source_suits, term_suits, env_tokens, target_suits, target_tokens}

config_suits : (c : Config) → Fields config_fields c
config_suits c = (
  below refl (map_tokens IsSingle empty_single string_list_at (λ l. flat_tokens IsSingle empty_single (string_list_at l) (record { flat = λ m r. refl })) c.alias),
  (
    below refl (table_tokens IsSingle empty_single false build_fields c.build (build_suits c.build)),
    (
      below refl (map_tokens IsSingle empty_single command_at (λ l. flat_tokens IsSingle empty_single (command_at l) (record { flat = λ m r. refl })) c.credential_alias),
      (
        below refl (table_tokens IsSingle empty_single false doc_fields c.doc (doc_suits c.doc)),
        (
          below refl (map_tokens IsSingle empty_single env_at env_tokens c.env),
          (
            below refl (table_tokens IsSingle empty_single false report_fields c.future_incompat_report (report_suits c.future_incompat_report)),
            (
              below refl (table_tokens IsSingle empty_single false new_fields c.cargo_new (new_suits c.cargo_new)),
              (
                below refl (table_tokens IsSingle empty_single false http_fields c.http (http_suits c.http)),
                (
                  below refl (table_tokens IsSingle empty_single false net_fields c.net (net_suits c.net)),
                  (
                    below refl (map_tokens IsSingle empty_single (entry_at registries_fields) (λ r. table_tokens IsSingle empty_single true registries_fields r (registries_suits r)) c.registries),
                    (
                      below refl (table_tokens IsSingle empty_single false registry_fields c.registry (registry_suits c.registry)),
                      (
                        below refl (map_tokens IsSingle empty_single (entry_at source_fields) (λ s. table_tokens IsSingle empty_single true source_fields s (source_suits s)) c.source),
                        (
                          below refl (map_tokens IsSingle empty_single target_at (λ t p. target_tokens p t) c.target),
                          (
                            below refl (table_tokens IsSingle empty_single false term_fields c.term (term_suits c.term)),
                            tt,
                          ),
                        ),
                      ),
                    ),
                  ),
                ),
              ),
            ),
          ),
        ),
      ),
    ),
  ),
)

tokens : (c : Config) → Tokens (config_at c)
tokens c [] (field q) is = field_here IsSingle empty_single config_fields c (config_suits c) q is
tokens c [] (name q) is = absurd (true≢false (sym is))
tokens c (field q ∷ p) k is = field_below IsSingle empty_single config_fields c (config_suits c) q p k is
tokens c (name q ∷ p) k is = empty_single _ (λ r. refl)

-- no key path goes below a token
pub config_values : (c : Config) → TokensAreValues (config_at c)
config_values c p k l r is = (tokens c p k is).flat l r

-- and no token is an array
pub config_arrays : (c : Config) → TokensAreNoArrays (config_at c)
config_arrays c p k is = (tokens c p k is).no_array
