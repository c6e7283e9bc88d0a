-- Tables that are put in an object one group after the other.
use Rattle.std.proofs.Common.{◌≡◌, ℕ, length, codes, List, [], ◌∷◌, ◌++◌, drop, String, Global, refl, sym, ap, subst, ◌∙◌, arith}
use Rattle.serde_json.specs.Data.{Data, Members, object}
use Rattle.serde_json.specs.View.{members_view}
use Rattle.serde_json.specs.declared.value.Value.{Value}
use Rattle.cc2_value.specs.Cells.{field}
use Rattle.cc2_value.specs.Rows.{keys_of_fields, looks_of_fields}
use Rattle.cc2_value.specs.Shown.{entry_at, fields_at, map_at}
use Rattle.cc2_value.specs.Visits.{Look}
use Rattle.cc2_leaf.specs.Commands.{command_at}
use Rattle.cc2_leaf.specs.Env.{env_at}
use Rattle.cc2_leaf.specs.Lists.{string_list_at}
use Rattle.cc2_tables.specs.Build.{build_fields}
use Rattle.cc2_tables.specs.CargoNew.{new_fields}
use Rattle.cc2_tables.specs.Doc.{doc_fields}
use Rattle.cc2_tables.specs.FutureIncompatReport.{report_fields}
use Rattle.cc2_tables.specs.Http.{http_fields}
use Rattle.cc2_tables.specs.Net.{net_fields}
use Rattle.cc2_tables.specs.Registries.{registries_fields}
use Rattle.cc2_tables.specs.Registry.{registry_fields}
use Rattle.cc2_tables.specs.Source.{source_fields}
use Rattle.cc2_tables.specs.Term.{term_fields}
use Rattle.cc2_target_table.specs.Target.{target_at}
use Rattle.cc2_de.specs.Config.{config_at, config_fields}
use Rattle.cc2_de.specs.declared.config.Config.{Config}
use Rattle.cc2_json.specs.Json.{put_branches, put_told, tree_data, ArePut, IsObjectOf}
use Rattle.cc2_json.specs.Trees.{Tree, row_branches, AreTreesOf}
use Rattle.cc2_json.specs.declared.form.Form.{Form}
use Rattle.cc2_json.proofs.Trees.{none_put, object_is, pair_put}

-- keys in front of others
behind_keys : (ks more : List (List ℕ)) (ls : List Look) → length ks ≡ length ls → drop (length ls) (ks ++ more) ≡ more
behind_keys [] more [] e = refl
behind_keys [] more (l ∷ ls) e = absurd (omega (arith, e))
behind_keys (k ∷ ks) more [] e = absurd (omega (arith, e))
behind_keys (k ∷ ks) more (l ∷ ls) e = let f : length ks ≡ length ls = omega (arith, e) in behind_keys ks more ls f

module _ (form : Form) where
  -- keys after those of a row change nothing
  widened : (ks more : List (List ℕ)) (ls : List Look) (ts : List Tree) (m : Members) → length ks ≡ length ls → AreTreesOf ls ts
      → put_branches form (row_branches (ks ++ more) ts) m ≡ put_branches form (row_branches ks ts) m
  widened [] more [] [] m e of = none_put form more m
  widened [] more [] (t ∷ ts) m e of = absurd of
  widened [] more (l ∷ ls) ts m e of = absurd (omega (arith, e))
  widened (k ∷ ks) more [] ts m e of = absurd (omega (arith, e))
  widened (k ∷ ks) more (l ∷ ls) [] m e of = absurd of
  widened (k ∷ ks) more (l ∷ ls) (t ∷ ts) m e of =
      let f : length ks ≡ length ls = omega (arith, e) in ap (λ n. put_told form (field k) (tree_data form t) n) (widened ks more ls ts m f of.1)

  -- two groups, the second one put first
  pub both : (ks ks' : List (List ℕ)) (ls ls' : List Look) (x y z : List (String Global × Value)) → length ks ≡ length ls
      → ArePut form ks' ls' x y → ArePut form ks ls y z → ArePut form (ks ++ ks') (ls ++ ls') x z
  both ks ks' ls ls' x y z count back front =
      pair_put form (ks ++ ks') ls ls' (length ls) x y z refl (subst (λ k. ArePut form k ls' x y) (sym (behind_keys ks ks' ls count)) back)
      (record { trees = front.trees; of = front.of; are = front.are ∙ sym (widened ks ks' ls front.trees (members_view y) count front.of) })

  -- three tables, and four
  pub three : (a b c : List ℕ) (la lb lc : Look) (x3 x2 x1 x0 : List (String Global × Value))
      → ArePut form (c ∷ []) (lc ∷ []) x3 x2 → ArePut form (b ∷ []) (lb ∷ []) x2 x1 → ArePut form (a ∷ []) (la ∷ []) x1 x0
      → ArePut form (a ∷ b ∷ c ∷ []) (la ∷ lb ∷ lc ∷ []) x3 x0
  three a b c la lb lc x3 x2 x1 x0 hc hb ha =
      both (a ∷ []) (b ∷ c ∷ []) (la ∷ []) (lb ∷ lc ∷ []) x3 x1 x0 refl (both (b ∷ []) (c ∷ []) (lb ∷ []) (lc ∷ []) x3 x2 x1 refl hc hb) ha

  pub four : (a b c d : List ℕ) (la lb lc ld : Look) (x4 x3 x2 x1 x0 : List (String Global × Value))
      → ArePut form (d ∷ []) (ld ∷ []) x4 x3 → ArePut form (c ∷ []) (lc ∷ []) x3 x2 → ArePut form (b ∷ []) (lb ∷ []) x2 x1 → ArePut form (a ∷ []) (la ∷ []) x1 x0
      → ArePut form (a ∷ b ∷ c ∷ d ∷ []) (la ∷ lb ∷ lc ∷ ld ∷ []) x4 x0
  four a b c d la lb lc ld x4 x3 x2 x1 x0 hd hc hb ha =
      both (a ∷ []) (b ∷ c ∷ d ∷ []) (la ∷ []) (lb ∷ lc ∷ ld ∷ []) x4 x1 x0 refl (three b c d lb lc ld x4 x3 x2 x1 hd hc hb) ha

-- the tables of a configuration in four groups: their keys, and what each shows
abbrev command_keys : List (List ℕ)
command_keys = codes "alias" ∷ codes "build" ∷ codes "credential-alias" ∷ []

abbrev habit_keys : List (List ℕ)
habit_keys = codes "doc" ∷ codes "env" ∷ codes "future-incompat-report" ∷ codes "cargo-new" ∷ []

abbrev network_keys : List (List ℕ)
network_keys = codes "http" ∷ codes "net" ∷ codes "registries" ∷ codes "registry" ∷ []

abbrev place_keys : List (List ℕ)
place_keys = codes "source" ∷ codes "target" ∷ codes "term" ∷ []

abbrev commands_of : Config → List Look
commands_of c = map_at string_list_at c.alias ∷ fields_at build_fields c.build ∷ map_at command_at c.credential_alias ∷ []

abbrev habits_of : Config → List Look
habits_of c =
    fields_at doc_fields c.doc ∷ map_at env_at c.env ∷ fields_at report_fields c.future_incompat_report ∷ fields_at new_fields c.cargo_new ∷ []

abbrev network_of : Config → List Look
network_of c =
    fields_at http_fields c.http ∷ fields_at net_fields c.net ∷ map_at (entry_at registries_fields) c.registries ∷ fields_at registry_fields c.registry ∷ []

abbrev places_of : Config → List Look
places_of c = map_at (entry_at source_fields) c.source ∷ map_at target_at c.target ∷ fields_at term_fields c.term ∷ []

module _ (form : Form) (c : Config) (x4 x3 x2 x1 x0 : List (String Global × Value)) where
  config_put : ArePut form place_keys (places_of c) x4 x3 → ArePut form network_keys (network_of c) x3 x2 → ArePut form habit_keys (habits_of c) x2 x1
      → ArePut form command_keys (commands_of c) x1 x0 → ArePut form (keys_of_fields config_fields) (looks_of_fields config_fields c) x4 x0
  config_put places network habits commands =
      let two : ArePut form (network_keys ++ place_keys) (network_of c ++ places_of c) x4 x2 =
      both form network_keys place_keys (network_of c) (places_of c) x4 x3 x2 refl places network in
      let three : ArePut form (habit_keys ++ network_keys ++ place_keys) (habits_of c ++ network_of c ++ places_of c) x4 x1 =
      both form habit_keys (network_keys ++ place_keys) (habits_of c) (network_of c ++ places_of c) x4 x2 x1 refl two habits in
      both form command_keys (habit_keys ++ network_keys ++ place_keys) (commands_of c) (habits_of c ++ network_of c ++ places_of c) x4 x1 x0 refl three commands

  -- an object of all tables
  pub config_is : (d : Data) → x4 ≡ [] → ArePut form place_keys (places_of c) x4 x3 → ArePut form network_keys (network_of c) x3 x2
      → ArePut form habit_keys (habits_of c) x2 x1 → ArePut form command_keys (commands_of c) x1 x0 → d ≡ object (members_view x0)
      → IsObjectOf form (config_at c) d
  config_is d none places network habits commands is =
      object_is form config_fields c (config_at c) d x4 x0 refl none (λ q p. refl) (λ q p. refl) (config_put places network habits commands) is
