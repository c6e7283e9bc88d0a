-- What a setting of a target shows as JSON.
use Rattle.std.proofs.Common.{◌≡◌, ◌∙◌, ap, ℕ, List, codes, Option, Some, None, option_map, String, Global, string_bytes, refl}
use Rattle.serde_json.specs.Data.{Data, Members, no_members, object, string}
use Rattle.cc2_error.specs.Commands.{command_of}
use Rattle.cc2_error.specs.declared.path_and_args.PathAndArgs.{PathAndArgs}
use Rattle.cc2_target_answers.specs.Settings.{answer_data, command_data, flags_data, put_some, settings_data}
use Rattle.cc2_resolved.specs.ShownFlags.{flag_texts}
use Rattle.cc2_resolved.specs.declared.flags.Flags.{Flags}
use Rattle.cc2_resolved.specs.Answers.{command_answer, flags_answer, text_answer}
use Rattle.cc2_resolved.specs.TargetConfigs.{TargetAnswer}

pub text_shown : (o : Option (String Global)) → option_map (λ t. string (string_bytes t)) o ≡ option_map answer_data (option_map text_answer o)
text_shown None = refl
text_shown (Some t) = refl

pub command_shown : (o : Option PathAndArgs) → option_map (λ c. command_data (command_of c)) o ≡ option_map answer_data (option_map command_answer o)
command_shown None = refl
command_shown (Some c) = refl

pub flags_shown : (o : Option Flags) → option_map (λ f. flags_data (flag_texts f)) o ≡ option_map answer_data (option_map flags_answer o)
flags_shown None = refl
flags_shown (Some f) = refl

-- a setting put, by what it shows and the members before it
pub put_by : (key : List ℕ) {d d' : Option Data} {m n m' : Members}
    → d ≡ d' → m ≡ m' → n ≡ put_some key d m → n ≡ put_some key d' m'
put_by key {d = d} {d' = d'} {m = m} {n = n} {m' = m'} same before put =
    put ∙ (ap (λ o. put_some key o m) same ∙ ap (λ ms. put_some key d' ms) before)

-- the four settings, put one after the other
pub settings_put : (a : TargetAnswer) {d1 d2 d3 d4 : Option Data} {m0 m1 m2 m3 m4 : Members}
    → m0 ≡ no_members
    → d1 ≡ option_map answer_data a.linker → m1 ≡ put_some (codes "linker") d1 m0
    → d2 ≡ option_map answer_data a.runner → m2 ≡ put_some (codes "runner") d2 m1
    → d3 ≡ option_map answer_data a.rustflags → m3 ≡ put_some (codes "rustflags") d3 m2
    → d4 ≡ option_map answer_data a.rustdocflags → m4 ≡ put_some (codes "rustdocflags") d4 m3
    → object m4 ≡ settings_data a
settings_put a none h1 e1 h2 e2 h3 e3 h4 e4 =
    ap object (put_by (codes "rustdocflags") h4 (put_by (codes "rustflags") h3 (put_by (codes "runner") h2 (put_by (codes "linker") h1 none e1) e2) e3) e4)
