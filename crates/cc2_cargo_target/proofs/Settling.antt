-- How keys and flags settle, step by step.
use Rattle.std.proofs.Common.{◌≡◌, ℕ, Bool, true, false, true≢false, List, [], ◌∷◌, Option, Result, Ok, Err, refl, sym, ap, ◌∙◌, subst}
use Rattle.std.specs.Prelude.{if◌then◌else◌}
use Rattle.cc2_error.specs.Causes.{Refusal}
use Rattle.cc2_error.specs.Commands.{Command}
use Rattle.cc2_base.specs.Paths.{same_texts}
use Rattle.cc2_base.specs.ToldPrograms.{Answers}
use Rattle.cc2_base.specs.declared.machine.Machine.{Machine}
use Rattle.cc2_cfg.specs.Meaning.{Atom}
use Rattle.cc2_rustc.specs.CfgSets.{listed}
use Rattle.cc2_rustc.specs.Printed.{printed}
use Rattle.cc2_rustc.specs.Said.{said}
use Rattle.cc2_cargo.specs.Raw.{Path, RawCell}
use Rattle.cc2_cargo_target.specs.Flags.{flags_of}
use Rattle.cc2_cargo_target.specs.Keys.{AreMatching, IsMatch}
use Rattle.cc2_cargo_target.specs.Settling.{AsksAgain, MatchWith, Settled, Settles, SettlesBy, by_keys, cfg_command_with, have_cfg, not_known, printed_with, without_keys}
use Rattle.cc2_cargo_target.specs.declared.tool.Tool.TheVariants.{Rustc}

module _ (rustc : Command) (answers : Answers) (triple : List ℕ) (keys flags : List (List ℕ)) where
  -- what rustc prints is known, or why it isn't
  pub known : (text : List ℕ) (matching : List (List ℕ)) → said answers (cfg_command_with rustc triple flags) ≡ Ok text
      → AreMatching (printed text) keys matching → MatchWith rustc answers triple keys flags (Ok matching)
  known text matching is are = (printed text, ap listed is, are)

  pub unknown : (refusal : Refusal) → said answers (cfg_command_with rustc triple flags) ≡ Err refusal
      → MatchWith rustc answers triple keys flags (Err refusal)
  unknown refusal is = ap listed is

module _ (look : Path → Option RawCell) (machine : Machine) (rustc : Command) (answers : Answers) (triple : List ℕ) (keys : List (List ℕ)) (plain : List (List ℕ)) where
  abbrev Is : Result Settled Refusal → Type 0
  Is settled = Settles look machine rustc answers triple keys plain settled

  -- the flags with those of the keys aren't read
  pub flags_refused : (matching : List (List ℕ)) (refusal : Refusal) → have_cfg keys ≡ true → MatchWith rustc answers triple keys plain (Ok matching)
      → flags_of look machine Rustc triple matching ≡ Err refusal → Is (Err refusal)
  flags_refused matching refusal some matches is =
      by_keys matching some matches (subst (λ r. SettlesBy look machine rustc answers triple keys plain matching r (Err refusal)) (sym is) refl)

  -- they are the same as without keys, or others
  pub settled_once : (matching flags : List (List ℕ)) → have_cfg keys ≡ true → MatchWith rustc answers triple keys plain (Ok matching)
      → flags_of look machine Rustc triple matching ≡ Ok flags → same_texts flags plain ≡ true → Is (Ok (record { flags = flags; matching = matching }))
  settled_once matching flags some matches is same =
      let settled : Result Settled Refusal = Ok (record { flags = flags; matching = matching }) in
      by_keys matching some matches (subst (λ r. SettlesBy look machine rustc answers triple keys plain matching r settled) (sym is)
      (subst (λ b. AsksAgain rustc answers triple keys b flags matching settled) (sym same) refl))

  pub settled_twice : (matching flags again : List (List ℕ)) → have_cfg keys ≡ true → MatchWith rustc answers triple keys plain (Ok matching)
      → flags_of look machine Rustc triple matching ≡ Ok flags → same_texts flags plain ≡ false → MatchWith rustc answers triple keys flags (Ok again)
      → Is (Ok (record { flags = flags; matching = again }))
  settled_twice matching flags again some matches is differ matches_again =
      let settled : Result Settled Refusal = Ok (record { flags = flags; matching = again }) in
      by_keys matching some matches (subst (λ r. SettlesBy look machine rustc answers triple keys plain matching r settled) (sym is)
      (subst (λ b. AsksAgain rustc answers triple keys b flags matching settled) (sym differ) (refl, matches_again)))

  pub refused_twice : (matching flags : List (List ℕ)) (refusal : Refusal) → have_cfg keys ≡ true → MatchWith rustc answers triple keys plain (Ok matching)
      → flags_of look machine Rustc triple matching ≡ Ok flags → same_texts flags plain ≡ false → MatchWith rustc answers triple keys flags (Err refusal)
      → Is (Err refusal)
  refused_twice matching flags refusal some matches is differ unknown =
      by_keys matching some matches (subst (λ r. SettlesBy look machine rustc answers triple keys plain matching r (Err refusal)) (sym is)
      (subst (λ b. AsksAgain rustc answers triple keys b flags matching (Err refusal)) (sym differ) unknown))

-- ---- keys and flags settle in one way

match_same : (atoms : List Atom) (k : List ℕ) (b c : Bool) → IsMatch atoms k b → IsMatch atoms k c → b ≡ c
match_same atoms k true true is also = refl
match_same atoms k false false is also = refl
match_same atoms k true false is also = is.without_tree (λ tree at. true≢false (is.by_tree tree at ∙ sym (also.by_tree tree at)))
match_same atoms k false true is also = sym (also.without_tree (λ tree at. true≢false (also.by_tree tree at ∙ sym (is.by_tree tree at))))

matching_same : (atoms : List Atom) (ks ms ns : List (List ℕ)) → AreMatching atoms ks ms → AreMatching atoms ks ns → ms ≡ ns
matching_same atoms [] ms ns is also = is ∙ sym also
matching_same atoms (k ∷ ks) ms ns (b, others, own, rest, is) (c, others_too, own_too, rest_too, also) =
    is ∙ (λ i. if match_same atoms k b c own own_too i then k ∷ matching_same atoms ks others others_too rest rest_too i
    else matching_same atoms ks others others_too rest rest_too i) ∙ sym also

ok_same : {A : Type 0} (a b : A) (r : Result A Refusal) → r ≡ Ok a → r ≡ Ok b → a ≡ b
ok_same a b (Ok c) is also = cc (sym is ∙ also)
ok_same a b (Err refusal) is also = cc is

err_same : {A : Type 0} (a b : Refusal) (r : Result A Refusal) → r ≡ Err a → r ≡ Err b → a ≡ b
err_same a b (Err refusal) is also = cc (sym is ∙ also)
err_same a b (Ok c) is also = cc is

ok_no_err : {A : Type 0} (a : A) (b : Refusal) (r : Result A Refusal) → r ≡ Ok a → r ≡ Err b → ⊥
ok_no_err a b (Ok c) is also = cc also
ok_no_err a b (Err refusal) is also = cc is

module _ (rustc : Command) (answers : Answers) (triple : List ℕ) (keys : List (List ℕ)) where
  pub with_same : (flags : List (List ℕ)) (r s : Result (List (List ℕ)) Refusal) → MatchWith rustc answers triple keys flags r
      → MatchWith rustc answers triple keys flags s → r ≡ s
  with_same flags (Ok ms) (Ok ns) (atoms, printed, are) (atoms_too, printed_too, are_too) =
      ap Ok (matching_same atoms keys ms ns are
      (subst (λ z. AreMatching z keys ns) (sym (ok_same atoms atoms_too (printed_with rustc answers triple flags) printed printed_too)) are_too))
  with_same flags (Err a) (Err b) is also = ap Err (err_same a b (printed_with rustc answers triple flags) is also)
  with_same flags (Ok ms) (Err b) (atoms, printed, are) also = absurd (ok_no_err atoms b (printed_with rustc answers triple flags) printed also)
  with_same flags (Err a) (Ok ns) is (atoms, printed, are) = absurd (ok_no_err atoms a (printed_with rustc answers triple flags) printed is)

  again_same : (b : Bool) (flags matching : List (List ℕ)) (r s : Result Settled Refusal) → AsksAgain rustc answers triple keys b flags matching r
      → AsksAgain rustc answers triple keys b flags matching s → r ≡ s
  again_same true flags matching r s is also = is ∙ sym also
  again_same false flags matching (Ok r) (Ok s) (is, matches) (also, matches_too) =
      (λ i. Ok (record { flags = (is ∙ sym also) i; matching = ok_same r.matching s.matching (Ok r.matching) refl (with_same flags (Ok r.matching) (Ok s.matching) matches matches_too) i }))
  again_same false flags matching (Err a) (Err b) is also = ap Err (err_same a b (printed_with rustc answers triple flags) is also)
  again_same false flags matching (Ok r) (Err b) (is, (atoms, printed, are)) also =
      absurd (ok_no_err atoms b (printed_with rustc answers triple flags) printed also)
  again_same false flags matching (Err a) (Ok s) is (also, (atoms, printed, are)) =
      absurd (ok_no_err atoms a (printed_with rustc answers triple flags) printed is)

module _ (look : Path → Option RawCell) (machine : Machine) (rustc : Command) (answers : Answers) (triple : List ℕ) (keys : List (List ℕ)) (plain : List (List ℕ)) where
  by_same : (ms ns : List (List ℕ)) (f g : Result (List (List ℕ)) Refusal) (r s : Result Settled Refusal) → ms ≡ ns → f ≡ g
      → SettlesBy look machine rustc answers triple keys plain ms f r → SettlesBy look machine rustc answers triple keys plain ns g s → r ≡ s
  by_same ms ns f g r s same read is also =
      go f is (subst (λ x. SettlesBy look machine rustc answers triple keys plain ms x s) (sym read)
      (subst (λ xs. SettlesBy look machine rustc answers triple keys plain xs g s) (sym same) also))
    where
      go : (h : Result (List (List ℕ)) Refusal) → SettlesBy look machine rustc answers triple keys plain ms h r
          → SettlesBy look machine rustc answers triple keys plain ms h s → r ≡ s
      go (Ok flags) x y = again_same rustc answers triple keys (same_texts flags plain) flags ms r s x y
      go (Err refusal) x y = x ∙ sym y

  pub one_settled : (r s : Result Settled Refusal) → Settles look machine rustc answers triple keys plain r
      → Settles look machine rustc answers triple keys plain s → r ≡ s
  one_settled r s (without_keys none is) (without_keys none_too also) = is ∙ sym also
  one_settled r s (not_known a some is r_is) (not_known b some_too also s_is) =
      r_is ∙ ap Err (err_same a b (printed_with rustc answers triple plain) is also) ∙ sym s_is
  one_settled r s (by_keys ms some matches is) (by_keys ns some_too matches_too also) =
      let same : ms ≡ ns = ok_same ms ns (Ok ms) refl (with_same rustc answers triple keys plain (Ok ms) (Ok ns) matches matches_too) in
      by_same ms ns (flags_of look machine Rustc triple ms) (flags_of look machine Rustc triple ns) r s same (ap (flags_of look machine Rustc triple) same) is also
  one_settled r s (without_keys none is) (not_known b some also s_is) = absurd (true≢false (sym some ∙ none))
  one_settled r s (without_keys none is) (by_keys ns some matches also) = absurd (true≢false (sym some ∙ none))
  one_settled r s (not_known a some is r_is) (without_keys none also) = absurd (true≢false (sym some ∙ none))
  one_settled r s (by_keys ms some matches is) (without_keys none also) = absurd (true≢false (sym some ∙ none))
  one_settled r s (not_known a some is r_is) (by_keys ns some_too (atoms, printed, are) also) =
      absurd (ok_no_err atoms a (printed_with rustc answers triple plain) printed is)
  one_settled r s (by_keys ms some (atoms, printed, are) is) (not_known b some_too also s_is) =
      absurd (ok_no_err atoms b (printed_with rustc answers triple plain) printed also)
