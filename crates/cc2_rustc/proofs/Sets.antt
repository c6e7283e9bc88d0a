-- What is kept by names, with one more.
use Rattle.std.proofs.Common.{◌≡◌, ℕ, List, Bool, true, false, cond, Some, None, Ok, is_some, option_map, String, Global, string_bytes, true≢false, refl, sym, ap, ◌∙◌, inl, inr}
use Rattle.std.specs.Prelude.{unwrap_or}
use Rattle.std.specs.BTreeMap.{BTreeMap, get_by_text, Updates}
use Rattle.std.specs.Str.{bytes_eq}
use Rattle.std.specs.String.{string_cmp}
use Rattle.cc2_value.proofs.Found.{same_keys, after_insert, same_bytes}
use Rattle.cc2_error.specs.Commands.{Command}
use Rattle.cc2_base.specs.Paths.{stem_of}
use Rattle.cc2_base.specs.ToldPrograms.{Answers}
use Rattle.cc2_rustc.specs.Printed.{atoms_of}
use Rattle.cc2_rustc.specs.declared.cfg_set.CfgSet.{CfgSet}
use Rattle.cc2_resolved.specs.Targets.{target_in, command_text, is_spec_path}
use Rattle.cc2_rustc.specs.ByName.{AtMostAdds, KeepsNames}
use Rattle.cc2_rustc.specs.CfgSets.{Sets, set_said, AgreesOnSets}

-- the text as Cargo takes it is that of which the target was read
pub text_back : (text : List ℕ) → command_text (target_in text) ≡ text
text_back text = by (is_spec_path text)
  where
    by : (b : Bool) → unwrap_or (cond b (Some text) None) (unwrap_or (cond b (stem_of text) (Some text)) text) ≡ text
    by true = refl
    by false = refl

module _ (rustc : Command) (answers : Answers) (was sets : Sets) (text : List ℕ) (set : CfgSet) (adds : AtMostAdds was sets (command_text (target_in text)) set) where
  -- a list that rustc prints is kept beside those that it prints
  pub agrees_more : set_said rustc answers (target_in text) ≡ Ok (atoms_of set) → AgreesOnSets rustc answers was
      → AgreesOnSets rustc answers sets
  agrees_more said agrees name a is =
      elim (adds name) [
        | inl same ↦ agrees name a (ap (option_map atoms_of) (sym same) ∙ is)
        | inr (at, here) ↦
            ap (λ q. set_said rustc answers (target_in q)) (at ∙ text_back text) ∙ said
            ∙ ap Ok (ap (λ o. unwrap_or o (atoms_of set)) (sym (ap (option_map atoms_of) here) ∙ is))
      ]

-- a list that is kept is what rustc prints
pub said_kept : (rustc : Command) (answers : Answers) (sets : Sets) (text : List ℕ) (set : CfgSet)
    → AgreesOnSets rustc answers sets → get_by_text sets (command_text (target_in text)) ≡ Some set
    → set_said rustc answers (target_in text) ≡ Ok (atoms_of set)
said_kept rustc answers sets text set agrees here =
    ap (λ q. set_said rustc answers (target_in q)) (sym (text_back text))
    ∙ agrees (command_text (target_in text)) _ (ap (option_map atoms_of) here)

module _ {V : Type 0} where
  -- where none was kept for a name, none is lost
  pub keeps_more : (was kept : BTreeMap (String Global) V) (name : List ℕ) (v : V) → AtMostAdds was kept name v
      → is_some (get_by_text was name) ≡ false → KeepsNames was kept
  keeps_more was kept name v adds fresh q known =
      elim (adds q) [
        | inl same ↦ same
        | inr (at, here) ↦ absurd (true≢false (sym known ∙ ap (λ n. is_some (get_by_text was n)) at ∙ fresh))
      ]

  -- an insert adds at most its entry
  pub added : (key : String Global) (v : V) (was kept : BTreeMap (String Global) V) (name : List ℕ) → string_bytes key ≡ name
      → Updates string_cmp was kept key (Some v) → AtMostAdds was kept name v
  added key v was kept name is updates q =
      let put : get_by_text kept q ≡ cond (bytes_eq name q) (Some v) (get_by_text was q) =
      after_insert key v was kept updates q ∙ ap (λ n. cond (bytes_eq n q) (Some v) (get_by_text was q)) is in
      elim (same_keys q name) [
        | inl same ↦ inr (same, put ∙ ap (λ b. cond b (Some v) (get_by_text was q)) (ap (bytes_eq name) same ∙ same_bytes name))
        | inr (apart, apart') ↦ inl (put ∙ ap (λ b. cond b (Some v) (get_by_text was q)) apart')
      ]
