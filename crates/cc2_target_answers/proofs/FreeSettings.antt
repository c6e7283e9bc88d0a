-- The settings of a target have no float.
use Rattle.std.proofs.Common.{◌≡◌, ◌||◌, ℕ, Bool, true, false, List, [], ◌∷◌, map, Option, Some, None, option_map, codes, Ordering, Less, Equal, Greater, true≢false, refl}
use Rattle.std.specs.Cmp.Lexicographic.{slice_cmp}
use Rattle.std.specs.Ordering.{nat_cmp, match_ordering}
use Rattle.serde_json.specs.Data.{Data, string, Members, no_members, member, put}
use Rattle.serde_json.specs.View.{items_of}
use Rattle.serde_json.specs.Written.{has_float, items_have_float, members_have_float}
use Rattle.cc2_value.specs.Cells as cell
use Rattle.cc2_value.specs.Cells.{Payload}
use Rattle.cc2_resolved.specs.Answers.{Answer}
use Rattle.cc2_resolved.specs.Answers as answer
use Rattle.cc2_resolved.specs.TargetConfigs.{TargetAnswer}
use Rattle.cc2_target_answers.specs.Settings.{answer_data, put_some, settings_data, single_data}

pub either_free : (a b : Bool) → a ≡ false → b ≡ false → (a || b) ≡ false
either_free false b h k = k
either_free true b h k = absurd (true≢false h)

first_free : (a b : Bool) → (a || b) ≡ false → a ≡ false
first_free false b h = refl
first_free true b h = absurd (true≢false h)

second_free : (a b : Bool) → (a || b) ≡ false → b ≡ false
second_free false b h = h
second_free true b h = absurd (true≢false h)

-- a value put among members
pub put_free : (k : List ℕ) (d : Data) (ms : Members) → has_float d ≡ false → members_have_float ms ≡ false → members_have_float (put k d ms) ≡ false
put_free k d no_members h all = either_free (has_float d) false h refl
put_free k d (member l e ms) h all = go (put_free k d ms h (second_free (has_float e) (members_have_float ms) all)) (slice_cmp nat_cmp k l)
  where
    go : members_have_float (put k d ms) ≡ false → (o : Ordering)
        → members_have_float (match_ordering o (member k d (member l e ms)) (member l d ms) (member l e (put k d ms))) ≡ false
    go later Less = either_free (has_float d) (members_have_float (member l e ms)) h all
    go later Equal = either_free (has_float d) (members_have_float ms) h (second_free (has_float e) (members_have_float ms) all)
    go later Greater = either_free (has_float e) (members_have_float (put k d ms)) (first_free (has_float e) (members_have_float ms) all) later

strings_free : (ts : List (List ℕ)) → items_have_float (items_of (map string ts)) ≡ false
strings_free [] = refl
strings_free (t ∷ ts) = strings_free ts

single_free : (p : Payload) → has_float (single_data p) ≡ false
single_free (cell.number z) = refl
single_free (cell.truth b) = refl
single_free (cell.word text) = refl
single_free (cell.command is_array path args) = refl
single_free (cell.provider is_array p) = refl

answer_free : (a : Answer) → has_float (answer_data a) ≡ false
answer_free (answer.single p) = single_free p
answer_free (answer.texts list) = strings_free list
answer_free (answer.command c) = strings_free (c.program ∷ c.args)
answer_free (answer.provider p) = refl
answer_free (answer.providers ps) = refl
answer_free (answer.targets ts) = refl
answer_free answer.entry = refl
answer_free (answer.variable v) = refl

some_free : (k : List ℕ) (o : Option Answer) (ms : Members) → members_have_float ms ≡ false
    → members_have_float (put_some k (option_map answer_data o) ms) ≡ false
some_free k None ms h = h
some_free k (Some a) ms h = put_free k (answer_data a) ms (answer_free a) h

pub settings_free : (a : TargetAnswer) → has_float (settings_data a) ≡ false
settings_free a =
    some_free (codes "rustdocflags") a.rustdocflags _
    (some_free (codes "rustflags") a.rustflags _
    (some_free (codes "runner") a.runner _
    (some_free (codes "linker") a.linker no_members refl)))
