-- A walk over a configuration's JSON, and what is printed of it.
use Rattle.std.proofs.Common.{◌≡◌, ◌+◌, ◌<◌, ◌++◌, ℕ, suc, Bool, true, false, List, [], ◌∷◌, Option, Some, None, codes, map, reverse, refl, sym, ap, ◌∙◌, subst, arith, append_assoc}
use Rattle.std.proofs.Common.{drop, get_or, length, BTreeMap, String, Global}
use Rattle.std.proofs.Math.Seq.{drop-cons}
use Rattle.std.proofs.lemmas.List.{reverse-append, reverse-reverse, map-append}
use Rattle.std.specs.Prelude.{if◌then◌else◌}
use Rattle.serde_json.specs.Data.{Data, null, boolean, number, string, array, object, Members, no_members, member}
use Rattle.serde_json.specs.Find.{as_object, get}
use Rattle.serde_json.specs.View.{items_view, members_view, view}
use Rattle.serde_json.specs.Written.{has_float, items_have_float, members_have_float}
use Rattle.serde_json.specs.declared.value.Value.{Value}
use Rattle.serde_json.specs.declared.value.Value.TheVariants.{Object}
use Rattle.serde_json.proofs.Views.{view-Object}
use Rattle.cc2_json.specs.AtKey.{is_leaf}
use Rattle.cc2_json.specs.TomlLines.{key_below, toml_line, leaf_text, lines_at, lines_below, own_item_line, own_lines, shown_value, members_in}
use Rattle.cc2_json.specs.TomlPlaces.{AllFree, Free, IsWalked, below_of, lines_of, members_weight, places_of, place_view, weight, weights}
use Rattle.cc2_json.specs.declared.lines.Place.{Place}
use Rattle.cc2_json.proofs.Floats.{get_free, not_first, not_second}
use Rattle.cc2_json.proofs.Members.{none_some, some_same}

-- two and three texts, appended in turn
pub two : (o a v : List ℕ) {x y : List ℕ} → x ≡ o ++ a → y ≡ x ++ v → y ≡ o ++ (a ++ v)
two o a v first second = second ∙ ap (λ z. z ++ v) first ∙ append_assoc o a v

pub three : (o a v b : List ℕ) {x y z : List ℕ} → x ≡ o ++ a → y ≡ x ++ v → z ≡ y ++ b → z ≡ o ++ (a ++ (v ++ b))
three o a v b {x = x} {y = y} first second third =
    two o a (v ++ b) first (third ∙ ap (λ w. w ++ b) second ∙ append_assoc x v b)

object_shown : (origins : Bool) (ms : Members)
    → shown_value origins (object ms) ≡ leaf_text (get (codes "value") (object ms)) (get (codes "origin") (object ms))
object_shown true ms = refl
object_shown false ms = refl

-- an object beside its members `value` and `origin`
pub object_step : (origins : Bool) (json : Value) (m : BTreeMap (String Global) Value) (v o : Option Data) (out next : List ℕ)
    → json ≡ Object m → v ≡ get (codes "value") (view json) → o ≡ get (codes "origin") (view json)
    → (Free v → next ≡ out ++ leaf_text v o) → has_float (view json) ≡ false → next ≡ out ++ shown_value origins (view json)
object_step origins json m v o out next is at_value at_origin written free =
    let d = object (members_view m.entries) in
    let same : view json ≡ d = ap view is ∙ view-Object m in
    written (subst Free (sym at_value) (get_free (codes "value") (view json) free))
    ∙ ap (λ z. out ++ leaf_text z o) (at_value ∙ ap (get (codes "value")) same)
    ∙ ap (λ z. out ++ leaf_text (get (codes "value") d) z) (at_origin ∙ ap (get (codes "origin")) same)
    ∙ ap (λ z. out ++ z) (sym (object_shown origins (members_view m.entries)))
    ∙ ap (λ z. out ++ shown_value origins z) (sym same)

-- the items from a place on are the one there and the others
pub left_over : {A : Type 0} (xs : List A) (n : ℕ) (x : A) → n < length xs → x ≡ get_or xs n x → drop n xs ≡ x ∷ drop (n + 1) xs
left_over {A} xs n x long is =
    let next : suc n ≡ n + 1 = omega arith in
    drop-cons xs n x long ∙ ap (λ (y : A). y ∷ drop (suc n) xs) (sym is) ∙ ap (λ m. x ∷ drop m xs) next

-- an item beside its members `value` and `origin`
pub own_step : (rest more : List Value) (x : Value) (v o : Option Data) (now next whole : List ℕ)
    → rest ≡ x ∷ more
    → (items_have_float (items_view rest) ≡ false) × (now ++ own_lines (items_view rest) ≡ whole)
    → v ≡ get (codes "value") (view x) → o ≡ get (codes "origin") (view x)
    → (Free v → next ≡ now ++ own_item_line v o)
    → (items_have_float (items_view more) ≡ false) × (next ++ own_lines (items_view more) ≡ whole)
own_step rest more x v o now next whole parts before at_value at_origin written =
    let at = subst (λ ys. (items_have_float (items_view ys) ≡ false) × (now ++ own_lines (items_view ys) ≡ whole)) parts before in
    let free = not_first (has_float (view x)) (items_have_float (items_view more)) at.0 in (
      not_second (has_float (view x)) (items_have_float (items_view more)) at.0,
      ap (λ z. z ++ own_lines (items_view more))
          (written (subst Free (sym at_value) (get_free (codes "value") (view x) free))
          ∙ ap (λ z. now ++ own_item_line z o) at_value ∙ ap (λ z. now ++ own_item_line (get (codes "value") (view x)) z) at_origin)
          ∙ append_assoc now (own_item_line (get (codes "value") (view x)) (get (codes "origin") (view x))) (own_lines (items_view more))
          ∙ at.1,
    )

-- ---- what is below a table

below_lines : (origins : Bool) (key : List ℕ) (ms : Members) → lines_of origins (below_of key ms) ≡ lines_below origins key ms
below_lines origins key no_members = refl
below_lines origins key (member name d ms) = ap (λ z. lines_at origins (key_below key name) d ++ z) (below_lines origins key ms)

below_weights : (key : List ℕ) (ms : Members) → weights (below_of key ms) ≡ members_weight ms
below_weights key no_members = refl
below_weights key (member name d ms) = ap (λ n. weight d + n) (below_weights key ms)

below_free : (key : List ℕ) (ms : Members) → members_have_float ms ≡ false → AllFree (below_of key ms)
below_free key no_members h = tt
below_free key (member name d ms) h =
    (not_first (has_float d) (members_have_float ms) h, below_free key ms (not_second (has_float d) (members_have_float ms) h))

lines_append : (origins : Bool) (ps qs : List (List ℕ × Data)) → lines_of origins (ps ++ qs) ≡ lines_of origins ps ++ lines_of origins qs
lines_append origins [] qs = refl
lines_append origins (p ∷ ps) qs =
    ap (λ z. lines_at origins p.0 p.1 ++ z) (lines_append origins ps qs)
    ∙ sym (append_assoc (lines_at origins p.0 p.1) (lines_of origins ps) (lines_of origins qs))

weights_append : (ps qs : List (List ℕ × Data)) → weights (ps ++ qs) ≡ weights ps + weights qs
weights_append [] qs = omega arith
weights_append (p ∷ ps) qs = go (weights_append ps qs)
  where
    go : weights (ps ++ qs) ≡ weights ps + weights qs → weight p.1 + weights (ps ++ qs) ≡ (weight p.1 + weights ps) + weights qs
    go h = omega arith

free_append : (ps qs : List (List ℕ × Data)) → AllFree ps → AllFree qs → AllFree (ps ++ qs)
free_append [] qs h k = k
free_append (p ∷ ps) qs h k = (h.0, free_append ps qs h.1 k)

-- ---- a table, and a value

is_table : (origins : Bool) (d : Data) (ms : Members) → members_in origins d ≡ Some ms → (d ≡ object ms) × (is_leaf origins d ≡ false)
is_table origins d ms h = go (is_leaf origins d) d refl h
  where
    of_object : (e : Data) → as_object e ≡ Some ms → e ≡ object ms
    of_object null k = absurd (none_some ms k)
    of_object (boolean b) k = absurd (none_some ms k)
    of_object (number n) k = absurd (none_some ms k)
    of_object (string s) k = absurd (none_some ms k)
    of_object (array ds) k = absurd (none_some ms k)
    of_object (object ns) k = ap object (some_same ns ms k)

    go : (b : Bool) (e : Data) → is_leaf origins d ≡ b → (if b then None else as_object e) ≡ Some ms → (e ≡ object ms) × (b ≡ false)
    go true e is k = absurd (none_some ms k)
    go false e is k = (of_object e k, refl)

table_lines : (origins : Bool) (key : List ℕ) (ms : Members) → is_leaf origins (object ms) ≡ false
    → lines_at origins key (object ms) ≡ lines_below origins key ms
table_lines origins key ms h = ap (λ b. if b then toml_line origins key (object ms) else lines_below origins key ms) h

object_walked : (origins : Bool) (key : List ℕ) (ms : Members) (ps : List (List ℕ × Data)) (before : List ℕ)
    → is_leaf origins (object ms) ≡ false → IsWalked origins (key, object ms) ps before (below_of key ms ++ ps) before
object_walked origins key ms ps before h = record {
  fewer = smaller (weights_append (below_of key ms) ps) (below_weights key ms);
  free = λ k. free_append (below_of key ms) ps (below_free key ms k.0) k.1;
  lines = λ k. ap (λ z. before ++ z)
      (lines_append origins (below_of key ms) ps
      ∙ ap (λ z. z ++ lines_of origins ps) (below_lines origins key ms ∙ sym (table_lines origins key ms h)));
}
  where
    smaller : weights (below_of key ms ++ ps) ≡ weights (below_of key ms) + weights ps
        → weights (below_of key ms) ≡ members_weight ms
        → weights (below_of key ms ++ ps) < suc (members_weight ms) + weights ps
    smaller a b = omega arith

appended : (left below : List Place) → places_of (left ++ reverse below) ≡ map place_view below ++ places_of left
appended left below =
    ap (map place_view) (reverse-append left (reverse below) ∙ ap (λ z. z ++ reverse left) (reverse-reverse below))
    ∙ map-append place_view below (reverse left)

pub table_walked : (origins : Bool) (key : List ℕ) (d : Data) (ms : Members) (left below : List Place) (before : List ℕ)
    → members_in origins d ≡ Some ms → map place_view below ≡ below_of key ms
    → IsWalked origins (key, d) (places_of left) before (places_of (left ++ reverse below)) before
table_walked origins key d ms left below before is found =
    subst (λ e. IsWalked origins (key, e) (places_of left) before (places_of (left ++ reverse below)) before)
    (sym (is_table origins d ms is).0)
    (subst (λ qs. IsWalked origins (key, object ms) (places_of left) before qs before)
    (sym (appended left below ∙ ap (λ z. z ++ places_of left) found))
    (object_walked origins key ms (places_of left) before
    (subst (λ e. is_leaf origins e ≡ false) (is_table origins d ms is).0 (is_table origins d ms is).1)))

value_lines : (origins : Bool) (key : List ℕ) (d : Data) → members_in origins d ≡ None → lines_at origins key d ≡ toml_line origins key d
value_lines origins key null h = refl
value_lines origins key (boolean b) h = refl
value_lines origins key (number n) h = refl
value_lines origins key (string s) h = refl
value_lines origins key (array ds) h = refl
value_lines origins key (object ms) h = go (is_leaf origins (object ms)) h
  where
    go : (b : Bool) → (if b then None else Some ms) ≡ None
        → (if b then toml_line origins key (object ms) else lines_below origins key ms) ≡ toml_line origins key (object ms)
    go true k = refl
    go false k = absurd (none_some ms (sym k))

some_weight : (d : Data) → 0 < weight d
some_weight null = omega arith
some_weight (boolean b) = omega arith
some_weight (number n) = omega arith
some_weight (string s) = omega arith
some_weight (array ds) = omega arith
some_weight (object ms) = omega arith

pub value_walked : (origins : Bool) (key : List ℕ) (d : Data) (ps : List (List ℕ × Data)) (before after : List ℕ)
    → members_in origins d ≡ None → (has_float d ≡ false → after ≡ before ++ toml_line origins key d)
    → IsWalked origins (key, d) ps before ps after
value_walked origins key d ps before after is written = record {
  fewer = smaller (some_weight d);
  free = λ k. k.1;
  lines = λ k. ap (λ z. z ++ lines_of origins ps) (written k.0 ∙ ap (λ z. before ++ z) (sym (value_lines origins key d is)))
      ∙ append_assoc before (lines_at origins key d) (lines_of origins ps);
}
  where
    smaller : 0 < weight d → weights ps < weight d + weights ps
    smaller h = omega arith
