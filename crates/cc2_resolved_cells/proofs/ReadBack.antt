-- Cells are read back from their bytes.
use Rattle.std.proofs.Common.{◌≡◌, ℕ, suc, ℤ, pos, negsuc, nat_abs, Bool, true, false, List, [], ◌∷◌, ◌++◌, length}
use Rattle.std.proofs.Common.{arith, refl, sym, ap, subst, ◌∙◌, append_assoc}
use Rattle.std.proofs.lemmas.Bool.Decides.{nat_tests}
use Rattle.std.specs.Prelude.{int_lt}
use Rattle.cc2_ask.specs.Fields.{number_at, field_at, number_bytes, field_bytes, list_bytes, IsSmall, IsShortList}
use Rattle.cc2_ask.specs.Written.{IsReadAs, AreReadAs, listed_at, both_at}
use Rattle.cc2_ask.proofs.Written.{number_back, field_back, list_back, both_read, made_read, listed_read, all_read}
use Rattle.cc2_resolved.specs.Variables.{Variable}
use Rattle.cc2_value.specs.Cells.{Key, field, name, KeyPath, key_text}
use Rattle.cc2_resolved_cells.specs.Bytes.{truth_byte, integer_bytes, item_bytes, items_bytes, variable_bytes, value_bytes}
use Rattle.cc2_resolved_cells.specs.Bytes.{key_bytes, keys_bytes, cell_bytes, cells_bytes, cells_behind}
use Rattle.cc2_resolved_cells.specs.Cells.{ResolvedCell}
use Rattle.cc2_resolved_cells.specs.Reading.{truth_at, signed, integer_at, item_at, marked_variable, variable_at, cell_value_at}
use Rattle.cc2_resolved_cells.specs.Reading.{key_at, cell_at, cells_of, paths_and_values, AreBytesOf}
use Rattle.cc2_resolved_cells.specs.Short.{IsShortItem, AreShortItems, IsShortValue, AreShortKeys, AreShortBehind}
use Rattle.cc2_resolved_cells.specs.Values.{ValueItem, text, list, Value, number, truth, one, several, place, variable, written_value}
use Rattle.cc2_resolved_cells.specs.Writers.{root, front_of, AreWritten}
use Rattle.cc2_resolved_cells.specs.declared.writer.CellWriter.{CellWriter}
use Rattle.cc2_resolved_cells.proofs.Written.{at_root}

truth_back : (b : Bool) → IsReadAs truth_at (truth_byte b ∷ []) b
truth_back true rest = refl
truth_back false rest = refl

signed_back : (b : Bool) (n : ℕ) → IsSmall n → IsReadAs integer_at (truth_byte b ∷ number_bytes n) (signed (b, n))
signed_back b n small =
    made_read signed (both_at truth_at number_at) (truth_byte b ∷ number_bytes n) (b, n)
    (both_read truth_at number_at (truth_byte b ∷ []) (number_bytes n) b n (truth_back b) (number_back n small))

not_below : (n : ℕ) → int_lt (pos n) (pos 0) ≡ false
not_below n = grind (arith, nat_tests)

integer_back : (z : ℤ) → IsSmall (nat_abs z) → IsReadAs integer_at (integer_bytes z) z
integer_back (pos n) small rest =
    ap (λ b. integer_at (truth_byte b ∷ (number_bytes n ++ rest))) (not_below n) ∙ signed_back false n small rest
integer_back (negsuc n) small rest = signed_back true (suc n) small rest

text_back : (t : List ℕ) → IsSmall (length t) → IsReadAs item_at (item_bytes (text t)) (text t)
text_back t short = made_read text field_at (field_bytes t) t (field_back t short)

texts_back : (ts : List (List ℕ)) → IsShortList ts → IsReadAs item_at (item_bytes (list ts)) (list ts)
texts_back ts short = made_read list (listed_at field_at) (list_bytes ts) ts (list_back ts short)

item_back : (item : ValueItem) → IsShortItem item → IsReadAs item_at (item_bytes item) item
item_back (text t) short = text_back t short
item_back (list ts) short = texts_back ts short

items_back : (items : List ValueItem) → AreShortItems items → AreReadAs item_at items (items_bytes items)
items_back [] short = refl
items_back (item ∷ items) short =
    (item_bytes item, items_bytes items, refl, item_back item short.0, items_back items short.1)

several_back : (items : List ValueItem) → IsShortValue (several items)
    → IsReadAs (listed_at item_at) (number_bytes (length items) ++ items_bytes items) items
several_back items short =
    listed_read item_at items (number_bytes (length items)) (items_bytes items) (number_back (length items) short.0)
    (items_back items short.1)

variable_back : (v : Variable) → IsSmall (length v.value) → IsReadAs variable_at (variable_bytes v) v
variable_back v small =
    let marks = truth_byte v.force ∷ truth_byte v.relative ∷ [] in
    let two = both_at truth_at truth_at in
    made_read marked_variable (both_at field_at two) (field_bytes v.value ++ marks) (v.value, (v.force, v.relative))
    (both_read field_at two (field_bytes v.value) marks v.value (v.force, v.relative) (field_back v.value small)
    (both_read truth_at truth_at (truth_byte v.force ∷ []) (truth_byte v.relative ∷ []) v.force v.relative
    (truth_back v.force) (truth_back v.relative)))

value_back : (v : Value) → IsShortValue v → IsReadAs cell_value_at (value_bytes v) v
value_back (number z) short rest = made_read number integer_at (integer_bytes z) z (integer_back z short) rest
value_back (truth b) short rest = made_read truth truth_at (truth_byte b ∷ []) b (truth_back b) rest
value_back (one (text t)) short rest = made_read one item_at (item_bytes (text t)) (text t) (text_back t short) rest
value_back (one (list ts)) short rest = made_read one item_at (item_bytes (list ts)) (list ts) (texts_back ts short) rest
value_back (several items) short rest =
    made_read several (listed_at item_at) (number_bytes (length items) ++ items_bytes items) items (several_back items short) rest
value_back place short rest = refl
value_back (variable v) short rest = made_read variable variable_at (variable_bytes v) v (variable_back v short) rest

key_back : (k : Key) → IsSmall (length (key_text k)) → IsReadAs key_at (key_bytes k) k
key_back (field t) short = made_read field field_at (field_bytes t) t (field_back t short)
key_back (name t) short = made_read name field_at (field_bytes t) t (field_back t short)

keys_back : (p : KeyPath) → AreShortKeys p → AreReadAs key_at p (keys_bytes p)
keys_back [] short = refl
keys_back (k ∷ p) short = (key_bytes k, keys_bytes p, refl, key_back k short.0, keys_back p short.1)

path_back : (p : KeyPath) → IsSmall (length p) → AreShortKeys p
    → IsReadAs (listed_at key_at) (number_bytes (length p) ++ keys_bytes p) p
path_back p small short =
    listed_read key_at p (number_bytes (length p)) (keys_bytes p) (number_back (length p) small) (keys_back p short)

cell_back : (c : ResolvedCell) → IsSmall (length c.0) → AreShortKeys c.0 → IsShortValue (written_value c.1)
    → IsReadAs cell_at (cell_bytes c) (c.0, written_value c.1)
cell_back c small keys value rest =
    let count = number_bytes (length c.0) in
    let content = value_bytes (written_value c.1) in
    ap (λ bs. cell_at (bs ++ rest)) (sym (append_assoc count (keys_bytes c.0) content))
    ∙ both_read (listed_at key_at) cell_value_at (count ++ keys_bytes c.0) content c.0 (written_value c.1)
    (path_back c.0 small keys) (value_back (written_value c.1) value) rest

cells_back : (cs : List ResolvedCell) → AreShortBehind 0 cs → AreReadAs cell_at (paths_and_values cs) (cells_bytes cs)
cells_back [] short = refl
cells_back (c ∷ cs) short =
    let here = cell_back c (omega (arith, short.0)) short.1 short.2 in
    (cell_bytes c, cells_bytes cs, refl, here, cells_back cs short.3)

-- bytes of short cells are read back
read_back : (cs : List ResolvedCell) (bytes : List ℕ) → AreShortBehind 0 cs → bytes ≡ cells_bytes cs → AreBytesOf cs bytes
read_back cs bytes short is = record {
  are = is;
  read = ap cells_of is ∙ all_read cell_at refl (paths_and_values cs) (cells_bytes cs) (cells_back cs short);
}

-- bytes that were written from the start
pub all_written : (cs : List ResolvedCell) (start end : CellWriter) (bytes : List ℕ) → start.bytes.items ≡ []
    → front_of start ≡ root → AreWritten cs start end → bytes ≡ end.bytes.items → AreBytesOf cs bytes
all_written cs start end bytes empty front written is =
    read_back cs bytes (subst (λ d. AreShortBehind d cs) (ap (λ f. f.depth) front) written.short)
    (is
    ∙ written.bytes
    ∙ ap (λ bs. bs ++ cells_behind (front_of start) cs) empty
    ∙ ap (λ f. cells_behind f cs) front
    ∙ at_root cs)
