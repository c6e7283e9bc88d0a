-- The bytes that are written, part by part.
use Rattle.std.proofs.Common.{◌≡◌, ℕ, ◌+◌, suc, List, [], ◌∷◌, ◌++◌, length, take, arith, refl, sym, ap, subst, ◌∙◌, append_assoc}
use Rattle.std.proofs.Math.Nat.{zero-add}
use Rattle.std.proofs.Math.Seq.{take-append_seam}
use Rattle.std.proofs.lemmas.Grind.{flat_map-append}
use Rattle.std.proofs.lemmas.List.{append-nil}
use Rattle.cc2_ask.specs.Fields.{number_bytes, IsSmall}
use Rattle.cc2_value.specs.Cells.{Key, field, key_text}
use Rattle.cc2_resolved_cells.specs.Bytes.{KeyPrefix, cell_behind, cells_behind}
use Rattle.cc2_resolved_cells.specs.Bytes.{cell_bytes, cells_bytes, key_bytes, keys_bytes, value_bytes}
use Rattle.cc2_resolved_cells.specs.Cells.{ResolvedCell, cells_below, RowPart, cells_of_parts}
use Rattle.cc2_resolved_cells.specs.Short.{AreShortBehind}
use Rattle.cc2_resolved_cells.specs.Values.{written_value}
use Rattle.cc2_resolved_cells.specs.Writers.{key_of_kind, root, with_key, front_of, AreWritten}
use Rattle.cc2_resolved_cells.specs.declared.writer.CellWriter.{CellWriter}
use Rattle.cc2_resolved_cells.specs.declared.writer.KeyKind.{KeyKind}
use Rattle.cc2_resolved_cells.specs.declared.writer.KeyKind.TheVariants as which

-- bytes in five pieces, the third joined to the one before it
shifted : (n f k p v : List ℕ) → n ++ (f ++ ((k ++ p) ++ v)) ≡ n ++ ((f ++ k) ++ (p ++ v))
shifted n f k p v = ap (λ bs. n ++ (f ++ bs)) (append_assoc k p v) ∙ ap (λ bs. n ++ bs) (sym (append_assoc f k (p ++ v)))

deeper : (n m : ℕ) → n + suc m ≡ (n + 1) + m
deeper n m = omega arith

-- cells below a key are behind it
below_behind : (f : KeyPrefix) (k : Key) (cs : List ResolvedCell) → cells_behind f (cells_below k cs) ≡ cells_behind (with_key k f) cs
below_behind f k [] = refl
below_behind f k (c ∷ cs) =
    ap (λ bs. bs ++ cells_behind f (cells_below k cs))
    (ap (λ n. number_bytes n ++ (f.bytes ++ ((key_bytes k ++ keys_bytes c.0) ++ value_bytes (written_value c.1)))) (deeper f.depth (length c.0))
    ∙ shifted (number_bytes ((f.depth + 1) + length c.0)) f.bytes (key_bytes k) (keys_bytes c.0) (value_bytes (written_value c.1)))
    ∙ ap (λ bs. cell_behind (with_key k f) c ++ bs) (below_behind f k cs)

-- nothing is in front at the root
pub at_root : (cs : List ResolvedCell) → cells_behind root cs ≡ cells_bytes cs
at_root [] = refl
at_root (c ∷ cs) =
    ap (λ n. (number_bytes n ++ (keys_bytes c.0 ++ value_bytes (written_value c.1))) ++ cells_behind root cs) (zero-add (length c.0))
    ∙ ap (λ bs. cell_bytes c ++ bs) (at_root cs)

short_both : (d : ℕ) (cs ds : List ResolvedCell) → AreShortBehind d cs → AreShortBehind d ds → AreShortBehind d (cs ++ ds)
short_both d [] ds h g = g
short_both d (c ∷ cs) ds h g = (h.0, h.1, h.2, short_both d cs ds h.3 g)

-- cells that are short behind a key are short below it
short_below : (d : ℕ) (k : Key) (cs : List ResolvedCell) → IsSmall (length (key_text k)) → AreShortBehind (d + 1) cs
    → AreShortBehind d (cells_below k cs)
short_below d k [] small h = tt
short_below d k (c ∷ cs) small h = (subst IsSmall (sym (deeper d (length c.0))) h.0, (small, h.1), h.2, short_below d k cs small h.3)

pub none_written : (w : CellWriter) → AreWritten [] w w
none_written w = record { bytes = sym (append-nil w.bytes.items); front = refl; short = tt }

-- cells, and others after them
pub both_written : (cs ds : List ResolvedCell) (old mid new : CellWriter) → AreWritten cs old mid → AreWritten ds mid new
    → AreWritten (cs ++ ds) old new
both_written cs ds old mid new first second =
    record {
      bytes = second.bytes
          ∙ ap (λ f. mid.bytes.items ++ cells_behind f ds) first.front
          ∙ ap (λ bs. bs ++ cells_behind (front_of old) ds) first.bytes
          ∙ append_assoc old.bytes.items (cells_behind (front_of old) cs) (cells_behind (front_of old) ds)
          ∙ ap (λ bs. old.bytes.items ++ bs) (sym (flat_map-append (cell_behind (front_of old)) cs ds));
      front = second.front ∙ first.front;
      short = short_both old.depth cs ds first.short (subst (λ d. AreShortBehind d ds) (ap (λ f. f.depth) first.front) second.short);
    }

-- the cells are the same
pub same_written : (cs ds : List ResolvedCell) (old new : CellWriter) → cs ≡ ds → AreWritten cs old new → AreWritten ds old new
same_written cs ds old new e h = subst (λ l. AreWritten l old new) e h

abbrev front_with : ℕ → List ℕ → KeyPrefix
front_with n bs = record { depth = n; bytes = bs }

same_front : (d e : ℕ) (xs ys : List ℕ) → d ≡ e → xs ≡ ys → front_with d xs ≡ front_with e ys
same_front d e xs ys h g = ap (λ n. front_with n xs) h ∙ ap (λ bs. front_with e bs) g

-- cells that are written while a key is in front
pub below_written : (k : Key) (cs : List ResolvedCell) (old entered out new : CellWriter) → IsSmall (length (key_text k))
    → entered.bytes.items ≡ old.bytes.items → front_of entered ≡ with_key k (front_of old) → AreWritten cs entered out
    → new.bytes.items ≡ out.bytes.items → new.depth ≡ old.depth → new.path.items ≡ take (length old.path.items) out.path.items
    → AreWritten (cells_below k cs) old new
below_written k cs old entered out new small same front written same' depth path =
    record {
      bytes = same'
          ∙ written.bytes
          ∙ ap (λ bs. bs ++ cells_behind (front_of entered) cs) same
          ∙ ap (λ f. old.bytes.items ++ cells_behind f cs) front
          ∙ ap (λ bs. old.bytes.items ++ bs) (sym (below_behind (front_of old) k cs));
      front = same_front new.depth old.depth new.path.items old.path.items depth
          (path ∙ ap (λ f. take (length old.path.items) f.bytes) (written.front ∙ front) ∙ take-append_seam old.path.items (key_bytes k));
      short = short_below old.depth k cs small (subst (λ d. AreShortBehind d cs) (ap (λ f. f.depth) front) written.short);
    }

-- a row of one part
pub part_written : (key : List ℕ) (cs : List ResolvedCell) (old new : CellWriter) → AreWritten (cells_below (field key) cs) old new
    → AreWritten (cells_of_parts ((key, cs) ∷ [])) old new
part_written key cs old new h =
    same_written (cells_below (field key) cs) (cells_of_parts ((key, cs) ∷ [])) old new (sym (append-nil (cells_below (field key) cs))) h

-- two rows, one after the other
pub rows_written : (xs ys : List RowPart) (old mid new : CellWriter) → AreWritten (cells_of_parts xs) old mid
    → AreWritten (cells_of_parts ys) mid new → AreWritten (cells_of_parts (xs ++ ys)) old new
rows_written xs ys old mid new first second =
    same_written (cells_of_parts xs ++ cells_of_parts ys) (cells_of_parts (xs ++ ys)) old new
    (sym (flat_map-append (λ part. cells_below (field part.0) part.1) xs ys))
    (both_written (cells_of_parts xs) (cells_of_parts ys) old mid new first second)

-- a list that begins with one text of its own
pub list_pushed : (old kind count first new : List ℕ) (n m : ℕ) (text texts : List ℕ) → kind ≡ old ++ 97 ∷ []
    → count ≡ kind ++ number_bytes n → first ≡ count ++ text → n ≡ m → new ≡ first ++ texts → new ≡ old ++ 97 ∷ (number_bytes m ++ (text ++ texts))
list_pushed old kind count first new n m text texts h i j e k =
    k
    ∙ ap (λ bs. bs ++ texts) (j ∙ ap (λ bs. bs ++ text) (i ∙ ap (λ bs. bs ++ number_bytes n) h ∙ ap (λ x. (old ++ 97 ∷ []) ++ number_bytes x) e))
    ∙ regroup old (97 ∷ []) (number_bytes m) text texts
  where
    regroup : (a b c d e : List ℕ) → (((a ++ b) ++ c) ++ d) ++ e ≡ a ++ (b ++ (c ++ (d ++ e)))
    regroup a b c d e = simp append_assoc

-- a key's text is as short as what it is made of
pub key_small : (kind : KeyKind) (text : List ℕ) → IsSmall (length text) → IsSmall (length (key_text (key_of_kind kind text)))
key_small which.Field text h = h
key_small which.Name text h = h
