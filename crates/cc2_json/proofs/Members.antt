-- Members in the order of their keys, and what is found among them.
use Rattle.std.proofs.Common.{◌≡◌, ℕ, List, Option, Some, None, Ordering, Less, Equal, Greater, nat_cmp, is_eq, refl, sym, ap, ◌∙◌, subst}
use Rattle.std.proofs.lemmas.Cmp.{nat_list_cmp_total, tied_itself}
use Rattle.std.proofs.lemmas.Map.Text.{is_eq-slice_cmp}
use Rattle.std.proofs.lemmas.Slice.Eq.{bytes_eq-Decides}
use Rattle.std.specs.Cmp.Lexicographic.{slice_cmp}
use Rattle.std.specs.Ordering.{match_ordering, ordering_reverse}
use Rattle.serde_json.specs.Data.{Data, Members, no_members, member, put}
use Rattle.serde_json.specs.Find.{get_member}
use Rattle.cc2_json.specs.Reader.{ComesBefore, AreInOrder}

abbrev pub cmp : List ℕ → List ℕ → Ordering
cmp k l = slice_cmp nat_cmp k l

pub same_at : (k : List ℕ) → cmp k k ≡ Equal
same_at k = tied_itself nat_list_cmp_total k

pub equal_texts : (k l : List ℕ) → cmp k l ≡ Equal → k ≡ l
equal_texts k l is = (bytes_eq-Decides k l).0 (sym (is_eq-slice_cmp k l) ∙ ap is_eq is)

below_all : (k l : List ℕ) (ms : Members) → cmp k l ≡ Less → ComesBefore l ms → ComesBefore k ms
below_all k l no_members h all = tt
below_all k l (member m e ms) h all = (nat_list_cmp_total.trans k l m h all.0, below_all k l ms h all.1)

less_of_greater : (k l : List ℕ) → cmp k l ≡ Greater → cmp l k ≡ Less
less_of_greater k l h = nat_list_cmp_total.antisymm l k ∙ ap ordering_reverse h

put_below : (j k : List ℕ) (d : Data) (ms : Members) → cmp j k ≡ Less → ComesBefore j ms → ComesBefore j (put k d ms)
put_below j k d no_members h all = (h, tt)
put_below j k d (member l e ms) h all = go (cmp k l) (put_below j k d ms h all.1)
  where
    go : (o : Ordering) → ComesBefore j (put k d ms) → ComesBefore j (match_ordering o (member k d (member l e ms)) (member l d ms) (member l e (put k d ms)))
    go Less later = (h, all)
    go Equal later = all
    go Greater later = (all.0, later)

pub put_ordered : (k : List ℕ) (d : Data) (ms : Members) → AreInOrder ms → AreInOrder (put k d ms)
put_ordered k d no_members all = (tt, tt)
put_ordered k d (member l e ms) all = go (cmp k l) refl (put_ordered k d ms all.1)
  where
    go : (o : Ordering) → cmp k l ≡ o → AreInOrder (put k d ms) → AreInOrder (match_ordering o (member k d (member l e ms)) (member l d ms) (member l e (put k d ms)))
    go Less is later = ((is, below_all k l ms is all.0), all)
    go Equal is later = all
    go Greater is later = (put_below l k d ms (less_of_greater k l is) all.0, later)

-- a key below all isn't among them
pub below_lacks : (k : List ℕ) (ms : Members) → ComesBefore k ms → get_member k ms ≡ None
below_lacks k no_members all = refl
below_lacks k (member l e ms) all = ap (λ o. match_ordering o (get_member k ms) (Some e) (get_member k ms)) all.0 ∙ below_lacks k ms all.1

pub first_found : (k : List ℕ) (d : Data) (ms : Members) → get_member k (member k d ms) ≡ Some d
first_found k d ms = ap (λ o. match_ordering o (get_member k ms) (Some d) (get_member k ms)) (same_at k)

pub none_some : {A : Type 0} (a : A) → None ≡ Some a → ⊥
none_some {A} a e = let P : Option A → Type 0 = λ o. elim o [ None ↦ Unit {0} | Some b ↦ ⊥ ] in subst P e tt

pub some_same : {A : Type 0} (a b : A) → Some a ≡ Some b → a ≡ b
some_same {A} a b e = ap (λ o. elim o [ None ↦ a | Some c ↦ c ]) e

pub skips : (q k : List ℕ) (d : Data) (ms : Members) → cmp q k ≡ Less → get_member q (member k d ms) ≡ get_member q ms
skips q k d ms h = ap (λ o. match_ordering o (get_member q ms) (Some d) (get_member q ms)) h

pub skips_above : (q k : List ℕ) (d : Data) (ms : Members) → cmp q k ≡ Greater → get_member q (member k d ms) ≡ get_member q ms
skips_above q k d ms h = ap (λ o. match_ordering o (get_member q ms) (Some d) (get_member q ms)) h

-- members in which nothing is found are none
pub none_found : (ms : Members) → ((q : List ℕ) → get_member q ms ≡ None) → ms ≡ no_members
none_found no_members h = refl
none_found (member k d ms) h = absurd (none_some d (sym (h k) ∙ first_found k d ms))

-- the tail finds what the whole finds
tails : (k : List ℕ) (d e : Data) (ms ns : Members) → ComesBefore k ms → ComesBefore k ns
    → ((q : List ℕ) → get_member q (member k d ms) ≡ get_member q (member k e ns)) → (q : List ℕ) → get_member q ms ≡ get_member q ns
tails k d e ms ns a b h q = go (cmp q k) refl
  where
    go : (o : Ordering) → cmp q k ≡ o → get_member q ms ≡ get_member q ns
    go Less is = sym (skips q k d ms is) ∙ h q ∙ skips q k e ns is
    go Equal is = ap (λ r. get_member r ms) (equal_texts q k is) ∙ below_lacks k ms a ∙ sym (below_lacks k ns b) ∙ sym (ap (λ r. get_member r ns) (equal_texts q k is))
    go Greater is = sym (skips_above q k d ms is) ∙ h q ∙ skips_above q k e ns is

-- members in order in which the same is found are the same
pub same_found : (ms ns : Members) → AreInOrder ms → AreInOrder ns → ((q : List ℕ) → get_member q ms ≡ get_member q ns) → ms ≡ ns
same_found no_members ns a b h = sym (none_found ns (λ q. sym (h q)))
same_found (member k d ms) no_members a b h = absurd (none_some d (sym (h k) ∙ first_found k d ms))
same_found (member k d ms) (member l e ns) a b h = go (same_found ms ns a.1 b.1) (cmp k l) refl
  where
    go : (((q : List ℕ) → get_member q ms ≡ get_member q ns) → ms ≡ ns) → (o : Ordering) → cmp k l ≡ o → member k d ms ≡ member l e ns
    go rest Less is = absurd (none_some d (sym (sym (first_found k d ms) ∙ h k ∙ skips k l e ns is ∙ below_lacks k ns (below_all k l ns is b.0))))
    go rest Greater is =
        let lt = less_of_greater k l is in
        absurd (none_some e (sym (sym (first_found l e ns) ∙ sym (h l) ∙ skips l k d ms lt ∙ below_lacks l ms (below_all l k ms lt a.0))))
    go rest Equal is =
        let same : k ≡ l = equal_texts k l is in
        let here : (q : List ℕ) → get_member q (member k d ms) ≡ get_member q (member k e ns) = λ q. h q ∙ sym (ap (λ r. get_member q (member r e ns)) same) in
        let data_same : d ≡ e = some_same d e (sym (first_found k d ms) ∙ here k ∙ first_found k e ns) in
        let below : ComesBefore k ns = subst (λ r. ComesBefore r ns) (sym same) b.0 in
        let tail : ms ≡ ns = rest (tails k d e ms ns a.0 below here) in
        ap (λ r. member r d ms) same ∙ ap (λ x. member l x ms) data_same ∙ ap (member l e) tail
