-- What is read in turn, as what an include comes to.
use Rattle.std.proofs.Common.{◌≡◌, List, [], ◌∷◌, ◌++◌, map, reverse, refl, sym, ap, ◌∙◌, subst, inl, inr, append_assoc}
use Rattle.std.proofs.lemmas.List.{append-nil}
use Rattle.cc2_base.specs.Told.{Tree}
use Rattle.cc2_cargo.specs.Expanding.{ConfigFile, absent, file, Expansions, no_expansions, expansion, AreExpansions, expanded_files, files_in}
use Rattle.cc2_cargo.specs.Expanding.{AreNewAfter, IsReachedFrom, included_from}
use Rattle.cc2_cargo.specs.Includes.{Include}
use Rattle.cc2_cargo.specs.Readings.{ReadingState, PassesOver, ReadsNext, Reaches}

-- what the first includes come to, and the others
pub record AreParted (fs : Tree) (is js : List Include) (ts : Expansions) : Type 0 where
  pub front : Expansions
  pub back : Expansions
  pub first : AreExpansions fs is front
  pub others : AreExpansions fs js back
  pub files : files_in ts ≡ files_in front ++ files_in back

pub parted : (fs : Tree) (is js : List Include) (ts : Expansions) → AreExpansions fs (is ++ js) ts → AreParted fs is js ts
parted fs [] js ts h = record { front = no_expansions; back = ts; first = tt; others = h; files = refl }
parted fs (i ∷ is) js no_expansions h = absurd h
parted fs (i ∷ is) js (expansion t ts) h =
    let rest = parted fs is js ts h.1 in
    record {
      front = expansion t rest.front;
      back = rest.back;
      first = (h.0, rest.first);
      others = rest.others;
      files = ap (λ ss. expanded_files t ++ ss) rest.files ∙ sym (append_assoc (expanded_files t) (files_in rest.front) (files_in rest.back));
    }

-- what includes come to that are read until none is left
pub record IsAllRead (fs : Tree) (s t : ReadingState) : Type 0 where
  pub expansions : Expansions
  pub are : AreExpansions fs s.next expansions
  pub read : t.read ≡ s.read ++ files_in expansions
  pub new : AreNewAfter s.read (files_in expansions)

module _ (fs : Tree) where
  passed : (s u t : ReadingState) → PassesOver fs s u → IsAllRead fs u t → IsAllRead fs s t
  passed s u t p h =
      let others : u.next ≡ p.others = ap (λ (x : ReadingState). x.next) p.after in
      let same : u.read ≡ s.read = ap (λ (x : ReadingState). x.read) p.after in
      record {
        expansions = expansion (absent p.include) h.expansions;
        are = subst (λ is. AreExpansions fs is (expansion (absent p.include) h.expansions)) (sym p.next)
            ((refl, p.absent), subst (λ is. AreExpansions fs is h.expansions) others h.are);
        read = h.read ∙ ap (λ ss. ss ++ files_in h.expansions) same;
        new = subst (λ ss. AreNewAfter ss (files_in h.expansions)) same h.new;
      }

  went : (s u t : ReadingState) → ReadsNext fs s u → IsAllRead fs u t → IsAllRead fs s t
  went s u t r h =
      let below = reverse (map (included_from r.include.path) r.includes) in
      let f : ConfigFile = record { path = r.include.path; members = r.members } in
      let next : u.next ≡ below ++ r.others = ap (λ (x : ReadingState). x.next) r.after in
      let same : u.read ≡ s.read ++ f ∷ [] = ap (λ (x : ReadingState). x.read) r.after in
      let parts = parted fs below r.others h.expansions (subst (λ is. AreExpansions fs is h.expansions) next h.are) in
      record {
        expansions = expansion (file r.include r.members parts.front) parts.back;
        are = subst (λ is. AreExpansions fs is (expansion (file r.include r.members parts.front) parts.back)) (sym r.next)
            ((refl, r.wanted, r.table, (r.includes, r.listed, parts.first)), parts.others);
        read = h.read ∙ ap (λ ss. ss ++ files_in h.expansions) same ∙ append_assoc s.read (f ∷ []) (files_in h.expansions)
            ∙ ap (λ ss. s.read ++ f ∷ ss) parts.files;
        new = (r.fresh, subst (λ ss. AreNewAfter (s.read ++ f ∷ []) ss) parts.files (subst (λ ss. AreNewAfter ss (files_in h.expansions)) same h.new));
      }

  pub all_read : (s : ReadingState) (us : List ReadingState) (t : ReadingState) → Reaches fs s us t → t.next ≡ [] → IsAllRead fs s t
  all_read s [] t same none = record {
    expansions = no_expansions;
    are = subst (λ is. AreExpansions fs is no_expansions) (sym (ap (λ (x : ReadingState). x.next) same ∙ none)) tt;
    read = sym (ap (λ (x : ReadingState). x.read) same) ∙ sym (append-nil s.read);
    new = tt;
  }
  all_read s (u ∷ us) t (inl p, rest) none = passed s u t p (all_read u us t rest none)
  all_read s (u ∷ us) t (inr r, rest) none = went s u t r (all_read u us t rest none)

-- a place in a list, in its first part or in the others
pub data IsPlacedIn (xs ys front : List Include) (x : Include) (back : List Include) : Type 0 where
  in_first : (rest : List Include) → xs ≡ front ++ x ∷ rest → IsPlacedIn xs ys front x back
  in_others : (rest : List Include) → front ≡ xs ++ rest → ys ≡ rest ++ x ∷ back → IsPlacedIn xs ys front x back

placed : (xs ys front : List Include) (x : Include) (back : List Include) → xs ++ ys ≡ front ++ x ∷ back → IsPlacedIn xs ys front x back
placed [] ys front x back h = in_others front refl h
placed (y ∷ xs) ys [] x back h = in_first xs (ap (λ z. z ∷ xs) (heads h))
  where
    heads : (y ∷ (xs ++ ys)) ≡ x ∷ back → y ≡ x
    heads e = cc
placed (y ∷ xs) ys (z ∷ front) x back h = more (placed xs ys front x back (tails h))
  where
    tails : (y ∷ (xs ++ ys)) ≡ z ∷ (front ++ x ∷ back) → xs ++ ys ≡ front ++ x ∷ back
    tails e = cc

    heads : (y ∷ (xs ++ ys)) ≡ z ∷ (front ++ x ∷ back) → y ≡ z
    heads e = cc

    more : IsPlacedIn xs ys front x back → IsPlacedIn (y ∷ xs) ys (z ∷ front) x back
    more (in_first rest is) = in_first rest (ap (λ w. w ∷ xs) (heads h) ∙ ap (λ ws. z ∷ ws) is)
    more (in_others rest is others) = in_others rest (ap (λ w. w ∷ front) (sym (heads h)) ∙ ap (λ ws. y ∷ ws) is) others

-- and how many files are read from a state on
pub record Comes (fs : Tree) (s t : ReadingState) (j : Include) : Type 0 where
  pub more : List ConfigFile
  pub read : t.read ≡ s.read ++ more
  pub reached : IsReachedFrom fs s.next more j

module _ (fs : Tree) (j : Include) where
  passed_over : (s u t : ReadingState) → PassesOver fs s u → Comes fs u t j → Comes fs s t j
  passed_over s u t p h =
      let others : u.next ≡ p.others = ap (λ (x : ReadingState). x.next) p.after in
      let same : u.read ≡ s.read = ap (λ (x : ReadingState). x.read) p.after in
      let r = h.reached in
      record {
        more = h.more;
        read = h.read ∙ ap (λ ss. ss ++ h.more) same;
        reached = record {
          before = p.include ∷ r.before;
          via = r.via;
          behind = r.behind;
          is = p.next ∙ ap (λ is. p.include ∷ is) (sym others ∙ r.is);
          stronger = expansion (absent p.include) r.stronger;
          are = ((refl, p.absent), r.are);
          turns = r.turns;
          others = r.others;
          files = r.files;
          leads = r.leads;
        };
      }

  read_before : (s u t : ReadingState) → ReadsNext fs s u → Comes fs u t j → Comes fs s t j
  read_before s u t r h =
      let f : ConfigFile = record { path = r.include.path; members = r.members } in
      let same : u.read ≡ s.read ++ f ∷ [] = ap (λ (x : ReadingState). x.read) r.after in
      record {
        more = f ∷ h.more;
        read = h.read ∙ ap (λ ss. ss ++ h.more) same ∙ append_assoc s.read (f ∷ []) h.more;
        reached = go (placed below r.others h.reached.before h.reached.via h.reached.behind
            (sym (ap (λ (x : ReadingState). x.next) r.after) ∙ h.reached.is));
      }
    where
      below : List Include
      below = reverse (map (included_from r.include.path) r.includes)

      go : IsPlacedIn below r.others h.reached.before h.reached.via h.reached.behind
          → IsReachedFrom fs s.next (record { path = r.include.path; members = r.members } ∷ h.more) j
      go (in_first rest is) = record {
        before = [];
        via = r.include;
        behind = r.others;
        is = r.next;
        stronger = no_expansions;
        are = tt;
        turns = record { members = r.members; stronger = h.reached.stronger; next = h.reached.via } ∷ h.reached.turns;
        others = record { path = r.include.path; members = r.members } ∷ h.more;
        files = refl;
        leads = (
          r.wanted,
          r.table,
          (
            r.includes,
            r.listed,
            (
              h.reached.before,
              rest,
              is,
              h.reached.are,
              (h.reached.others, ap (λ ss. record { path = r.include.path; members = r.members } ∷ ss) h.reached.files, h.reached.leads),
            ),
          ),
        );
      }
      go (in_others rest is others) =
          let parts = parted fs below rest h.reached.stronger (subst (λ is. AreExpansions fs is h.reached.stronger) is h.reached.are) in
          let f : ConfigFile = record { path = r.include.path; members = r.members } in
          record {
            before = r.include ∷ rest;
            via = h.reached.via;
            behind = h.reached.behind;
            is = r.next ∙ ap (λ is. r.include ∷ is) others;
            stronger = expansion (file r.include r.members parts.front) parts.back;
            are = ((refl, r.wanted, r.table, (r.includes, r.listed, parts.first)), parts.others);
            turns = h.reached.turns;
            others = h.reached.others;
            files = ap (λ ss. f ∷ ss) (h.reached.files ∙ ap (λ ss. ss ++ h.reached.others) parts.files);
            leads = h.reached.leads;
          }

  pub comes : (s : ReadingState) (us : List ReadingState) (t : ReadingState) (rest : List Include) → Reaches fs s us t → t.next ≡ j ∷ rest → Comes fs s t j
  comes s [] t rest same next = record {
    more = [];
    read = sym (ap (λ (x : ReadingState). x.read) same) ∙ sym (append-nil s.read);
    reached = record {
      before = [];
      via = j;
      behind = rest;
      is = ap (λ (x : ReadingState). x.next) same ∙ next;
      stronger = no_expansions;
      are = tt;
      turns = [];
      others = [];
      files = refl;
      leads = (refl, refl);
    };
  }
  comes s (u ∷ us) t rest (inl p, reaches) next = passed_over s u t p (comes u us t rest reaches next)
  comes s (u ∷ us) t rest (inr r, reaches) next = read_before s u t r (comes u us t rest reaches next)
