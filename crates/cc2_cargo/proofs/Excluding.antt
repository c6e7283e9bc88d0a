-- Files that are loaded have no fault.
use Rattle.std.proofs.Common.{◌≡◌, ◌+◌, ℕ, zero, suc, length, Bool, true, false, List, [], ◌∷◌, ◌++◌, map, reverse, arith, Option, Some, None, Result, Ok}
use Rattle.std.proofs.Common.{Err, Contains, le_of_suc-le-suc, refl, sym, ap, ◌∙◌, subst, append_assoc, inl, inr}
use Rattle.std.proofs.lemmas.List.{append-nil, map-append}
use Rattle.std.specs.Str.{IsUtf8}
use Rattle.toml.specs.Data.{Members}
use Rattle.toml.specs.Parse.{parse_document}
use Rattle.cc2_error.specs.Causes.{memory, refusal_of}
use Rattle.cc2_error.specs.declared.error.Error.{Error}
use Rattle.cc2_error.specs.declared.error.Shape.{Shape}
use Rattle.cc2_base.specs.Told.{Tree}
use Rattle.cc2_value.specs.Cells.{Origin}
use Rattle.cc2_value.specs.Values.{origin_of}
use Rattle.cc2_cargo.specs.declared.expand.FileFault.{FileFault}
use Rattle.cc2_cargo.specs.declared.expand.FileFault.TheVariants as file_fault
use Rattle.cc2_cargo.specs.declared.include.IncludeFault.{IncludeFault}
use Rattle.cc2_cargo.specs.declared.layer.LayerFault.{LayerFault}
use Rattle.cc2_cargo.specs.declared.layer.LayerFault.TheVariants as layer_fault
use Rattle.cc2_cargo.specs.declared.load.LoadFault.TheVariants as fault
use Rattle.cc2_cargo.specs.Expanding.{absent, file, Expansion, Expansions, no_expansions, expansion, IsExpansion, AreExpansions, expanded_files, files_in}
use Rattle.cc2_cargo.specs.Expanding.{AreExpanded, AreNewAfter, ConfigFile, IsExpandCause, IsFileTable, IsTableFault, IsWanted, LeadsTo, StopsAt, Turn, included_from, is_read, required}
use Rattle.cc2_cargo.specs.Includes.{Include, includes_in}
use Rattle.cc2_cargo.specs.Loads.{AreFaultless, AreFileLayers, HasNoCause, IsLayerCause, IsMixedAmong, IsRawLoad, IsWrongValue, Layer, layer_cells, layer_faults, turned}
use Rattle.cc2_cargo.specs.Merging.{IsRawMapOf, is_command_path, over_at, over_these, raw_joined}
use Rattle.cc2_cargo.specs.Raw.{Path, RawCell}
use Rattle.cc2_cargo.specs.RawReading.{IsWrong}
use Rattle.cc2_cargo.proofs.Reached.{AreParted, parted}

bytes_same : (a b : List ℕ) → Some (Some a) ≡ Some (Some b) → a ≡ b
bytes_same a b e = cc e

pub members_same : (m n : Members) → Some m ≡ Some n → m ≡ n
members_same m n e = cc e

pub none_some : (m : Members) → None ≡ Some m → ⊥
none_some m e = cc e

-- the includes that are listed
abbrev pub listed : Result (List Include) IncludeFault → List Include
listed (Ok is) = is
listed (Err cause) = []

abbrev pub is_listed : Result (List Include) IncludeFault → Bool
is_listed (Ok is) = true
is_listed (Err cause) = false

pub true_false : true ≡ false → ⊥
true_false e = cc e

module _ (fs : Tree) where
  -- a file has one table
  table_same : (path : List ℕ) (ms ns : Members) → IsFileTable fs path ms → IsFileTable fs path ns → ms ≡ ns
  table_same path ms ns s t =
      members_same ms ns (sym s.parsed ∙ ap parse_document (bytes_same s.bytes t.bytes (sym s.at ∙ t.at)) ∙ t.parsed)

  -- an include comes to one thing
  mutual
    pub same_expansion : (i : Include) (t u : Expansion) → IsExpansion fs i t → IsExpansion fs i u → t ≡ u
    same_expansion i (absent j) (absent k) g h = ap absent (g.0 ∙ sym h.0)
    same_expansion i (absent j) (file k ns us) g h = absurd (h.1 g.1.0 g.1.1)
    same_expansion i (file j ms ts) (absent k) g h = absurd (g.1 h.1.0 h.1.1)
    same_expansion i (file j ms ts) (file k ns us) g h =
        let one : ms ≡ ns = table_same i.path ms ns g.2 h.2 in
        let are : g.3.0 ≡ h.3.0 = ap listed (sym g.3.1 ∙ ap includes_in one ∙ h.3.1) in
        let below : ts ≡ us = same_expansions (reverse (map (included_from i.path) g.3.0)) ts us g.3.2
        (subst (λ is. AreExpansions fs (reverse (map (included_from i.path) is)) us) (sym are) h.3.2) in
        let include : j ≡ k = g.0 ∙ sym h.0 in
        (λ x. file (include x) (one x) (below x))

    pub same_expansions : (is : List Include) (ts us : Expansions) → AreExpansions fs is ts → AreExpansions fs is us → ts ≡ us
    same_expansions [] no_expansions no_expansions g h = refl
    same_expansions [] no_expansions (expansion u us) g h = absurd h
    same_expansions [] (expansion t ts) us g h = absurd g
    same_expansions (i ∷ is) no_expansions us g h = absurd g
    same_expansions (i ∷ is) (expansion t ts) no_expansions g h = absurd h
    same_expansions (i ∷ is) (expansion t ts) (expansion u us) g h =
        let first : t ≡ u = same_expansion i t u g.0 h.0 in
        let others : ts ≡ us = same_expansions is ts us g.1 h.1 in
        (λ x. expansion (first x) (others x))

pub regrouped : (a b c d e : List ConfigFile) → a ++ ((b ++ (c ++ d)) ++ e) ≡ (a ++ b) ++ (c ++ (d ++ e))
regrouped a b c d e =
    ap (λ xs. a ++ xs) (append_assoc b (c ++ d) e ∙ ap (λ xs. b ++ xs) (append_assoc c d e)) ∙ sym (append_assoc a b (c ++ (d ++ e)))

-- what turns lead to is in what the include comes to: behind the files that are read before it
pub record IsFoundIn (fs : Tree) (j : Include) (read all : List ConfigFile) : Type 0 where
  pub here : Expansion
  pub is : IsExpansion fs j here
  pub others : List ConfigFile
  pub are : all ≡ read ++ (expanded_files here ++ others)

module _ (fs : Tree) where
  -- the same after one turn
  below_turn : (i : Include) (turn : Turn) (turns : List Turn) (j : Include) (read : List ConfigFile) (k : Include) (ms : Members) (ts : Expansions)
      → (leads : LeadsTo fs i (turn ∷ turns) j read) → IsExpansion fs i (file k ms ts)
      → ((u : Expansion) → IsExpansion fs turn.next u → IsFoundIn fs j leads.2.2.4.0 (expanded_files u)) → IsFoundIn fs j read (expanded_files (file k ms ts))
  below_turn i turn turns j read k ms ts leads is rest_of = go parts.back parts.others parts.files
    where
      before : List Include
      before = leads.2.2.0

      behind : List Include
      behind = leads.2.2.1

      others : List ConfigFile
      others = leads.2.2.4.0

      one : turn.members ≡ ms
      one = table_same fs i.path turn.members ms leads.1 is.2

      same : leads.2.0 ≡ is.3.0
      same = ap listed (sym leads.2.1 ∙ ap includes_in one ∙ is.3.1)

      below : reverse (map (included_from i.path) is.3.0) ≡ before ++ turn.next ∷ behind
      below = ap (λ xs. reverse (map (included_from i.path) xs)) (sym same) ∙ leads.2.2.2

      parts : AreParted fs before (turn.next ∷ behind) ts
      parts = parted fs before (turn.next ∷ behind) ts (subst (λ xs. AreExpansions fs xs ts) below is.3.2)

      front : files_in parts.front ≡ files_in turn.stronger
      front = ap files_in (same_expansions fs before parts.front turn.stronger parts.first leads.2.2.3)

      mine : ConfigFile
      mine = record { path = k.path; members = ms }

      own : ConfigFile
      own = record { path = i.path; members = turn.members }

      same_file : mine ≡ own
      same_file = (λ x. record { path = (is.0 x).path; members = sym one x })

      go : (back : Expansions) → AreExpansions fs (turn.next ∷ behind) back → files_in ts ≡ files_in parts.front ++ files_in back
          → IsFoundIn fs j read (expanded_files (file k ms ts))
      go no_expansions come all = absurd come
      go (expansion u us) come all =
          let rest = rest_of u come.0 in
          let tail = expanded_files rest.here ++ (rest.others ++ files_in us) in
          let whole : files_in ts ≡ (files_in turn.stronger ++ others) ++ tail =
          all ∙ ap (λ ss. ss ++ (expanded_files u ++ files_in us)) front ∙ ap (λ ss. files_in turn.stronger ++ (ss ++ files_in us)) rest.are
          ∙ regrouped (files_in turn.stronger) others (expanded_files rest.here) rest.others (files_in us) in
          record {
            here = rest.here;
            is = rest.is;
            others = rest.others ++ files_in us;
            are = (λ x. same_file x ∷ whole x) ∙ ap (λ ss. ss ++ tail) (sym leads.2.2.4.1);
          }

  pub found : (i : Include) (turns : List Turn) (j : Include) (read : List ConfigFile) (t : Expansion) → LeadsTo fs i turns j read → IsExpansion fs i t
      → IsFoundIn fs j read (expanded_files t)
  found i [] j read t leads is = record {
    here = t;
    is = subst (λ x. IsExpansion fs x t) leads.0 is;
    others = [];
    are = sym (append-nil (expanded_files t)) ∙ ap (λ ss. ss ++ (expanded_files t ++ [])) (sym leads.1);
  }
  found i (turn ∷ turns) j read (absent k) leads is = absurd (leads.0 is.1.0 is.1.1)
  found i (turn ∷ turns) j read (file k ms ts) leads is =
      below_turn i turn turns j read k ms ts leads is (λ u come. found turn.next turns j leads.2.2.4.0 u leads.2.2.4.2 come)

-- no file is among those before it
is_new : (before xs : List ConfigFile) (s : ConfigFile) (ys : List ConfigFile) → AreNewAfter before (xs ++ s ∷ ys) → is_read s.path (before ++ xs) ≡ false
is_new before [] s ys h = subst (λ ss. is_read s.path ss ≡ false) (sym (append-nil before)) h.0
is_new before (x ∷ xs) s ys h = subst (λ ss. is_read s.path ss ≡ false) (append_assoc before (x ∷ []) xs) (is_new (before ++ x ∷ []) xs s ys h.1)

module _ (fs : Tree) where
  no_table_fault : (path : List ℕ) (ms : Members) (why : FileFault) → IsFileTable fs path ms → IsTableFault fs path why → ⊥
  no_table_fault path ms (file_fault.Unreadable p) t h = h.1 t.bytes t.at
  no_table_fault path ms (file_fault.NotText p) t h = h.1.2 (subst (λ bs. IsUtf8 bs) (bytes_same t.bytes h.1.0 (sym t.at ∙ h.1.1)) t.utf8)
  no_table_fault path ms (file_fault.NoToml p message) t h =
      none_some ms (sym h.1.3 ∙ ap parse_document (bytes_same h.1.0 t.bytes (sym h.1.1 ∙ t.at)) ∙ t.parsed)
  no_table_fault path ms (file_fault.Include p cause) t h = h
  no_table_fault path ms (file_fault.Twice p) t h = h
  no_table_fault path ms file_fault.Memory t h = h

  goes_on : (read : List ConfigFile) (j : Include) (ms : Members) (is : List Include) (why : FileFault) → IsFileTable fs j.path ms → includes_in ms ≡ Ok is
      → is_read j.path read ≡ false → StopsAt fs read j why → ⊥
  goes_on read j ms is why t are new (inl h) = no_table_fault j.path ms why t h
  goes_on read j ms is why t are new (inr (inl (p, cause, ns, same, named, at, lists))) =
      true_false (ap is_listed (sym are ∙ ap includes_in (table_same fs j.path ms ns t at) ∙ lists))
  goes_on read j ms is why t are new (inr (inr (p, same, named, twice))) = true_false (sym twice ∙ new)

  -- the reading doesn't stop at an include that comes to something
  pub no_stop : (read : List ConfigFile) (j : Include) (u : Expansion) (others all : List ConfigFile) (why : FileFault) → IsExpansion fs j u
      → all ≡ read ++ (expanded_files u ++ others) → AreNewAfter [] all → IsWanted fs j → StopsAt fs read j why → ⊥
  no_stop read j (absent k) others all why is are new wanted stops = wanted is.1.0 is.1.1
  no_stop read j (file k ms us) others all why is are new wanted stops = goes_on read j ms is.3.0 why is.2 is.3.1 first stops
    where
      s : ConfigFile
      s = record { path = k.path; members = ms }

      first : is_read j.path read ≡ false
      first = subst (λ (i : Include). is_read i.path read ≡ false) is.0
          (is_new [] read s (files_in us ++ others) (subst (λ ss. AreNewAfter [] ss) are new))

  -- a path whose files are read
  pub is_expanded : (path : List ℕ) (files : List ConfigFile) (why : FileFault) → AreExpanded fs path files → IsExpandCause fs path why → ⊥
  is_expanded path files why all cause =
      let f = found fs (required path) cause.turns cause.include cause.read all.0 cause.leads all.1 in
      no_stop cause.read cause.include f.here f.others files why f.is (all.2 ∙ f.are) all.3 cause.wanted cause.stops

  pub own_files : (turn : ℕ) (paths : List (List ℕ)) (layers : List Layer) (path : List ℕ) → AreFileLayers fs turn paths layers → Contains paths path
      → (own : List ConfigFile) × AreExpanded fs path own
  own_files turn [] layers path all (k, lt, at) = absurd (omega (arith, lt))
  own_files turn (p ∷ paths) layers path (first, others, is, own, rest) (zero, lt, at) = (first, subst (λ q. AreExpanded fs q first) at own)
  own_files turn (p ∷ paths) layers path (first, others, is, own, rest) (suc k, lt, at) =
      own_files (turn + length first) paths others path rest (k, le_of_suc-le-suc lt, at)

  pub one_files : (path : List ℕ) (files gs : List ConfigFile) → AreExpanded fs path files → AreExpanded fs path gs → files ≡ gs
  one_files path files gs f g = f.2 ∙ ap expanded_files (same_expansion fs (required path) f.0 g.0 f.1 g.1) ∙ sym g.2

  -- the paths have one list of layers
  pub all_layers : (turn : ℕ) (paths : List (List ℕ)) (layers ls : List Layer) → AreFileLayers fs turn paths layers → AreFileLayers fs turn paths ls → layers ≡ ls
  all_layers turn [] layers ls f g = f ∙ sym g
  all_layers turn (p ∷ paths) layers ls (first, others, is, own, rest) (first', others', is', own', rest') =
      let same : first ≡ first' = one_files p first first' own own' in
      let after : AreFileLayers fs (turn + length first') paths others = subst (λ (ss : List ConfigFile). AreFileLayers fs (turn + length ss) paths others) same rest in
      let more : others ≡ others' = all_layers (turn + length first') paths others others' after rest' in
      is ∙ (λ x. turned false turn (same x) ++ more x) ∙ sym is'

-- each of them has no wrong value
each_faultless : (ss : List Layer) (s : Layer) → AreFaultless ss → Contains ss s → layer_faults s ≡ []
each_faultless [] s all (k, lt, at) = absurd (omega (arith, lt))
each_faultless (t ∷ ss) s all (zero, lt, at) = subst (λ (x : Layer). layer_faults x ≡ []) at all.0
each_faultless (t ∷ ss) s all (suc k, lt, at) = each_faultless ss s all.1 (k, le_of_suc-le-suc lt, at)

no_wrong : (e : Error) → ((refusal_of e).cause ≡ memory → ⊥) → IsWrong [] e → ⊥
no_wrong e other (inl h) = other (ap (λ r. r.cause) h)
no_wrong e other (inr (p, (k, lt, at), h)) = omega (arith, lt)

no_value : (s : Layer) (origin : Origin) (e : Error) → layer_faults s ≡ [] → IsWrongValue s origin e → ⊥
no_value s origin e none wrong = no_wrong e wrong.1 (subst (λ ps. IsWrong ps e) none wrong.2)

-- what doesn't merge with the weaker ones doesn't merge at all
below_refused : (c : Bool) (os ps : List (Option RawCell)) (shapes : Shape × Shape) → raw_joined c ps ≡ Err shapes → raw_joined c (os ++ ps) ≡ Err shapes
below_refused c [] ps shapes h = h
below_refused c (o ∷ os) ps shapes h = ap (over_these c o) (below_refused c os ps shapes h)

err_ok : (shapes : Shape × Shape) (o : Option RawCell) (r : Result (Option RawCell) (Shape × Shape)) → r ≡ Err shapes → r ≡ Ok o → ⊥
err_ok shapes o (Ok a) h g = cc h
err_ok shapes o (Err s) h g = cc g

no_mixed : (ss : List Layer) (look : Path → Option RawCell) (origin : Origin) (e : Error) → IsRawMapOf layer_cells ss look → IsMixedAmong ss origin e → ⊥
no_mixed ss look origin e is m = go m.mixed.1.0 m.mixed.1.1.0 m.mixed.1.1.1
  where
    go : (p : Path) (shapes : Shape × Shape) → over_at (is_command_path p) (layer_cells m.one p) (m.look p) ≡ Err shapes → ⊥
    go p shapes meets = err_ok shapes (look p) (raw_joined c (map f ss)) refused (is p)
      where
        c : Bool
        c = is_command_path p

        f : Layer → Option RawCell
        f x = layer_cells x p

        here : raw_joined c (map f (m.one ∷ m.weaker)) ≡ Err shapes
        here = ap (over_these c (f m.one)) (m.map p) ∙ meets

        refused : raw_joined c (map f ss) ≡ Err shapes
        refused = ap (λ xs. raw_joined c (map f xs)) m.are ∙ ap (raw_joined c) (map-append f m.before (m.one ∷ m.weaker))
            ∙ below_refused c (map f m.before) (map f (m.one ∷ m.weaker)) shapes here

-- layers that merge have no fault, though memory may run out
pub no_layer_cause : (ls : List Layer) (look : Path → Option RawCell) (why : LayerFault) → AreFaultless ls → IsRawMapOf layer_cells ls look → IsLayerCause ls why
    → why ≡ layer_fault.Memory
no_layer_cause ls look layer_fault.Memory faultless is h = refl
no_layer_cause ls look (layer_fault.Value definition e) faultless is (l, there, wrong) =
    absurd (no_value l (origin_of definition) e (each_faultless ls l faultless there) wrong)
no_layer_cause ls look (layer_fault.Mixed definition e) faultless is mixed = absurd (no_mixed ls look (origin_of definition) e is mixed)

-- files that are loaded have no fault, though memory may run out
pub has_no_cause : (fs : Tree) (paths : List (List ℕ)) (look : Path → Option RawCell) → IsRawLoad fs paths look → HasNoCause fs paths
has_no_cause fs paths look load (fault.File why) (inl none) = inl (ap fault.File none)
has_no_cause fs paths look (layers, all, faultless, is) (fault.File why) (inr (path, there, cause)) =
    let own = own_files fs 0 paths layers path all there in
    absurd (is_expanded fs path own.0 why own.1 cause)
has_no_cause fs paths look load (fault.Override text why) h = absurd h
has_no_cause fs paths look load (fault.OverrideInclude text why) h = absurd h
has_no_cause fs paths look (layers, all, faultless, is) (fault.Layer why) (ls, those, cause) =
    let same : layers ≡ ls = all_layers fs 0 paths layers ls all those in
    inr (ap fault.Layer (no_layer_cause ls look why (subst (λ ss. AreFaultless ss) same faultless)
    (subst (λ ss. IsRawMapOf layer_cells ss look) same is) cause))
