-- Overrides that are read have no fault, nor what is loaded with them.
use Rattle.std.proofs.Common.{◌≡◌, ◌+◌, true, ℕ, length, List, [], ◌∷◌, ◌++◌, map, reverse, Option, Some, None, refl, sym, ap, ◌∙◌, subst, inl, inr, string_bytes}
use Rattle.toml.specs.Data.{Members}
use Rattle.cc2_base.specs.Paths.{joined}
use Rattle.cc2_base.specs.Told.{Tree}
use Rattle.cc2_cargo.specs.declared.dotted.OverrideFault.{OverrideFault}
use Rattle.cc2_cargo.specs.declared.dotted.OverrideFault.TheVariants as override_fault
use Rattle.cc2_cargo.specs.declared.dotted.Reason.{Reason}
use Rattle.cc2_cargo.specs.declared.expand.FileFault.{FileFault}
use Rattle.cc2_cargo.specs.declared.load.LoadFault.{LoadFault}
use Rattle.cc2_cargo.specs.declared.load.LoadFault.TheVariants as fault
use Rattle.cc2_cargo.specs.Dotted.{IsAccepted, IsOverrideFault, IsRefused, reason_of}
use Rattle.cc2_cargo.specs.Expanding.{Expansions, no_expansions, expansion, AreExpansions, AreIncluded, ConfigFile, IsIncludesCause, expanded_files, files_in, included_in}
use Rattle.cc2_cargo.specs.Includes.{Include, includes_in}
use Rattle.cc2_cargo.specs.Loads.{AreFaultless, Layer, layer_cells, turned}
use Rattle.cc2_cargo.specs.Merging.{IsRawMapOf}
use Rattle.cc2_cargo.specs.Overrides.{AreLayersWith, HasNoCauseWith, IsLoadWith, IsOverrideCause, IsOverridesCause, OverridesRead, ReadsFile, ReadsOverride}
use Rattle.cc2_cargo.specs.Overrides.{ReadsOverrides, ReadsText, none_read, path_of, repeated, text_layer}
use Rattle.cc2_cargo.specs.Raw.{Path, RawCell}
use Rattle.cc2_cargo.proofs.Excluding.{all_layers, found, is_expanded, is_listed, listed, members_same, no_layer_cause, no_stop, none_some}
use Rattle.cc2_cargo.proofs.Excluding.{one_files, own_files, regrouped, same_expansions, true_false}
use Rattle.cc2_cargo.proofs.Reached.{AreParted, parted}

none_path : (p : List ℕ) → None ≡ Some p → ⊥
none_path p e = cc e

none_reason : (r : Reason) → None ≡ Some r → ⊥
none_reason r e = cc e

module _ (fs : Tree) where
  same_included : (next : List Include) (files gs : List ConfigFile) → AreIncluded fs next files → AreIncluded fs next gs → files ≡ gs
  same_included next files gs f g = f.2 ∙ ap files_in (same_expansions fs next f.0 g.0 f.1 g.1) ∙ sym g.2

  -- includes whose files are read
  is_included : (next : List Include) (files : List ConfigFile) (why : FileFault) → AreIncluded fs next files → IsIncludesCause fs next why → ⊥
  is_included next files why all cause = go parts.back parts.others parts.files
    where
      before : List Include
      before = cause.reached.before

      parts : AreParted fs before (cause.reached.via ∷ cause.reached.behind) all.0
      parts = parted fs before (cause.reached.via ∷ cause.reached.behind) all.0 (subst (λ is. AreExpansions fs is all.0) cause.reached.is all.1)

      front : files_in parts.front ≡ files_in cause.reached.stronger
      front = ap files_in (same_expansions fs before parts.front cause.reached.stronger parts.first cause.reached.are)

      go : (back : Expansions) → AreExpansions fs (cause.reached.via ∷ cause.reached.behind) back → files_in all.0 ≡ files_in parts.front ++ files_in back → ⊥
      go no_expansions come are = absurd come
      go (expansion u us) come are =
          let f = found fs cause.reached.via cause.reached.turns cause.include cause.reached.others u cause.reached.leads come.0 in
          let others = f.others ++ files_in us in
          let whole : files ≡ cause.read ++ (expanded_files f.here ++ others) =
          all.2 ∙ are ∙ ap (λ ss. ss ++ (expanded_files u ++ files_in us)) front
          ∙ ap (λ ss. files_in cause.reached.stronger ++ (ss ++ files_in us)) f.are
          ∙ regrouped (files_in cause.reached.stronger) cause.reached.others (expanded_files f.here) f.others (files_in us)
          ∙ ap (λ ss. ss ++ (expanded_files f.here ++ others)) (sym cause.reached.files) in
          no_stop fs cause.read cause.include f.here others files why f.is whole all.3 cause.wanted cause.stops

  module _ (dir text : List ℕ) where
    same_file : (s t u : OverridesRead) → ReadsFile fs (joined dir text) s t → ReadsFile fs (joined dir text) s u → t ≡ u
    same_file s t u f g =
        let files = one_files fs (joined dir text) f.files g.files f.expanded g.expanded in
        f.after ∙ ap (λ ss. record { seen = s.seen ++ map path_of ss; layers = turned true (length s.layers) ss ++ s.layers }) files ∙ sym g.after

    same_members : (ms ns : Members) → IsAccepted text ms → IsAccepted text ns → ms ≡ ns
    same_members ms ns f g = members_same ms ns (sym f.0 ∙ g.0)

    same_text : (s t u : OverridesRead) → ReadsText fs dir text s t → ReadsText fs dir text s u → t ≡ u
    same_text s t u f g =
        let ms : f.members ≡ g.members = same_members f.members g.members f.accepted g.accepted in
        let are : f.includes ≡ g.includes = ap listed (sym f.listed ∙ ap includes_in ms ∙ g.listed) in
        let files : f.files ≡ g.files =
        same_included (reverse (map (included_in dir) g.includes)) f.files g.files
        (subst (λ is. AreIncluded fs (reverse (map (included_in dir) is)) f.files) are f.included) g.included in
        let first = length s.layers in
        f.after
        ∙ (λ x. record { seen = s.seen; layers = (text_layer (first + length (files x)) (ms x) ∷ turned true first (files x)) ++ s.layers })
        ∙ sym g.after

    same_override : (s t u : OverridesRead) → ReadsOverride fs dir text s t → ReadsOverride fs dir text s u → t ≡ u
    same_override s t u (inl f) (inl g) = same_file s t u f.1 g.1
    same_override s t u (inl f) (inr g) = absurd (true_false (sym f.0 ∙ g.0))
    same_override s t u (inr f) (inl g) = absurd (true_false (sym g.0 ∙ f.0))
    same_override s t u (inr f) (inr g) = same_text s t u f.1 g.1

    no_reason : (ms : Members) (r : Reason) → IsAccepted text ms → IsRefused text r → ⊥
    no_reason ms r accepted (ns, parsed, reason) =
        none_reason r (sym accepted.1 ∙ ap (reason_of text) (members_same ms ns (sym accepted.0 ∙ parsed)) ∙ reason)

    no_fault : (ms : Members) (why : OverrideFault) → IsAccepted text ms → IsOverrideFault text why → ⊥
    no_fault ms (override_fault.NoToml message) accepted h = none_some ms (sym h ∙ accepted.0)
    no_fault ms override_fault.NoDottedKey accepted h = no_reason ms _ accepted h
    no_fault ms override_fault.Comment accepted h = no_reason ms _ accepted h
    no_fault ms override_fault.InlineTable accepted h = no_reason ms _ accepted h
    no_fault ms override_fault.Secret accepted h = no_reason ms _ accepted h
    no_fault ms override_fault.Memory accepted h = h

    -- an override that is read has no fault
    no_override_cause : (s t : OverridesRead) (why : LoadFault) → ReadsOverride fs dir text s t → IsOverrideCause fs dir text s why → ⊥
    no_override_cause s t why (inl f) (inr g) = true_false (sym f.0 ∙ g.0)
    no_override_cause s t why (inr f) (inl g) = true_false (sym g.0 ∙ f.0)
    no_override_cause s t (fault.File why) (inl f) (inl (there, inl cause)) = is_expanded fs (joined dir text) f.1.files why f.1.expanded cause
    no_override_cause s t (fault.File why) (inl f) (inl (there, inr (p, gs, is, expanded, again))) =
        none_path (string_bytes p) (sym f.1.new ∙ ap (repeated s.seen) (one_files fs (joined dir text) f.1.files gs f.1.expanded expanded) ∙ again)
    no_override_cause s t (fault.Override p why) (inl f) (inl g) = g.1
    no_override_cause s t (fault.OverrideInclude p why) (inl f) (inl g) = g.1
    no_override_cause s t (fault.Layer why) (inl f) (inl g) = g.1
    no_override_cause s t (fault.File why) (inr f) (inr (absent, (ms, is, accepted, lists, cause))) =
        let same : ms ≡ f.1.members = same_members ms f.1.members accepted f.1.accepted in
        let are : is ≡ f.1.includes = ap listed (sym lists ∙ ap includes_in same ∙ f.1.listed) in
        is_included (reverse (map (included_in dir) f.1.includes)) f.1.files why f.1.included
        (subst (λ js. IsIncludesCause fs (reverse (map (included_in dir) js)) why) are cause)
    no_override_cause s t (fault.Override p why) (inr f) (inr g) = no_fault f.1.members why f.1.accepted g.1.1
    no_override_cause s t (fault.OverrideInclude p why) (inr f) (inr (absent, (named, (ms, accepted, lists)))) =
        true_false (ap is_listed (sym f.1.listed ∙ ap includes_in (same_members f.1.members ms f.1.accepted accepted) ∙ lists))
    no_override_cause s t (fault.Layer why) (inr f) (inr g) = g.1

  module _ (dir : List ℕ) where
    same_overrides : (texts : List (List ℕ)) (s t u : OverridesRead) → ReadsOverrides fs dir texts s t → ReadsOverrides fs dir texts s u → t ≡ u
    same_overrides [] s t u f g = sym f ∙ g
    same_overrides (text ∷ texts) s t u (v, own, rest) (w, own', rest') =
        same_overrides texts w t u (subst (λ x. ReadsOverrides fs dir texts x t) (same_override dir text s v w own own') rest) rest'

    -- what is read before a text, and then it
    at_text : (before : List (List ℕ)) (text : List ℕ) (left : List (List ℕ)) (s t : OverridesRead) → ReadsOverrides fs dir (before ++ text ∷ left) s t
        → (v : OverridesRead) × (w : OverridesRead) × ReadsOverrides fs dir before s v × ReadsOverride fs dir text v w
    at_text [] text left s t (w, own, rest) = (s, w, refl, own)
    at_text (first ∷ before) text left s t (u, own, rest) =
        let (v, w, reads, reads') = at_text before text left u t rest in
        (v, w, (u, own, reads), reads')

    no_overrides_cause : (texts : List (List ℕ)) (t : OverridesRead) (why : LoadFault) → ReadsOverrides fs dir texts none_read t
        → IsOverridesCause fs dir texts why → ⊥
    no_overrides_cause texts t why reads c =
        let (v, w, first, own) = at_text c.before c.text c.left none_read t (subst (λ ps. ReadsOverrides fs dir ps none_read t) c.are reads) in
        let same : v ≡ c.read = same_overrides c.before none_read v c.read first c.reads in
        no_override_cause dir c.text c.read w why (subst (λ x. ReadsOverride fs dir c.text x w) same own) c.cause

    same_layers : (paths texts : List (List ℕ)) (ls ks : List Layer) → AreLayersWith fs dir paths texts ls → AreLayersWith fs dir paths texts ks → ls ≡ ks
    same_layers paths texts ls ks (own, files, is, (t, reads, from), all) (own', files', is', (t', reads', from'), all') =
        let read : t ≡ t' = same_overrides texts none_read t t' reads reads' in
        let first : own ≡ own' = from ∙ ap (λ (x : OverridesRead). x.layers) read ∙ sym from' in
        let others : files ≡ files' = all_layers fs 0 paths files files' all all' in
        is ∙ (λ x. first x ++ others x) ∙ sym is'

    -- what is loaded with overrides has no fault, though memory may run out
    pub has_no_cause_with : (paths texts : List (List ℕ)) (look : Path → Option RawCell) → IsLoadWith fs dir paths texts look → HasNoCauseWith fs dir paths texts
    has_no_cause_with paths texts look load why (inl memory) = memory
    has_no_cause_with paths texts look (ls, (own, files, is, (t, reads, from), all), faultless, map) why (inr (inl cause)) =
        absurd (no_overrides_cause texts t why reads cause)
    has_no_cause_with paths texts look (ls, (own, files, is, layers, all), faultless, map) (fault.File why) (inr (inr (path, there, cause))) =
        let one = own_files fs 0 paths files path all there in
        absurd (is_expanded fs path one.0 why one.1 cause)
    has_no_cause_with paths texts look load (fault.Override p why) (inr (inr h)) = absurd h
    has_no_cause_with paths texts look load (fault.OverrideInclude p why) (inr (inr h)) = absurd h
    has_no_cause_with paths texts look (ls, those, faultless, is) (fault.Layer why) (inr (inr (ks, others, cause))) =
        let same : ls ≡ ks = same_layers paths texts ls ks those others in
        inr (ap fault.Layer (no_layer_cause ks look why (subst (λ xs. AreFaultless xs) same faultless) (subst (λ xs. IsRawMapOf layer_cells xs look) same is) cause))
