-- Loading files.
use Rattle.std.proofs.Common.{◌≡◌, ◌⊎◌, ℕ, zero, suc, ◌+◌, List, [], ◌∷◌, ◌++◌, take, drop, Contains, Option, Some, None, Result, Ok, Err, refl, sym, ap, subst, ◌∙◌, append_assoc, inl, inr, arith}
use Rattle.std.proofs.lemmas.List.{take-append-drop}
use Rattle.std.proofs.lemmas.List.Elements.{filter_map-append}
use Rattle.std.specs.List.{cons_option}
use Rattle.std.specs.Str.{IsUtf8}
use Rattle.toml.specs.Data.{Members}
use Rattle.toml.specs.Parse.{parse_document}
use Rattle.cc2_error.specs.declared.error.Error.{Error}
use Rattle.cc2_error.specs.declared.error.Shape.{Shape}
use Rattle.cc2_error.specs.Causes.{memory, Refusal, refusal_of, plain, in_context}
use Rattle.cc2_base.specs.Told.{Tree}
use Rattle.cc2_value.specs.Cells.{Cell, KeyPath, joined, cells_at, IsMapOf, IsPointwise}
use Rattle.cc2_value.specs.JoinedLaws.{joined_alone, mixed_before}
use Rattle.cc2_value.specs.Places.{IsMixedFrom}
use Rattle.cc2_value.specs.Ways.{Flaw}
use Rattle.cc2_de.specs.declared.config.Config.{Config}
use Rattle.cc2_de.specs.Config.{config_at, config_faults}
use Rattle.cc2_de.specs.ConfigFile.{IsConfig, IsFileCause, file_at}
use Rattle.cc2_de.specs.Contexts.{merge_line, IsToldIn}
use Rattle.cc2_de.specs.LoadedFiles.{IsOfFile, AreOfFiles}
use Rattle.cc2_de.specs.LoadCauses.{AreConfigs, IsMergeCause, IsCauseAmong, IsLoadCause}
use Rattle.cc2_de.specs.LoadFrom.{IsLoad}

module _ (fs : Tree) where
  cause_among : (front : List (List ℕ)) (path : List ℕ) (others : List (List ℕ)) (r : Refusal) → IsFileCause fs path r → IsCauseAmong fs (front ++ path ∷ others) r
  cause_among [] path others r h = inl h
  cause_among (first ∷ front) path others r h = inr (cause_among front path others r h)

  some_same : {A : Type 0} (o : Option (Option A)) (x y : A) → o ≡ Some (Some x) → o ≡ Some (Some y) → x ≡ y
  some_same o x y h k = cc

  pub ok_none : {A : Type 0} (o : Option A) (x : A) → o ≡ Some x → o ≡ None → ⊥
  ok_none o x h k = cc

  pub members_same : (o : Option Members) (x y : Members) → o ≡ Some x → o ≡ Some y → x ≡ y
  members_same o x y h k = cc

  pub no_flaw : (flaws : List Flaw) (flaw : Flaw) → flaws ≡ [] → Contains flaws flaw → ⊥
  no_flaw flaws flaw none has =
      let h = subst (λ (fs : List Flaw). Contains fs flaw) none has in
      absurd (omega (arith, h.1))

  -- a configuration has no cause
  pub no_cause : (path : List ℕ) (r : Refusal) → IsConfig fs path → IsFileCause fs path r → ⊥
  no_cause path r c (inl h) = h.0 c.bytes c.text.0
  no_cause path r c (inr (inl h)) = h.0.2 (subst IsUtf8 (some_same (fs path) c.bytes h.0.0 c.text.0 h.0.1) c.text.1)
  no_cause path r c (inr (inr (inl h))) =
      let same = some_same (fs path) c.bytes h.bytes c.text.0 h.text.0 in
      ok_none (parse_document h.bytes) c.members (ap parse_document (sym same) ∙ c.parsed) h.parsed
  no_cause path r c (inr (inr (inr h))) =
      let same = some_same (fs path) c.bytes h.bytes c.text.0 h.text.0 in
      let members = members_same (parse_document h.bytes) c.members h.members (ap parse_document (sym same) ∙ c.parsed) h.parsed in
      no_flaw (config_faults h.members) h.flaw (ap config_faults (sym members) ∙ c.faultless) h.fault

  no_cause_among : (paths : List (List ℕ)) (r : Refusal) → AreConfigs fs paths → IsCauseAmong fs paths r → ⊥
  no_cause_among [] r h k = k
  no_cause_among (path ∷ paths) r h (inl k) = no_cause path r h.0 k
  no_cause_among (path ∷ paths) r h (inr k) = no_cause_among paths r h.1 k

  pub not_both : (o : Result (Option Cell) (Shape × Shape)) (a : Option Cell) (s : Shape × Shape) → o ≡ Ok a → o ≡ Err s → ⊥
  not_both o a s h k = cc

  no_merge_cause : (paths : List (List ℕ)) (m : KeyPath → Option Cell) (r : Refusal) → IsMapOf (file_at fs) paths m → IsMergeCause fs paths r → ⊥
  no_merge_cause paths m r h k =
      let front = k.nearest ∷ (k.between ++ k.path ∷ []) in
      let whole : paths ≡ front ++ k.others = k.walked ∙ ap (λ xs. k.nearest ∷ xs) (sym (append_assoc k.between (k.path ∷ []) k.others)) in
      let met : joined (cells_at (file_at fs) k.place (front ++ k.others)) ≡ Err k.shapes =
      ap joined (filter_map-append (λ x. file_at fs x k.place) front k.others) ∙ mixed_before (cells_at (file_at fs) k.place front) (cells_at (file_at fs) k.place k.others) k.shapes k.meet in
      not_both _ (m k.place) k.shapes (h k.place) (ap (λ xs. joined (cells_at (file_at fs) k.place xs)) whole ∙ met)

  -- these files are loaded, and there is no cause
  abbrev pub IsLoaded : List (List ℕ) → (KeyPath → Option Cell) → Type 0
  IsLoaded paths m = IsLoad fs paths m × ((refusal : Refusal) → ¬ (IsLoadCause fs paths refusal))

  -- files that are configurations and have a map are loaded
  pub is_load : (paths : List (List ℕ)) (m : KeyPath → Option Cell) → AreConfigs fs paths → IsMapOf (file_at fs) paths m → IsLoaded paths m
  is_load paths m configs merges = ((configs, merges), no_cause_of)
    where
      no_cause_of : (r : Refusal) → ¬ (IsLoadCause fs paths r)
      no_cause_of r (inl h) = no_cause_among paths r configs h
      no_cause_of r (inr h) = no_merge_cause paths m r merges h

  configs_of : (paths : List (List ℕ)) (cs : List Config) → AreOfFiles fs paths cs → AreConfigs fs paths
  configs_of [] [] h = tt
  configs_of [] (c ∷ cs) h = absurd h
  configs_of (path ∷ paths) [] h = absurd h
  configs_of (path ∷ paths) (c ∷ cs) h = (h.0.0, configs_of paths cs h.1)

  cells_of : (paths : List (List ℕ)) (cs : List Config) → AreOfFiles fs paths cs → (p : KeyPath) → cells_at config_at p cs ≡ cells_at (file_at fs) p paths
  cells_of [] [] h p = refl
  cells_of [] (c ∷ cs) h p = absurd h
  cells_of (path ∷ paths) [] h p = absurd h
  cells_of (path ∷ paths) (c ∷ cs) h p =
      ap (λ o. cons_option o (cells_at config_at p cs)) (h.0.1 p) ∙ ap (cons_option (file_at fs path p)) (cells_of paths cs h.1 p)

  fronts_of : (n : ℕ) (paths : List (List ℕ)) (cs : List Config) → AreOfFiles fs paths cs → AreOfFiles fs (take n paths) (take n cs)
  fronts_of zero paths cs h = tt
  fronts_of (suc n) [] [] h = tt
  fronts_of (suc n) [] (c ∷ cs) h = absurd h
  fronts_of (suc n) (path ∷ paths) [] h = absurd h
  fronts_of (suc n) (path ∷ paths) (c ∷ cs) h = (h.0, fronts_of n paths cs h.1)

  -- one more file is read
  pub file_more : (paths : List (List ℕ)) (path : List ℕ) (cs : List Config) (c : Config) → AreOfFiles fs paths cs → IsOfFile fs path c → AreOfFiles fs (paths ++ path ∷ []) (cs ++ c ∷ [])
  file_more [] path [] c h k = (k, tt)
  file_more [] path (d ∷ cs) c h k = absurd h
  file_more (first ∷ paths) path [] c h k = absurd h
  file_more (first ∷ paths) path (d ∷ cs) c h k = (h.0, file_more paths path cs c h.1 k)

  -- a file is refused
  pub file_refused : (paths front others : List (List ℕ)) (path : List ℕ) (e : Error) → paths ≡ front ++ path ∷ others → (refusal_of e ≡ plain memory) ⊎ IsFileCause fs path (refusal_of e)
      → (refusal_of e ≡ plain memory) ⊎ IsCauseAmong fs paths (refusal_of e)
  file_refused paths front others path e is (inl wants) = inl wants
  file_refused paths front others path e is (inr cause) =
      inr (subst (λ (all : List (List ℕ)). IsCauseAmong fs all (refusal_of e)) (sym is) (cause_among front path others (refusal_of e) cause))

  -- what the configurations of files merge to is loaded
  pub files_loaded : (paths : List (List ℕ)) (cs : List Config) (m : Config) → AreOfFiles fs paths cs → IsPointwise config_at cs m → IsLoaded paths (config_at m)
  files_loaded paths cs m h merges = is_load paths (config_at m) (configs_of paths cs h) (λ p. ap joined (sym (cells_of paths cs h p)) ∙ merges p)

  one_more : (n : ℕ) → suc n + 1 ≡ suc (n + 1)
  one_more n = omega arith

  module _ (rest : List (List ℕ)) (c : Config) (cs : List Config) (nearest path : List ℕ) (n : ℕ) (e : Error) (refusal : Refusal)
      (h : AreOfFiles fs (nearest ∷ rest) (c ∷ cs)) (mixed : IsMixedFrom config_at (c ∷ cs) (suc n) e)
      (next : take (n + 1) rest ≡ take n rest ++ path ∷ []) where
    upto : List (List ℕ)
    upto = nearest ∷ (take n rest ++ path ∷ [])

    are_upto : take (suc n + 1) (nearest ∷ rest) ≡ nearest ∷ (take n rest ++ path ∷ [])
    are_upto = ap (λ m. take m (nearest ∷ rest)) (one_more n) ∙ ap (λ ps. nearest ∷ ps) next

    merge_cause : refusal ≡ in_context (merge_line path nearest) (refusal_of e) → IsMergeCause fs (nearest ∷ rest) refusal
    merge_cause is = record {
      nearest = nearest;
      between = take n rest;
      path = path;
      others = drop (n + 1) rest;
      walked = ap (λ ps. nearest ∷ ps)
          (sym (take-append-drop (n + 1) rest) ∙ ap (λ ps. ps ++ drop (n + 1) rest) next ∙ append_assoc (take n rest) (path ∷ []) (drop (n + 1) rest));
      configs = subst (AreConfigs fs) are_upto (configs_of (take (suc n + 1) (nearest ∷ rest)) (take (suc n + 1) (c ∷ cs)) (fronts_of (suc n + 1) (nearest ∷ rest) (c ∷ cs) h));
      before = λ p. (mixed.before p).0;
      merges = λ p. ap joined (sym (cells_of (nearest ∷ take n rest) (c ∷ take n cs) (fronts_of (suc n) (nearest ∷ rest) (c ∷ cs) h) p)) ∙ (mixed.before p).1;
      place = mixed.path;
      shapes = mixed.shapes;
      meet = ap (λ ps. joined (cells_at (file_at fs) mixed.path ps)) (sym are_upto)
          ∙ ap joined (sym (cells_of (take (suc n + 1) (nearest ∷ rest)) (take (suc n + 1) (c ∷ cs)) (fronts_of (suc n + 1) (nearest ∷ rest) (c ∷ cs) h) mixed.path))
          ∙ mixed.meet.0;
      is = is ∙ ap (in_context (merge_line path nearest)) mixed.meet.1;
    }

  same_head : (xs : List (List ℕ)) (x y : List ℕ) → take 1 (x ∷ xs) ≡ y ∷ [] → x ≡ y
  same_head xs x y h = cc

  same_tail : (xs ys : List (List ℕ)) (x : List ℕ) → x ∷ xs ≡ x ∷ ys → xs ≡ ys
  same_tail xs ys x h = cc

  -- one value is not mixed
  one_is_joined : (c : Config) (cs : List Config) (e : Error) → IsMixedFrom config_at (c ∷ cs) zero e → ⊥
  one_is_joined c cs e h = not_both _ (config_at c h.path) h.shapes (joined_alone (config_at c h.path)) h.meet.0

  -- where the configurations of files are mixed from a place on, the load is refused
  pub files_unmerged : (paths : List (List ℕ)) (cs : List Config) (place : ℕ) (e : Error) (refusal : Refusal) (path nearest : List ℕ) → AreOfFiles fs paths cs
      → IsMixedFrom config_at cs place e → take 1 paths ≡ nearest ∷ [] → take (place + 1) paths ≡ take place paths ++ path ∷ []
      → IsToldIn (merge_line path nearest) (refusal_of e) refusal → (refusal ≡ plain memory) ⊎ IsLoadCause fs paths refusal
  files_unmerged paths cs place e refusal path nearest h mixed first next (inl wants) = inl wants
  files_unmerged [] cs place e refusal path nearest h mixed first next (inr told) = absurd (no_first nearest first)
    where
      no_first : (n : List ℕ) → take {A = List ℕ} 1 [] ≡ n ∷ [] → ⊥
      no_first n is = cc
  files_unmerged (p ∷ paths) [] place e refusal path nearest h mixed first next (inr told) = absurd h
  files_unmerged (p ∷ paths) (c ∷ cs) zero e refusal path nearest h mixed first next (inr told) = absurd (one_is_joined c cs e mixed)
  files_unmerged (p ∷ paths) (c ∷ cs) (suc n) e refusal path nearest h mixed first next (inr told) =
      let is = same_head paths p nearest first in
      inr (inr (merge_cause paths c cs p path n e refusal h mixed (same_tail (take (n + 1) paths) (take n paths ++ path ∷ []) p (ap (λ m. take m (p ∷ paths)) (sym (one_more n)) ∙ next))
      (told.1 ∙ ap (λ into. in_context (merge_line path into) (refusal_of e)) (sym is))))
