-- What overrides make of a configuration, from the configurations that were read of them.
use Rattle.std.proofs.Common.{◌≡◌, ◌⊎◌, ℕ, ◌+◌, ◌≤◌, ◌==◌, List, [], ◌∷◌, ◌++◌, length, map, reverse, take, Option, Some, true}
use Rattle.std.proofs.Common.{Result, Ok, Err, IfOk, IfErr, OnOk, Vec, Global, refl, sym, ap, subst, ◌∙◌, inl, inr, arith}
use Rattle.std.proofs.lemmas.Bool.{eqb-true}
use Rattle.std.proofs.lemmas.List.{reverse-append, map-append, take-map, length-append}
use Rattle.toml.specs.Parse.{parse_document}
use Rattle.cc2_error.specs.declared.error.Error.{Error}
use Rattle.cc2_error.specs.Causes.{memory, Refusal, refusal_of, plain, in_context}
use Rattle.cc2_error.specs.Outcomes.{Answered, IsWantOfMemory}
use Rattle.cc2_base.specs.Paths.{joined as path_joined}
use Rattle.cc2_base.specs.Told.{Tree}
use Rattle.cc2_value.proofs.Joins.{have_take, have_under, seen}
use Rattle.cc2_de.proofs.Inside.{inside}
use Rattle.cc2_value.specs.Cells.{Cell, KeyPath, Origin, command_line, joined, cells_at, IsMapOf, IsPointwise}
use Rattle.cc2_value.specs.JoinedLaws.{joined_alone}
use Rattle.cc2_value.specs.Places.{HaveMap, IsMixedFrom}
use Rattle.cc2_env.specs.CommandLine.{Override, from_text, from_file, override_of}
use Rattle.cc2_env.specs.declared.command_line.Override.{Override as Given}
use Rattle.cc2_de.specs.declared.config.Config.{Config}
use Rattle.cc2_de.specs.Config.{config_at, config_faults}
use Rattle.cc2_de.specs.ConfigFile.{IsFileCause}
use Rattle.cc2_de.specs.Contexts.{over_line, IsToldIn}
use Rattle.cc2_de.specs.LoadedFiles.{IsOfFileAs}
use Rattle.cc2_de.specs.LoadedOverrides.{AreOfOverrides}
use Rattle.cc2_de.specs.Overrides.{itself, override_at, IsOverride, IsOfOverride, IsOverrideCause, AreOverrides, IsCauseFrom, layers, IsOver, IsUnmergedOver, IsOverCause}
use Rattle.cc2_de.proofs.Loads.{ok_none, members_same, no_flaw, no_cause, not_both}

map_reverse : {A B : Type 0} (f : A → B) (xs : List A) → map f (reverse xs) ≡ reverse (map f xs)
map_reverse f [] = refl
map_reverse f (x ∷ xs) =
    ap (map f) (reverse-append (x ∷ []) xs) ∙ map-append f (reverse xs) (x ∷ [])
    ∙ ap (λ ys. ys ++ f x ∷ []) (map_reverse f xs) ∙ sym (reverse-append (f x ∷ []) (map f xs))

length_reverse : {A : Type 0} (xs : List A) → length (reverse xs) ≡ length xs
length_reverse [] = refl
length_reverse (x ∷ xs) =
    ap length (reverse-append (x ∷ []) xs) ∙ length-append (reverse xs) (x ∷ [])
    ∙ ap (λ n. n + 1) (length_reverse xs) ∙ omega arith

same_error : {T : Type 0} (r : Result T Error) (e f : Error) → r ≡ Err e → r ≡ Err f → e ≡ f
same_error r e f h k = cc

ok_or_err : {T : Type 0} (r : Result T Error) (value : T) (e : Error) → r ≡ Ok value → r ≡ Err e → ⊥
ok_or_err r value e h k = cc

-- a list without items gives no override
pub none_given : (list : List Given) → (length list == 0) ≡ true → map override_of list ≡ []
none_given [] is = refl
none_given (o ∷ list) is = absurd (omega (arith, eqb-true (length (o ∷ list)) 0 is))

-- the same overrides from the same directory
pub over_as : (fs : Tree) (d dir : List ℕ) (list os : List Override) → d ≡ dir → list ≡ os → (result : Result Config Error) (below : KeyPath → Option Cell)
    → Answered config_at result (IsOver fs d list below) (IsOverCause fs d list below) → Answered config_at result (IsOver fs dir os below) (IsOverCause fs dir os below)
over_as fs d dir list os at given result below h =
    subst (λ (all : List Override). Answered config_at result (IsOver fs dir all below) (IsOverCause fs dir all below)) given
    (subst (λ (from : List ℕ). Answered config_at result (IsOver fs from list below) (IsOverCause fs from list below)) at h)

module _ (fs : Tree) (dir : List ℕ) where
  no_override_cause : (o : Override) (n : ℕ) (r : Refusal) → IsOverride fs dir o → IsOverrideCause fs dir n o r → ⊥
  no_override_cause (from_text text) n r is (inner, inl h, told) = ok_none fs (parse_document text) is.members is.parsed h.parsed
  no_override_cause (from_text text) n r is (inner, inr h, told) =
      no_flaw fs (config_faults h.members) h.flaw
      (ap config_faults (sym (members_same fs (parse_document text) is.members h.members is.parsed h.parsed)) ∙ is.faultless) h.fault
  no_override_cause (from_file path) n r is h = no_cause fs (path_joined dir path) r is h

  none_among : (n : ℕ) (os : List Override) (r : Refusal) → AreOverrides fs dir os → IsCauseFrom fs dir n os r → ⊥
  none_among n [] r h k = k
  none_among n (o ∷ os) r h (inl k) = no_override_cause o n r h.0 k
  none_among n (o ∷ os) r h (inr k) = none_among (n + 1) os r h.1 k

  are_overrides : (os : List Override) (cs : List Config) → AreOfOverrides fs dir os cs → AreOverrides fs dir os
  are_overrides [] [] h = tt
  are_overrides [] (c ∷ cs) h = absurd h
  are_overrides (o ∷ os) [] h = absurd h
  are_overrides (o ∷ os) (c ∷ cs) h = (h.0.0, are_overrides os cs h.1)

  -- one more override is read
  pub one_more : (os : List Override) (o : Override) (cs : List Config) (c : Config) → AreOfOverrides fs dir os cs → IsOfOverride fs dir o c
      → AreOfOverrides fs dir (os ++ o ∷ []) (cs ++ c ∷ [])
  one_more [] o [] c h k = (k, tt)
  one_more [] o (d ∷ cs) c h k = absurd h
  one_more (first ∷ os) o [] c h k = absurd h
  one_more (first ∷ os) o (d ∷ cs) c h k = (h.0, one_more os o cs c h.1 k)

  cause_from : (n m : ℕ) (front : List Override) (o : Override) (others : List Override) (r : Refusal) → m ≡ n + length front
      → IsOverrideCause fs dir m o r → IsCauseFrom fs dir n (front ++ o ∷ others) r
  cause_from n m [] o others r is h = inl (subst (λ k. IsOverrideCause fs dir k o r) (omega (arith, is)) h)
  cause_from n m (first ∷ front) o others r is h = inr (cause_from (n + 1) m front o others r (omega (arith, is)) h)

  -- an override is refused, by its number
  pub one_refused : (os front others : List Override) (o : Override) (n : ℕ) (e : Error) → os ≡ front ++ o ∷ others → n ≡ 1 + length front
      → (refusal_of e ≡ plain memory) ⊎ IsOverrideCause fs dir n o (refusal_of e)
      → (refusal_of e ≡ plain memory) ⊎ IsCauseFrom fs dir 1 os (refusal_of e)
  one_refused os front others o n e is at (inl wants) = inl wants
  one_refused os front others o n e is at (inr cause) =
      inr (subst (λ (all : List Override). IsCauseFrom fs dir 1 all (refusal_of e)) (sym is) (cause_from 1 n front o others (refusal_of e) at cause))

  looks_same : (os : List Override) (cs : List Config) → AreOfOverrides fs dir os cs → map config_at cs ≡ map (override_at fs dir) os
  looks_same [] [] h = refl
  looks_same [] (c ∷ cs) h = absurd h
  looks_same (o ∷ os) [] h = absurd h
  looks_same (o ∷ os) (c ∷ cs) h =
      ap (λ (look : KeyPath → Option Cell). look ∷ map config_at cs) (λ i p. h.0.1 p i)
      ∙ ap (λ ls. override_at fs dir o ∷ ls) (looks_same os cs h.1)

  module _ (os : List Override) (cs : List Config) (below : Config) (read : AreOfOverrides fs dir os cs) where
    abbrev pub laid : List Config
    laid = reverse cs ++ below ∷ []

    -- the configurations show the layers
    laid_looks : map config_at laid ≡ layers fs dir os (config_at below)
    laid_looks =
        map-append config_at (reverse cs) (below ∷ [])
        ∙ ap (λ ls. ls ++ config_at below ∷ []) (map_reverse config_at cs ∙ ap reverse (looks_same os cs read) ∙ sym (map_reverse (override_at fs dir) os))

    shows : (p : KeyPath) (xs : List Config) → cells_at config_at p xs ≡ cells_at itself p (map config_at xs)
    shows p xs = seen config_at config_at itself p p (λ x. refl) xs

    cut : (n : ℕ) → map config_at (take n laid) ≡ take n (layers fs dir os (config_at below))
    cut n = sym (take-map config_at n laid) ∙ ap (take n) laid_looks

    over_map : (m : Config) → IsPointwise config_at laid m → IsMapOf itself (layers fs dir os (config_at below)) (config_at m)
    over_map m h p =
        ap (λ ls. joined (cells_at itself p ls)) (sym laid_looks) ∙ ap joined (sym (shows p laid)) ∙ h p

    not_unmerged : (m : KeyPath → Option Cell) (r : Refusal) → IsMapOf itself (layers fs dir os (config_at below)) m → IsUnmergedOver fs dir os (config_at below) r → ⊥
    not_unmerged m r h k =
        let front = have_take itself (k.place + 1) (layers fs dir os (config_at below)) (λ p. (m p, h p)) in
        not_both fs _ (front k.path).0 k.shapes (front k.path).1 k.meet

    no_over_cause : (m : KeyPath → Option Cell) → IsMapOf itself (layers fs dir os (config_at below)) m → (r : Refusal) → ¬ (IsOverCause fs dir os (config_at below) r)
    no_over_cause m h r (inl k) = none_among 1 os r (are_overrides os cs read) k
    no_over_cause m h r (inr k) = not_unmerged m r h k

    -- what they merge to is what the overrides make of the configuration
    pub over_merged : (m : Config) → IsPointwise config_at laid m
        → IsOver fs dir os (config_at below) (config_at m) × ((r : Refusal) → ¬ (IsOverCause fs dir os (config_at below) r))
    over_merged m h = ((are_overrides os cs read, over_map m h), no_over_cause (config_at m) (over_map m h))

    -- where they are mixed from a place on, the overrides are refused
    pub over_unmerged : (place count : ℕ) (e : Error) (r : Refusal) → count ≡ length os → IsMixedFrom config_at laid place e
        → IsToldIn (over_line count place) (refusal_of e) r → (r ≡ plain memory) ⊎ IsOverCause fs dir os (config_at below) r
    over_unmerged place count e r is mixed (inl wants) = inl wants
    over_unmerged place count e r is mixed (inr told) =
        inr (inr (record {
          overrides = are_overrides os cs read;
          place = place;
          before = subst (λ (ls : List (KeyPath → Option Cell)). HaveMap itself ls) (cut place)
              (have_under config_at config_at itself (λ x p. refl) (take place laid) mixed.before);
          path = mixed.path;
          shapes = mixed.shapes;
          meet = ap (λ ls. joined (cells_at itself mixed.path ls)) (sym (cut (place + 1))) ∙ ap joined (sym (shows mixed.path (take (place + 1) laid)))
              ∙ mixed.meet.0;
          is = told.1 ∙ ap (λ n. in_context (over_line n place) (refusal_of e)) is ∙ ap (in_context (over_line (length os) place)) mixed.meet.1;
        }))

  -- without overrides the configuration stays
  pub stays : (os : List Override) (config : Config) → os ≡ []
      → IsOver fs dir os (config_at config) (config_at config) × ((r : Refusal) → ¬ (IsOverCause fs dir os (config_at config) r))
  stays os config is =
      subst (λ (all : List Override). IsOver fs dir all (config_at config) (config_at config) × ((r : Refusal) → ¬ (IsOverCause fs dir all (config_at config) r))) (sym is)
      (over_merged [] [] config tt config (λ p. joined_alone (config_at config p)))

  err_or_cause : (os : List Override) (below : KeyPath → Option Cell) (e : Error) → (refusal_of e ≡ plain memory) ⊎ IsCauseFrom fs dir 1 os (refusal_of e)
      → (refusal_of e ≡ plain memory) ⊎ IsOverCause fs dir os below (refusal_of e)
  err_or_cause os below e (inl wants) = inl wants
  err_or_cause os below e (inr cause) = inr (inl cause)

  module _ (os : List Override) (below : Config) (read layers : Result (Vec Config Global) Error) where
    -- the layers are those that were read, or what that was refused for
    pub record IsLaid : Type 0 where
      pub ok : IfOk read (λ list. IfOk layers (λ all. all.items ≡ reverse list.items ++ below ∷ []))
      pub refused : IfErr read (λ e. layers ≡ Err e)

    -- where the overrides or their layers are refused
    pub unlaid : (e : Error) → layers ≡ Err e → IsLaid → OnOk read (IfErr layers IsWantOfMemory)
        → IfErr read (λ f. (refusal_of f ≡ plain memory) ⊎ IsCauseFrom fs dir 1 os (refusal_of f))
        → (refusal_of e ≡ plain memory) ⊎ IsOverCause fs dir os (config_at below) (refusal_of e)
    unlaid e is laid wants causes = by read refl
      where
        by : (r : Result (Vec Config Global) Error) → read ≡ r → (refusal_of e ≡ plain memory) ⊎ IsOverCause fs dir os (config_at below) (refusal_of e)
        by (Ok list) known = inl (subst (λ l. IfErr l IsWantOfMemory) is (subst (λ r. OnOk r (IfErr layers IsWantOfMemory)) known wants))
        by (Err f) known =
            let told = subst (λ r. IfErr r (λ g. layers ≡ Err g)) known laid.refused in
            let cause = subst (λ r. IfErr r (λ g. (refusal_of g ≡ plain memory) ⊎ IsCauseFrom fs dir 1 os (refusal_of g))) known causes in
            err_or_cause os (config_at below) e (subst (λ g. (refusal_of g ≡ plain memory) ⊎ IsCauseFrom fs dir 1 os (refusal_of g)) (same_error layers f e told is) cause)

    -- what was read, where there are layers
    record IsRead (all : Vec Config Global) : Type 0 where
      pub list : Vec Config Global
      pub given : read ≡ Ok list
      pub items : all.items ≡ reverse list.items ++ below ∷ []

    is_read : (all : Vec Config Global) → layers ≡ Ok all → IsLaid → IsRead all
    is_read all is laid = by read refl
      where
        by : (r : Result (Vec Config Global) Error) → read ≡ r → IsRead all
        by (Ok list) known = record {
          list = list;
          given = known;
          items = subst (λ l. IfOk l (λ all. all.items ≡ reverse list.items ++ below ∷ [])) is
              (subst (λ r. IfOk r (λ list. IfOk layers (λ all. all.items ≡ reverse list.items ++ below ∷ []))) known laid.ok);
        }
        by (Err f) known = absurd (ok_or_err layers all f is (subst (λ r. IfErr r (λ g. layers ≡ Err g)) known laid.refused))

    module _ (all : Vec Config Global) (is : layers ≡ Ok all) (laid : IsLaid) where
      from : IsRead all
      from = is_read all is laid

      -- the place of a refusal is one of the layers
      pub within : (place count : ℕ) (e : Error) → IfOk read (λ list. length list.items ≡ count) → IsMixedFrom config_at all.items place e → place ≤ count
      within place count e counted mixed =
          omega (
            arith,
            inside config_at all.items place e mixed,
            ap length from.items,
            length-append (reverse from.list.items) (below ∷ []),
            length_reverse from.list.items,
            subst (λ r. IfOk r (λ list. length list.items ≡ count)) from.given counted,
          )

      module _ (read_all : IfOk read (λ list. AreOfOverrides fs dir os list.items)) where
        shown : AreOfOverrides fs dir os from.list.items
        shown = subst (λ r. IfOk r (λ list. AreOfOverrides fs dir os list.items)) from.given read_all

        pub laid_merged : (m : Config) → IsPointwise config_at all.items m
            → IsOver fs dir os (config_at below) (config_at m) × ((r : Refusal) → ¬ (IsOverCause fs dir os (config_at below) r))
        laid_merged m h = over_merged os from.list.items below shown m (subst (λ xs. IsPointwise config_at xs m) from.items h)

        pub laid_unmerged : (place count : ℕ) (e : Error) (r : Refusal) → count ≡ length os → IsMixedFrom config_at all.items place e
            → IsToldIn (over_line count place) (refusal_of e) r → (r ≡ plain memory) ⊎ IsOverCause fs dir os (config_at below) r
        laid_unmerged place count e r is mixed told =
            over_unmerged os from.list.items below shown place count e r is (subst (λ xs. IsMixedFrom config_at xs place e) from.items mixed) told

  -- a file that was read under its joined path
  module _ (path whole : List ℕ) (origin : Origin) (joins : whole ≡ path_joined dir path) (is : origin ≡ command_line (Some whole)) where
    pub file_shown : (config : Config) → IsOfFileAs fs whole origin config → IsOfOverride fs dir (from_file path) config
    file_shown config h =
        subst (λ w. IsOfFileAs fs w (command_line (Some w)) config) joins (subst (λ o. IsOfFileAs fs whole o config) is h)

    pub file_cause : (n : ℕ) (r : Refusal) → (r ≡ plain memory) ⊎ IsFileCause fs whole r → (r ≡ plain memory) ⊎ IsOverrideCause fs dir n (from_file path) r
    file_cause n r h = subst (λ w. (r ≡ plain memory) ⊎ IsFileCause fs w r) joins h

    pub on_file : {T : Type 0} (r : Result T Error) (config : Config) → OnOk r (IsOfFileAs fs whole origin config) → OnOk r (IsOfOverride fs dir (from_file path) config)
    on_file (Ok value) config h = file_shown config h
    on_file (Err e) config h = h

    pub err_file : {T : Type 0} (n : ℕ) (r : Result T Error) → IfErr r (λ e. (refusal_of e ≡ plain memory) ⊎ IsFileCause fs whole (refusal_of e))
        → IfErr r (λ e. (refusal_of e ≡ plain memory) ⊎ IsOverrideCause fs dir n (from_file path) (refusal_of e))
    err_file n (Ok value) h = h
    err_file n (Err e) h = file_cause n (refusal_of e) h
