-- How the look-up of a triple goes: at the whole, else at the first piece and below it.
use Rattle.std.proofs.Common.{◌≡◌, ℕ, ◌+◌, ◌<◌, List, [], ◌∷◌, length, map, Bool, true, false, ◌&&◌, cond, Option, Some, None, option_map, refl, ap, sym, subst, ◌∙◌, arith, Bor, find, MatchOption}
use Rattle.std.proofs.Math.Path.{fun_ext}
use Rattle.std.proofs.lemmas.List.Sums.{fails_before_first}
use Rattle.std.proofs.lemmas.List.Splits.{slice_split_first, slice_split_none, length-slice_split, join_with_byte-slice_split}
use Rattle.std.proofs.lemmas.List.{length-drop}
use Rattle.std.specs.List.{join_with_byte, position_or_len, before_first, after_first}
use Rattle.cc2_value.specs.Cells.{name, KeyPath, Cell, Undecoded}
use Rattle.cc2_target_table.specs.declared.target.TargetConfig.{TargetConfig}
use Rattle.cc2_target_table.specs.Target.{target_at}
use Rattle.cc2_base.specs.Paths.{is_dot}
use Rattle.cc2_target.specs.Finding.{pieces, Way, ways, path_of, is_table, is_present, are_tables, is_hit, if_table, path_by, table_path, IsFound, IsCutAtDot}

-- ---- the first dot
whole : (s : List ℕ) → position_or_len is_dot s ≡ length s → pieces s ≡ s ∷ []
whole s e = slice_split_none is_dot s (λ k d h. fails_before_first is_dot s k d (subst (λ n. k < n) (sym e) h))

pub cut_from_first : (s : List ℕ) (r : Option (Bor (List ℕ) × Bor (List ℕ)))
    → MatchOption r (position_or_len is_dot s ≡ length s)
    (λ x. (position_or_len is_dot s < length s) × (x.0.now ≡ before_first is_dot s)
    × (x.1.now ≡ after_first is_dot s))
    → IsCutAtDot s r
cut_from_first s None h = whole s h
cut_from_first s (Some x) (within, front, back) = (
  rw (front, back) (slice_split_first is_dot s 0 within),
  rw back (omega (arith, length-drop (position_or_len is_dot s + 1) s)),
)

-- ---- the first way that is hit
by_cond : (look : KeyPath → Option Cell) (b : Bool) (x y : Option Way)
    → if_table look (cond b x y) ≡ cond b (if_table look x) (if_table look y)
by_cond look true x y = refl
by_cond look false x y = refl

one : (p : List ℕ) (t : Bool) (q : KeyPath)
    → cond t (Some (name p ∷ q)) None ≡ option_map (λ x. name p ∷ x) (cond t (Some q) None)
one p true q = refl
one p false q = refl

step : (look : KeyPath → Option Cell) (p : List ℕ) (b a i : Bool) (w : Way) (f g : Option Way)
    → if_table look f ≡ cond b (option_map (λ q. name p ∷ q) (if_table (λ q. look (name p ∷ q)) g)) None
    → if_table look (cond ((b && a) && i) (Some (p ∷ w.0, w.1)) f)
    ≡ cond b (option_map (λ q. name p ∷ q) (if_table (λ q. look (name p ∷ q)) (cond (a && i) (Some w) g))) None
step look p true true true w f g more = one p (is_table (look (name p ∷ path_of w))) (path_of w)
step look p true true false w f g more = more
step look p true false i w f g more = more
step look p false a i w f g more = more

none_either : (b : Bool) → None ≡ cond {A = Option KeyPath} b None None
none_either true = refl
none_either false = refl

under : (look : KeyPath → Option Cell) (p : List ℕ) (ws : List Way)
    → path_by look (map (λ w. (p ∷ w.0, w.1)) ws)
    ≡ cond (is_table (look (name p ∷ []))) (option_map (λ q. name p ∷ q) (path_by (λ q. look (name p ∷ q)) ws)) None
under look p [] = none_either (is_table (look (name p ∷ [])))
under look p (w ∷ ws) =
    step look p (is_table (look (name p ∷ []))) (are_tables (λ q. look (name p ∷ q)) w.0)
    (is_present (look (name p ∷ path_of w))) w (find (is_hit look) (map (λ w. (p ∷ w.0, w.1)) ws))
    (find (is_hit (λ q. look (name p ∷ q))) ws) (under look p ws)

-- the whole as one key, and then the ways below the first piece
by_pieces : (look : KeyPath → Option Cell) (ps : List (List ℕ)) (s : List ℕ) → 0 < length ps
    → join_with_byte 46 ps ≡ s → is_present (look (name s ∷ [])) ≡ true
    → path_by look (ways ps) ≡ if_table look (Some ([], s))
by_pieces look [] s some is h = absurd (omega arith)
by_pieces look (p ∷ ps) s some is h =
    ap (λ j. if_table look (cond (is_present (look (name j ∷ []))) (Some ([], j))
    (find (is_hit look) (map (λ w. (p ∷ w.0, w.1)) (ways ps))))) is
    ∙ ap (λ b. if_table look (cond b (Some ([], s)) (find (is_hit look) (map (λ w. (p ∷ w.0, w.1)) (ways ps))))) h

joins : (s : List ℕ) → join_with_byte 46 (pieces s) ≡ s
joins s = join_with_byte-slice_split 46 s

-- something is at the whole
at_whole : (look : KeyPath → Option Cell) (s : List ℕ) → is_present (look (name s ∷ [])) ≡ true
    → table_path look s ≡ if_table look (Some ([], s))
at_whole look s h = by_pieces look (pieces s) s (omega (arith, length-slice_split is_dot s)) (joins s) h

-- nothing does, and the first piece is cut off
past_whole : (look : KeyPath → Option Cell) (s p : List ℕ) (ps : List (List ℕ))
    → is_present (look (name s ∷ [])) ≡ false → pieces s ≡ p ∷ ps
    → table_path look s ≡ cond (is_table (look (name p ∷ [])))
    (option_map (λ q. name p ∷ q) (path_by (λ q. look (name p ∷ q)) (ways ps))) None
past_whole look s p ps h cut =
    let rest = find (is_hit look) (map (λ w. (p ∷ w.0, w.1)) (ways ps)) in
    ap (λ xs. path_by look (ways xs)) cut
    ∙ ap (λ j. if_table look (cond (is_present (look (name j ∷ []))) (Some ([], j)) rest))
    (ap (join_with_byte 46) (sym cut) ∙ joins s)
    ∙ ap (λ b. if_table look (cond b (Some ([], s)) rest)) h
    ∙ under look p (ways ps)

-- ---- what is found
module _ (look : KeyPath → Option Cell) (s : List ℕ) where
  -- a table is at the whole
  pub found_here : (t : Bor TargetConfig) → ((p : KeyPath) → look (name s ∷ p) ≡ target_at t.now p)
      → IsFound look (table_path look s) (Some t)
  found_here t h =
      let path : table_path look s ≡ Some (name s ∷ []) =
      at_whole look s (ap is_present (h [])) ∙ ap (λ o. cond (is_table o) (Some (name s ∷ [])) None) (h []) in
      subst (λ q. IsFound look q (Some t)) (sym path) (λ p. sym (h p))

  -- a value that doesn't read as a table is there
  pub found_mark : look (name s ∷ []) ≡ Some Undecoded → IsFound look (table_path look s) None
  found_mark h =
      let path : table_path look s ≡ None =
      at_whole look s (ap is_present h) ∙ ap (λ o. cond (is_table o) (Some (name s ∷ [])) None) h in
      subst (λ q. IsFound look q None) (sym path) tt

  -- nothing is there, and the text has no dot
  pub found_end : look (name s ∷ []) ≡ None → pieces s ≡ s ∷ [] → IsFound look (table_path look s) None
  found_end h cut =
      subst (λ q. IsFound look q None)
      (sym (past_whole look s s [] (ap is_present h) cut ∙ ap (λ o. cond (is_table o) None None) h)) tt

  -- nothing is there, and no table at the first piece
  pub found_no_front : (p rest : List ℕ) → look (name s ∷ []) ≡ None → pieces s ≡ p ∷ pieces rest
      → is_table (look (name p ∷ [])) ≡ false → IsFound look (table_path look s) None
  found_no_front p rest h cut absent =
      let below = option_map (λ q. name p ∷ q) (path_by (λ q. look (name p ∷ q)) (ways (pieces rest))) in
      subst (λ q. IsFound look q None)
      (sym (past_whole look s p (pieces rest) (ap is_present h) cut ∙ ap (λ b. cond b below None) absent)) tt

below_found : (look : KeyPath → Option Cell) (p : List ℕ) (path : Option KeyPath) (r : Option (Bor TargetConfig))
    → IsFound (λ q. look (name p ∷ q)) path r → IsFound look (option_map (λ q. name p ∷ q) path) r
below_found look p None None h = tt
below_found look p (Some q) (Some t) h = h
below_found look p None (Some t) h = h
below_found look p (Some q) None h = h

-- nothing is at the whole, and a table at the first piece
pub found_through : (look : KeyPath → Option Cell) (s p rest : List ℕ) (t : TargetConfig)
    (r : Option (Bor TargetConfig)) → look (name s ∷ []) ≡ None → pieces s ≡ p ∷ pieces rest
    → ((q : KeyPath) → look (name p ∷ q) ≡ target_at t q)
    → IsFound (target_at t) (table_path (target_at t) rest) r → IsFound look (table_path look s) r
found_through look s p rest t r h cut below found =
    let seen : (KeyPath → Option Cell) = λ q. look (name p ∷ q) in
    let there : IsFound seen (table_path seen rest) r =
    subst (λ (f : KeyPath → Option Cell). IsFound f (table_path f rest) r) (sym (fun_ext below)) found in
    let path : table_path look s ≡ option_map (λ q. name p ∷ q) (table_path seen rest) =
    past_whole look s p (pieces rest) (ap is_present h) cut
    ∙ ap (λ o. cond (is_table o) (option_map (λ q. name p ∷ q) (table_path seen rest)) None) (below []) in
    subst (λ q. IsFound look q r) (sym path) (below_found look p (table_path seen rest) r there)
