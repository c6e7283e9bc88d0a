-- Keys that match, one after another.
use Rattle.std.proofs.Common.{◌≡◌, ◌+◌, ◌<◌, ℕ, suc, Bool, Bor, true, false, List, [], ◌∷◌, ◌++◌, append_assoc, arith, drop, get_or, length, map, refl, sym, ap, ◌∙◌, subst}
use Rattle.std.proofs.Math.Seq.{drop-cons}
use Rattle.std.proofs.lemmas.List.{append-nil, map-append}
use Rattle.std.specs.Prelude.{if◌then◌else◌}
use Rattle.cc2_cfg.specs.Meaning.{Atom}
use Rattle.cc2_cargo_target.specs.Keys.{AreMatching, IsMatch}

-- a key, where it matches
abbrev pub if_match : Bool → List ℕ → List (List ℕ)
if_match b k = if b then k ∷ [] else []

one_front : (b : Bool) (k : List ℕ) (others more : List (List ℕ)) → (if b then k ∷ others else others) ++ more ≡ if b then k ∷ (others ++ more) else (others ++ more)
one_front true k others more = refl
one_front false k others more = refl

pub one_more : (atoms : List Atom) (done found : List (List ℕ)) (k : List ℕ) (b : Bool) → AreMatching atoms done found → IsMatch atoms k b
    → AreMatching atoms (done ++ k ∷ []) (found ++ if_match b k)
one_more atoms [] found k b none is = (b, [], is, refl, ap (λ fs. fs ++ if_match b k) none)
one_more atoms (j ∷ done) found k b (c, others, own, rest, whole) is =
    (c, others ++ if_match b k, own, one_more atoms done others k b rest is, ap (λ fs. fs ++ if_match b k) whole ∙ one_front c j others (if_match b k))

-- what is left from a place on is the one there, and what is left after it
pub left_over : {A : Type 0} (xs : List A) (i : ℕ) (d : A) → i < length xs → drop i xs ≡ get_or xs i d ∷ drop (i + 1) xs
left_over {A} xs i d inside =
    let next : suc i ≡ i + 1 = omega arith in
    drop-cons xs i d inside ∙ ap (λ m. get_or xs i d ∷ drop m xs) next

abbrev now : Bor (List ℕ) → List ℕ
now k = k.now

-- those of the keys so far that match are found
abbrev pub AreFound : List Atom → List (Bor (List ℕ)) → List (List ℕ) → List (Bor (List ℕ)) → Type 0
AreFound atoms keys found left = (done : List (List ℕ)) × (map now keys ≡ done ++ map now left) × AreMatching atoms done found

pub found_more : (atoms : List Atom) (keys : List (Bor (List ℕ))) (i : ℕ) (d : Bor (List ℕ)) (found new : List (List ℕ)) (b : Bool) → i < length keys
    → AreFound atoms keys found (drop i keys) → IsMatch atoms (get_or keys i d).now b → new ≡ found ++ if_match b (get_or keys i d).now
    → AreFound atoms keys new (drop (i + 1) keys)
found_more atoms keys i d found new b inside (done, whole, so_far) is added =
    let key = (get_or keys i d).now in (
      done ++ key ∷ [],
      whole ∙ ap (λ ks. done ++ map now ks) (left_over keys i d inside) ∙ sym (append_assoc done (key ∷ []) (map now (drop (i + 1) keys))),
      subst (AreMatching atoms (done ++ key ∷ [])) (sym added) (one_more atoms done found key b so_far is),
    )

pub all_found : (atoms : List Atom) (keys : List (Bor (List ℕ))) (found : List (List ℕ)) → AreFound atoms keys found [] → AreMatching atoms (map now keys) found
all_found atoms keys found (done, whole, are) = subst (λ ks. AreMatching atoms ks found) (sym (whole ∙ append-nil done)) are

pub pushed : (found new : List (Bor (List ℕ))) (key : Bor (List ℕ)) (b : Bool) → b ≡ true → new ≡ found ++ key ∷ []
    → map now new ≡ map now found ++ if_match b key.now
pushed found new key b h is = ap (map now) is ∙ map-append now found (key ∷ []) ∙ ap (λ c. map now found ++ if_match c key.now) (sym h)

pub kept : (found new : List (Bor (List ℕ))) (key : List ℕ) (b : Bool) → b ≡ false → new ≡ found → map now new ≡ map now found ++ if_match b key
kept found new key b h is = ap (map now) is ∙ sym (append-nil (map now found)) ∙ ap (λ c. map now found ++ if_match c key) (sym h)
