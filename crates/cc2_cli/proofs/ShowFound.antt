-- Parts of a request that are found one after the other.
use Rattle.std.proofs.Common.{◌≡◌, ℕ, Bool, true, false, cond, ◌&&◌, List, [], ◌∷◌, ◌++◌, Option, Some, None, is_some, unwrap_or, refl, sym, ap, ◌∙◌}
use Rattle.std.proofs.lemmas.Bool.{false≢true}
use Rattle.std.specs.Prelude.{flat_map, if◌then◌else◌}
use Rattle.cc2_cli.specs.Choices.{are_pairs}
use Rattle.cc2_cli.specs.ShowFound.{Found, nothing_found, with_part, question_found}
use Rattle.cc2_cli.specs.ShowWords.{Stage, resolved, Format, toml, Part, key, stage, format, merged, origins, tokens, Request, Question, alone, unknown, under}
use Rattle.cc2_cli.specs.ShowWords.{at_most_one, first, first_or, key_in, stage_in, format_in, merged_in, origins_in, tokens_in, parted, question_in}

abbrev found_one : {A : Type 0} → Option A → List A
found_one None = []
found_one (Some a) = a ∷ []

abbrev said : Bool → List Bool
said false = []
said true = true ∷ []

abbrev request : List ℕ → Option (List ℕ) → Stage → Format → Bool → Bool → Bool → Request
request dir k s f m o t = record { dir = dir; key = k; stage = s; format = f; merged = m; origins = o; tokens = t }

abbrev where_once : Bool → Request → List (List ℕ) → Question
where_once once r words = if once && are_pairs words then under r words else alone unknown

module _ (dir : List ℕ) where
  -- the request of parts by their kind, each of which is at most once
  abbrev asked_in : List (List ℕ) → List Stage → List Format → List Bool → List Bool → List Bool → List (List ℕ) → Question
  asked_in ks ss fs ms os ts words =
      where_once (at_most_one ks && at_most_one ss && at_most_one fs && at_most_one ms && at_most_one os && at_most_one ts)
      (request dir (first ks) (first_or resolved ss) (first_or toml fs) (first_or true ms) (first_or false os) (first_or false ts)) words

  -- what is asked by what was found, and the parts after it
  abbrev pub asked_with : Found → List Part → List (List ℕ) → Question
  asked_with f parts words =
      asked_in (found_one f.key ++ flat_map key_in parts) (found_one f.stage ++ flat_map stage_in parts) (found_one f.format ++ flat_map format_in parts)
      (found_one f.merged ++ flat_map merged_in parts) (said f.origins ++ flat_map origins_in parts) (said f.tokens ++ flat_map tokens_in parts) words

  -- one part more
  module _ (f g : Found) (ps : List Part) (words : List (List ℕ)) where
    key_more : (text : List ℕ) → with_part f (key text) ≡ Some g → asked_with f (key text ∷ ps) words ≡ asked_with g ps words
    key_more text = go f.key refl
      where
        go : (o : Option (List ℕ)) → f.key ≡ o → cond (is_some o) None (Some (record f { key = Some text })) ≡ Some g
            → asked_with f (key text ∷ ps) words ≡ asked_with g ps words
        go None none is =
            ap (λ o. asked_with (record f { key = o }) (key text ∷ ps) words) none ∙ ap (λ o. asked_with (unwrap_or o f) ps words) is
        go (Some other) none is = absurd (false≢true (ap is_some is))

    stage_more : (s : Stage) → with_part f (stage s) ≡ Some g → asked_with f (stage s ∷ ps) words ≡ asked_with g ps words
    stage_more s = go f.stage refl
      where
        go : (o : Option Stage) → f.stage ≡ o → cond (is_some o) None (Some (record f { stage = Some s })) ≡ Some g
            → asked_with f (stage s ∷ ps) words ≡ asked_with g ps words
        go None none is =
            ap (λ o. asked_with (record f { stage = o }) (stage s ∷ ps) words) none ∙ ap (λ o. asked_with (unwrap_or o f) ps words) is
        go (Some other) none is = absurd (false≢true (ap is_some is))

    format_more : (t : Format) → with_part f (format t) ≡ Some g → asked_with f (format t ∷ ps) words ≡ asked_with g ps words
    format_more t = go f.format refl
      where
        go : (o : Option Format) → f.format ≡ o → cond (is_some o) None (Some (record f { format = Some t })) ≡ Some g
            → asked_with f (format t ∷ ps) words ≡ asked_with g ps words
        go None none is =
            ap (λ o. asked_with (record f { format = o }) (format t ∷ ps) words) none ∙ ap (λ o. asked_with (unwrap_or o f) ps words) is
        go (Some other) none is = absurd (false≢true (ap is_some is))

    merged_more : (b : Bool) → with_part f (merged b) ≡ Some g → asked_with f (merged b ∷ ps) words ≡ asked_with g ps words
    merged_more b = go f.merged refl
      where
        go : (o : Option Bool) → f.merged ≡ o → cond (is_some o) None (Some (record f { merged = Some b })) ≡ Some g
            → asked_with f (merged b ∷ ps) words ≡ asked_with g ps words
        go None none is =
            ap (λ o. asked_with (record f { merged = o }) (merged b ∷ ps) words) none ∙ ap (λ o. asked_with (unwrap_or o f) ps words) is
        go (Some other) none is = absurd (false≢true (ap is_some is))

    origins_more : with_part f origins ≡ Some g → asked_with f (origins ∷ ps) words ≡ asked_with g ps words
    origins_more = go f.origins refl
      where
        go : (b : Bool) → f.origins ≡ b → cond b None (Some (record f { origins = true })) ≡ Some g
            → asked_with f (origins ∷ ps) words ≡ asked_with g ps words
        go false none is =
            ap (λ b. asked_with (record f { origins = b }) (origins ∷ ps) words) none ∙ ap (λ o. asked_with (unwrap_or o f) ps words) is
        go true none is = absurd (false≢true (ap is_some is))

    tokens_more : with_part f tokens ≡ Some g → asked_with f (tokens ∷ ps) words ≡ asked_with g ps words
    tokens_more = go f.tokens refl
      where
        go : (b : Bool) → f.tokens ≡ b → cond b None (Some (record f { tokens = true })) ≡ Some g
            → asked_with f (tokens ∷ ps) words ≡ asked_with g ps words
        go false none is =
            ap (λ b. asked_with (record f { tokens = b }) (tokens ∷ ps) words) none ∙ ap (λ o. asked_with (unwrap_or o f) ps words) is
        go true none is = absurd (false≢true (ap is_some is))

    more : (p : Part) → with_part f p ≡ Some g → asked_with f (p ∷ ps) words ≡ asked_with g ps words
    more (key text) is = key_more text is
    more (stage s) is = stage_more s is
    more (format t) is = format_more t is
    more (merged b) is = merged_more b is
    more origins is = origins_more is
    more tokens is = tokens_more is

  -- a part of a kind that was found
  module _ (f : Found) (ps : List Part) (words : List (List ℕ)) where
    key_twice : (text : List ℕ) → with_part f (key text) ≡ None → asked_with f (key text ∷ ps) words ≡ alone unknown
    key_twice text = go f.key refl
      where
        go : (o : Option (List ℕ)) → f.key ≡ o → cond (is_some o) None (Some (record f { key = Some text })) ≡ None
            → asked_with f (key text ∷ ps) words ≡ alone unknown
        go (Some k) some is = ap (λ o. asked_with (record f { key = o }) (key text ∷ ps) words) some
        go None some is = absurd (false≢true (sym (ap is_some is)))

    second_twice : (k f m o t : Bool) (r : Request) → where_once (k && false && f && m && o && t) r words ≡ alone unknown
    second_twice false f m o t r = refl
    second_twice true f m o t r = refl

    third_twice : (k s m o t : Bool) (r : Request) → where_once (k && s && false && m && o && t) r words ≡ alone unknown
    third_twice false s m o t r = refl
    third_twice true false m o t r = refl
    third_twice true true m o t r = refl

    fourth_twice : (k s f o t : Bool) (r : Request) → where_once (k && s && f && false && o && t) r words ≡ alone unknown
    fourth_twice false s f o t r = refl
    fourth_twice true false f o t r = refl
    fourth_twice true true false o t r = refl
    fourth_twice true true true o t r = refl

    fifth_twice : (k s f m t : Bool) (r : Request) → where_once (k && s && f && m && false && t) r words ≡ alone unknown
    fifth_twice false s f m t r = refl
    fifth_twice true false f m t r = refl
    fifth_twice true true false m t r = refl
    fifth_twice true true true false t r = refl
    fifth_twice true true true true t r = refl

    sixth_twice : (k s f m o : Bool) (r : Request) → where_once (k && s && f && m && o && false) r words ≡ alone unknown
    sixth_twice false s f m o r = refl
    sixth_twice true false f m o r = refl
    sixth_twice true true false m o r = refl
    sixth_twice true true true false o r = refl
    sixth_twice true true true true false r = refl
    sixth_twice true true true true true r = refl

    -- the parts of each kind
    abbrev all_keys : List (List ℕ)
    all_keys = found_one f.key ++ flat_map key_in ps

    abbrev all_stages : List Stage
    all_stages = found_one f.stage ++ flat_map stage_in ps

    abbrev all_formats : List Format
    all_formats = found_one f.format ++ flat_map format_in ps

    abbrev all_merged : List Bool
    all_merged = found_one f.merged ++ flat_map merged_in ps

    abbrev all_origins : List Bool
    all_origins = said f.origins ++ flat_map origins_in ps

    abbrev all_tokens : List Bool
    all_tokens = said f.tokens ++ flat_map tokens_in ps

    stage_twice : (s : Stage) → with_part f (stage s) ≡ None → asked_with f (stage s ∷ ps) words ≡ alone unknown
    stage_twice s = go f.stage refl
      where
        go : (o : Option Stage) → f.stage ≡ o → cond (is_some o) None (Some (record f { stage = Some s })) ≡ None
            → asked_with f (stage s ∷ ps) words ≡ alone unknown
        go (Some old) some is =
            ap (λ o. asked_with (record f { stage = o }) (stage s ∷ ps) words) some
            ∙ second_twice (at_most_one all_keys) (at_most_one all_formats) (at_most_one all_merged) (at_most_one all_origins) (at_most_one all_tokens)
            (request dir (first all_keys) old (first_or toml all_formats) (first_or true all_merged) (first_or false all_origins) (first_or false all_tokens))
        go None some is = absurd (false≢true (sym (ap is_some is)))

    format_twice : (t : Format) → with_part f (format t) ≡ None → asked_with f (format t ∷ ps) words ≡ alone unknown
    format_twice t = go f.format refl
      where
        go : (o : Option Format) → f.format ≡ o → cond (is_some o) None (Some (record f { format = Some t })) ≡ None
            → asked_with f (format t ∷ ps) words ≡ alone unknown
        go (Some old) some is =
            ap (λ o. asked_with (record f { format = o }) (format t ∷ ps) words) some
            ∙ third_twice (at_most_one all_keys) (at_most_one all_stages) (at_most_one all_merged) (at_most_one all_origins) (at_most_one all_tokens)
            (request dir (first all_keys) (first_or resolved all_stages) old (first_or true all_merged) (first_or false all_origins) (first_or false all_tokens))
        go None some is = absurd (false≢true (sym (ap is_some is)))

    merged_twice : (b : Bool) → with_part f (merged b) ≡ None → asked_with f (merged b ∷ ps) words ≡ alone unknown
    merged_twice b = go f.merged refl
      where
        go : (o : Option Bool) → f.merged ≡ o → cond (is_some o) None (Some (record f { merged = Some b })) ≡ None
            → asked_with f (merged b ∷ ps) words ≡ alone unknown
        go (Some old) some is =
            ap (λ o. asked_with (record f { merged = o }) (merged b ∷ ps) words) some
            ∙ fourth_twice (at_most_one all_keys) (at_most_one all_stages) (at_most_one all_formats) (at_most_one all_origins) (at_most_one all_tokens)
            (request dir (first all_keys) (first_or resolved all_stages) (first_or toml all_formats) old (first_or false all_origins) (first_or false all_tokens))
        go None some is = absurd (false≢true (sym (ap is_some is)))

    origins_twice : with_part f origins ≡ None → asked_with f (origins ∷ ps) words ≡ alone unknown
    origins_twice = go f.origins refl
      where
        go : (b : Bool) → f.origins ≡ b → cond b None (Some (record f { origins = true })) ≡ None → asked_with f (origins ∷ ps) words ≡ alone unknown
        go true some is =
            ap (λ b. asked_with (record f { origins = b }) (origins ∷ ps) words) some
            ∙ fifth_twice (at_most_one all_keys) (at_most_one all_stages) (at_most_one all_formats) (at_most_one all_merged) (at_most_one all_tokens)
            (request dir (first all_keys) (first_or resolved all_stages) (first_or toml all_formats) (first_or true all_merged) true (first_or false all_tokens))
        go false some is = absurd (false≢true (sym (ap is_some is)))

    tokens_twice : with_part f tokens ≡ None → asked_with f (tokens ∷ ps) words ≡ alone unknown
    tokens_twice = go f.tokens refl
      where
        go : (b : Bool) → f.tokens ≡ b → cond b None (Some (record f { tokens = true })) ≡ None → asked_with f (tokens ∷ ps) words ≡ alone unknown
        go true some is =
            ap (λ b. asked_with (record f { tokens = b }) (tokens ∷ ps) words) some
            ∙ sixth_twice (at_most_one all_keys) (at_most_one all_stages) (at_most_one all_formats) (at_most_one all_merged) (at_most_one all_origins)
            (request dir (first all_keys) (first_or resolved all_stages) (first_or toml all_formats) (first_or true all_merged) (first_or false all_origins) true)
        go false some is = absurd (false≢true (sym (ap is_some is)))

    twice : (p : Part) → with_part f p ≡ None → asked_with f (p ∷ ps) words ≡ alone unknown
    twice (key text) is = key_twice text is
    twice (stage s) is = stage_twice s is
    twice (format t) is = format_twice t is
    twice (merged b) is = merged_twice b is
    twice origins is = origins_twice is
    twice tokens is = tokens_twice is

  -- no part more: kind by kind
  module _ (words : List (List ℕ)) where
    with_key : (k : Option (List ℕ)) (ss : List Stage) (fs : List Format) (ms os ts : List Bool)
        → asked_in (found_one k ++ []) ss fs ms os ts words
        ≡ where_once (at_most_one ss && at_most_one fs && at_most_one ms && at_most_one os && at_most_one ts)
        (request dir k (first_or resolved ss) (first_or toml fs) (first_or true ms) (first_or false os) (first_or false ts)) words
    with_key None ss fs ms os ts = refl
    with_key (Some k) ss fs ms os ts = refl

    with_stage : (k : Option (List ℕ)) (s : Option Stage) (fs : List Format) (ms os ts : List Bool)
        → where_once (at_most_one (found_one s ++ []) && at_most_one fs && at_most_one ms && at_most_one os && at_most_one ts)
        (request dir k (first_or resolved (found_one s ++ [])) (first_or toml fs) (first_or true ms) (first_or false os) (first_or false ts)) words
        ≡ where_once (at_most_one fs && at_most_one ms && at_most_one os && at_most_one ts)
        (request dir k (unwrap_or s resolved) (first_or toml fs) (first_or true ms) (first_or false os) (first_or false ts)) words
    with_stage k None fs ms os ts = refl
    with_stage k (Some s) fs ms os ts = refl

    with_format : (k : Option (List ℕ)) (s : Stage) (f : Option Format) (ms os ts : List Bool)
        → where_once (at_most_one (found_one f ++ []) && at_most_one ms && at_most_one os && at_most_one ts)
        (request dir k s (first_or toml (found_one f ++ [])) (first_or true ms) (first_or false os) (first_or false ts)) words
        ≡ where_once (at_most_one ms && at_most_one os && at_most_one ts)
        (request dir k s (unwrap_or f toml) (first_or true ms) (first_or false os) (first_or false ts)) words
    with_format k s None ms os ts = refl
    with_format k s (Some f) ms os ts = refl

    with_merged : (k : Option (List ℕ)) (s : Stage) (f : Format) (m : Option Bool) (os ts : List Bool)
        → where_once (at_most_one (found_one m ++ []) && at_most_one os && at_most_one ts)
        (request dir k s f (first_or true (found_one m ++ [])) (first_or false os) (first_or false ts)) words
        ≡ where_once (at_most_one os && at_most_one ts) (request dir k s f (unwrap_or m true) (first_or false os) (first_or false ts)) words
    with_merged k s f None os ts = refl
    with_merged k s f (Some m) os ts = refl

    with_flags : (k : Option (List ℕ)) (s : Stage) (f : Format) (m o t : Bool)
        → where_once (at_most_one (said o ++ []) && at_most_one (said t ++ [])) (request dir k s f m (first_or false (said o ++ [])) (first_or false (said t ++ []))) words
        ≡ where_once true (request dir k s f m o t) words
    with_flags k s f m false false = refl
    with_flags k s f m false true = refl
    with_flags k s f m true false = refl
    with_flags k s f m true true = refl

    done : (f : Found) → asked_with f [] words ≡ question_found dir f words
    done f =
        with_key f.key (found_one f.stage ++ []) (found_one f.format ++ []) (found_one f.merged ++ []) (said f.origins ++ []) (said f.tokens ++ [])
        ∙ with_stage f.key f.stage (found_one f.format ++ []) (found_one f.merged ++ []) (said f.origins ++ []) (said f.tokens ++ [])
        ∙ with_format f.key (unwrap_or f.stage resolved) f.format (found_one f.merged ++ []) (said f.origins ++ []) (said f.tokens ++ [])
        ∙ with_merged f.key (unwrap_or f.stage resolved) (unwrap_or f.format toml) f.merged (said f.origins ++ []) (said f.tokens ++ [])
        ∙ with_flags f.key (unwrap_or f.stage resolved) (unwrap_or f.format toml) (unwrap_or f.merged true) f.origins f.tokens

  -- what is asked by what was found, and words after it
  abbrev pub asked_behind : Found → List (List ℕ) → Question
  asked_behind f words = asked_with f (parted words).0 (parted words).1

  pub from_nothing : (words : List (List ℕ)) → asked_behind nothing_found words ≡ question_in dir (parted words).0 (parted words).1
  from_nothing words = refl

  module _ (f : Found) (words : List (List ℕ)) where
    pub one_more : (g : Found) (p : Part) (behind : List (List ℕ)) → parted words ≡ (p ∷ (parted behind).0, (parted behind).1) → with_part f p ≡ Some g
        → asked_behind f words ≡ asked_behind g behind
    one_more g p behind read is =
        ap (λ (r : List Part × List (List ℕ)). asked_with f r.0 r.1) read ∙ more f g (parted behind).0 (parted behind).1 p is

    pub found_twice : (p : Part) (behind : List (List ℕ)) → parted words ≡ (p ∷ (parted behind).0, (parted behind).1) → with_part f p ≡ None
        → asked_behind f words ≡ alone unknown
    found_twice p behind read is =
        ap (λ (r : List Part × List (List ℕ)). asked_with f r.0 r.1) read ∙ twice f (parted behind).0 (parted behind).1 p is

    pub no_more : parted words ≡ ([], words) → asked_behind f words ≡ question_found dir f words
    no_more read = ap (λ (r : List Part × List (List ℕ)). asked_with f r.0 r.1) read ∙ done words f
