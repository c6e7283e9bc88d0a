-- What is written of sources, one after the other.
use Rattle.std.proofs.Common.{◌≡◌, ◌⊎◌, ℕ, List, [], ◌∷◌, ◌++◌, Option, None, Result, Ok, Err, Vec, Global, IfOk, map, refl, sym, ap, subst, ◌∙◌, inl, inr, append_assoc}
use Rattle.std.proofs.lemmas.List.{append-nil, map-append}
use Rattle.serde_json.specs.Data.{Data}
use Rattle.cc2_error.specs.Causes.{Refusal, memory, plain, refusal_of}
use Rattle.cc2_error.specs.Outcomes.{IsWantOfMemory}
use Rattle.cc2_error.specs.declared.error.Error.{Error}
use Rattle.cc2_error.specs.declared.error.NoMemory.{NoMemory}
use Rattle.cc2_base.specs.Homes.{cargo_home_of}
use Rattle.cc2_base.specs.Told.{Tree}
use Rattle.cc2_base.specs.Walked.{walked}
use Rattle.cc2_base.specs.declared.machine.Machine.{Machine}
use Rattle.cc2_value.specs.Cells.{Cell, KeyPath}
use Rattle.cc2_env.specs.CommandLine.{Override}
use Rattle.cc2_env.specs.declared.options.ResolveOptions.{ResolveOptions}
use Rattle.cc2_de.specs.ConfigFile.{IsFileCause}
use Rattle.cc2_answers.specs.Choices.{ChoosesAlone}
use Rattle.cc2_json.specs.AtKey.{at_key}
use Rattle.cc2_json.specs.TomlPlaces.{Free}
use Rattle.cc2_json.proofs.AtKey.{at_free}
use Rattle.cc2_json.proofs.Floats.{is_free}
use Rattle.cc2_json.specs.Reader.{IsJsonOfLook}
use Rattle.cc2_cli.specs.Answers.{Refuses, answer_text}
use Rattle.cc2_cli.specs.declared.answer.Answer.{Answer}
use Rattle.cc2_de.specs.OverridesAlone.{IsOptionCause}
use Rattle.cc2_de.specs.VariablesAlone.{IsVariableCause}
use Rattle.cc2_cli.specs.ShowWords.{Request}
use Rattle.cc2_show_answers.specs.Sources.{Source, IsCauseAmong, above, file, set_above}
use Rattle.cc2_show_answers.specs.ToldRuns.{form_of}
use Rattle.cc2_show_answers.specs.Unmerged.{AreBlocks, EndsUnmerged, IsBlock, IsBlockOf, IsUnmergedCause, block_text, is_there, lines_there, refused}

module _ (request : Request) (pieces : List (List ℕ)) (source : Source) (m : KeyPath → Option Cell) (whole : Data) (of : IsJsonOfLook (form_of request) m whole) where
  -- of what is at a key
  pub block_told : (found : Option Data) (result : Result (Vec ℕ Global) NoMemory) → found ≡ at_key request.origins pieces whole
      → IfOk result (λ text. Free found → text.items ≡ block_text (is_there found) source (lines_there request.origins pieces found)) → IfOk result (λ text. IsBlock request pieces source m text.items)
  block_told found (Ok text) at told = record {
    whole = whole;
    of = of;
    told = subst (λ (d : Option Data). text.items ≡ block_text (is_there d) source (lines_there request.origins pieces d)) at
        (told (subst Free (sym at) (at_free request.origins pieces whole (is_free (form_of request) m whole of))));
  }
  block_told found (Err e) at told = tt

  -- where nothing does
  pub no_block : (text : List ℕ) → None ≡ at_key request.origins pieces whole → text ≡ [] → IsBlock request pieces source m text
  no_block text at none = record { whole = whole; of = of; told = subst (λ (d : Option Data). text ≡ block_text (is_there d) source (lines_there request.origins pieces d)) at none }

module _ (fs : Tree) (machine : Machine) (dir : List ℕ) (os : List Override) where
  -- a cause among some is one among more
  pub before : (some others : List Source) (refusal : Refusal) → IsCauseAmong fs machine dir os some refusal → IsCauseAmong fs machine dir os (some ++ others) refusal
  before [] others refusal h = absurd h
  before (source ∷ some) others refusal (inl h) = inl h
  before (source ∷ some) others refusal (inr h) = inr (before some others refusal h)

  pub behind : (some others : List Source) (refusal : Refusal) → IsCauseAmong fs machine dir os others refusal → IsCauseAmong fs machine dir os (some ++ others) refusal
  behind [] others refusal h = h
  behind (source ∷ some) others refusal h = inr (behind some others refusal h)

  -- a file is refused, between others
  pub or_file : (done : List (List ℕ)) (path : List ℕ) (rest : List (List ℕ)) (e : Error) → IsWantOfMemory e ⊎ IsFileCause fs path (refusal_of e)
      → IsWantOfMemory e ⊎ IsCauseAmong fs machine dir os (map file (done ++ path ∷ rest)) (refusal_of e)
  or_file done path rest e (inl wants) = inl wants
  or_file done path rest e (inr h) =
      inr (subst (λ (ss : List Source). IsCauseAmong fs machine dir os ss (refusal_of e)) (sym (map-append file done (path ∷ rest)))
      (behind (map file done) (map file (path ∷ rest)) (refusal_of e) (inl h)))

  -- the overrides are refused, or a variable is
  pub of_overrides : (options : ResolveOptions) (e : Error) → ChoosesAlone os options → IsWantOfMemory e ⊎ IsOptionCause fs machine dir options (refusal_of e)
      → IsWantOfMemory e ⊎ IsCauseAmong fs machine dir os set_above (refusal_of e)
  of_overrides options e alone (inl wants) = inl wants
  of_overrides options e alone (inr h) = inr (inl (options, alone, h))

  pub of_variables : (e : Error) → IsWantOfMemory e ⊎ IsVariableCause machine (refusal_of e) → IsWantOfMemory e ⊎ IsCauseAmong fs machine dir os set_above (refusal_of e)
  of_variables e (inl wants) = inl wants
  of_variables e (inr h) = inr (inr (inl h))

module _ (fs : Tree) (machine : Machine) (os : List Override) (request : Request) (pieces : List (List ℕ)) where
  -- of one
  pub one : (source : Source) (text : List ℕ) → IsBlockOf fs machine os request pieces source text
      → AreBlocks fs machine os request pieces (source ∷ []) text
  one source text of = (text, [], of, refl, sym (append-nil text))

  -- of some, and of others after them
  pub both : (some others : List Source) (a b : List ℕ) → AreBlocks fs machine os request pieces some a
      → AreBlocks fs machine os request pieces others b → AreBlocks fs machine os request pieces (some ++ others) (a ++ b)
  both [] others a b none more = subst (λ (x : List ℕ). AreBlocks fs machine os request pieces others (x ++ b)) (sym none) more
  both (source ∷ some) others a b (first, rest, of, more, is) behind =
      (first, rest ++ b, of, both some others rest b more behind, ap (λ x. x ++ b) is ∙ append_assoc first rest b)

  module _ (home : Option (List ℕ)) (e : Error) (known : cargo_home_of request.dir machine ≡ Ok home) where
    -- a source above the files is refused
    pub or_above : IsWantOfMemory e ⊎ IsCauseAmong fs machine request.dir os (above request.stage) (refusal_of e)
        → IsWantOfMemory e ⊎ IsUnmergedCause fs machine os request pieces (refusal_of e)
    or_above (inl wants) = inl wants
    or_above (inr h) =
        inr (inr (home, known, before fs machine request.dir os (above request.stage) (map file (walked fs request.dir home)) (refusal_of e) h))

    -- a file is
    pub or_below : IsWantOfMemory e ⊎ IsCauseAmong fs machine request.dir os (map file (walked fs request.dir home)) (refusal_of e)
        → IsWantOfMemory e ⊎ IsUnmergedCause fs machine os request pieces (refusal_of e)
    or_below (inl wants) = inl wants
    or_below (inr h) =
        inr (inr (home, known, behind fs machine request.dir os (above request.stage) (map file (walked fs request.dir home)) (refusal_of e) h))

  -- a refusal is written
  pub of_refusal : (refusal : Refusal) (answer : Answer) → (refusal ≡ plain memory) ⊎ IsUnmergedCause fs machine os request pieces refusal → Refuses refusal answer
      → EndsUnmerged fs machine os request pieces (answer_text answer) answer.status
  of_refusal refusal answer h (stated, inl same, text, status) =
      refused stated (subst (λ (r : Refusal). (r ≡ plain memory) ⊎ IsUnmergedCause fs machine os request pieces r) (sym same) h) text status
  of_refusal refusal answer h (stated, inr wants, text, status) = refused stated (inl wants) text status
