use Rattle.std.proofs.Common.{ℕ, List, Bor, map, string_bytes, ap, ◌∙◌, subst}
use Rattle.serde_json.specs.Data.{no_members}
use Rattle.serde_json.specs.View.{view}
use Rattle.cc2_error.specs.Commands.{command_of}
use Rattle.cc2_target_answers.specs.CargoTargets.{AreCargoTargets, ArePut}
use Rattle.cc2_target_answers.specs.Outcomes.{Comes}
use Rattle.cc2_target_answers.proofs.CargoLoaded.{comes_on}
use Rattle.cc2_target_answers.proofs.Putting.{all_asked_for}
use Rattle.cc2_target_answers.proofs.by_cargo.targets_of.Goals as goal

pub returns-clause-told : goal.returns-clause-told
returns-clause-told g c answers before =
    let settings = c.args.sources.settings.now in
    let machine = c.args.sources.machine.now in
    let dir = c.args.dir.now in
    let texts = map (λ text. text.now) c.args.texts.now in
    let rustc = command_of c.in_ok-rustc.rustc in
    let triples = map string_bytes c.in_ok-triples.triples.items in
    let same = ap (λ (ts : List (Bor (List ℕ))). map (λ t. t.now) ts) c.as_slice-2.ensures.value
    ∙ (c.in_ok-triples-2.ensures ∙ ap (λ ts. map string_bytes ts) c.as_slice.ensures.value) in
    comes_on view (ArePut settings machine dir rustc answers triples no_members) (AreCargoTargets settings machine dir texts answers)
    (all_asked_for settings machine dir texts answers rustc triples c.in_ok-rustc.ensures (c.in_ok-triples.ensures.told answers before))
    c.settings_of.result
    (subst (λ (ts : List (List ℕ)). Comes view (ArePut settings machine dir rustc answers ts no_members) c.settings_of.result) same
    (c.settings_of.ensures.told answers ((c.in_ok-triples.ensures.same answers).0 before)))
