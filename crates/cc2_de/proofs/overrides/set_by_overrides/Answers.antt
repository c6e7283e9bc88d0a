use Rattle.std.proofs.Common.{◌≡◌, ◌∙◌, ℕ, List, Some, string_bytes, ap, subst}
use Rattle.cc2_error.specs.Outcomes.{Answered}
use Rattle.cc2_base.specs.Told.{Tree}
use Rattle.cc2_env.specs.CommandLine.{Override}
use Rattle.cc2_env.specs.Options.{chosen_overrides}
use Rattle.cc2_de.specs.Config.{config_at}
use Rattle.cc2_de.specs.Overrides.{IsOver, IsOverCause}
use Rattle.cc2_de.proofs.Made.{refused_over, set_over}
use Rattle.cc2_de.proofs.overrides.set_by_overrides.Goals as goal

pub returns : goal.returns
returns g c =
    let machine = c.args.machine.now in
    let dir = c.args.dir.now in
    let options = c.args.options in
    let context = c.in_ok-context.context in
    let result = c.apply_overrides.result in
    let nothing = config_at c.empty.result in
    let place : string_bytes context.current_dir ≡ dir = ap string_bytes c.in_ok-context.ensures.ok.directory ∙ c.in_ok-place.ensures.ok in
    let over : (fs : Tree) → g.F.Files.told c.args.files.now fs → Answered config_at result (IsOver fs dir (chosen_overrides options) nothing)
    (IsOverCause fs dir (chosen_overrides options) nothing) =
    λ fs told. subst (λ (d : List ℕ). Answered config_at result (IsOver fs d (chosen_overrides options) nothing) (IsOverCause fs d (chosen_overrides options) nothing)) place
    (subst (λ (os : List Override). Answered config_at result (IsOver fs (string_bytes context.current_dir) os nothing) (IsOverCause fs (string_bytes context.current_dir) os nothing))
    c.in_ok-context.ensures.ok.overrides (c.apply_overrides.ensures fs told)) in record {
      ok = λ fs told. set_over fs machine dir options c.empty.result c.empty.ensures result (over fs told);
      refused = λ fs told. refused_over fs machine dir options c.empty.result c.empty.ensures result (over fs told);
    }
