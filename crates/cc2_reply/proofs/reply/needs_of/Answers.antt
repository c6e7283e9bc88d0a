use Rattle.std.proofs.Common.{◌++◌, ℕ, List, String, Global, map, string_bytes, ap, ◌∙◌}
use Rattle.cc2_ask.specs.Needs.{candidates_of}
use Rattle.cc2_reply.specs.Asked.{askable, other_paths}
use Rattle.cc2_reply.proofs.Answered.{needed_are}
use Rattle.cc2_reply.proofs.reply.needs_of.Goals as goal

pub returns : goal.returns
returns c =
    let given = c.args.given.now in
    let machine = given.machine in
    let words = c.as_slice-words.result.now in
    let dir = c.dir_of-dir.result.now in
    needed_are given (candidates_of dir machine ++ map string_bytes c.as_slice.result.now) c.needs_for.result
    (ap (λ (os : List (String Global)). candidates_of dir machine ++ map string_bytes os) c.as_slice.ensures.value
    ∙ ap (λ (ps : List (List ℕ)). candidates_of dir machine ++ ps) c.in_ok-others.ensures
    ∙ ap (λ (d : List ℕ). candidates_of d machine ++ other_paths d (map string_bytes words) machine) c.dir_of-dir.ensures
    ∙ ap (λ (ws : List (String Global)). askable (map string_bytes ws) machine) c.as_slice-words.ensures.value)
    c.needs_for.ensures.some c.needs_for.ensures.new c.needs_for.ensures.listed
