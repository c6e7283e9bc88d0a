use Rattle.std.proofs.Common.{Ok, map, refl, string_bytes, sym, ap, ◌∙◌, inl, inr, ⊎_elim, subst}
use Rattle.std.proofs.lemmas.Result.{err_from_is_err_and}
use Rattle.std.proofs.lemmas.Slice.Eq.{bytes_eq-Decides}
use Rattle.cc2_error.specs.Causes.{refusal_of}
use Rattle.cc2_error.specs.Commands.{command_of}
use Rattle.cc2_cargo.specs.Raw.{raw_members_at}
use Rattle.cc2_resolved.specs.ShownFlags.{flag_texts}
use Rattle.cc2_rustc.specs.Printed.{printed}
use Rattle.cc2_cargo_target.specs.Flags.{flags_of}
use Rattle.cc2_cargo_target.specs.Keys.{AreMatching}
use Rattle.cc2_cargo_target.specs.Settling.{not_known}
use Rattle.cc2_cargo_target.specs.declared.tool.Tool.TheVariants.{Rustc}
use Rattle.cc2_cargo_target.proofs.Settling.{flags_refused, known, refused_twice, settled_once, settled_twice, unknown}
use Rattle.cc2_cargo_target.proofs.settle.settle.Goals as goal

pub returns-in_err-printed-clause-settles : goal.returns-in_err-printed-clause-settles
returns-in_err-printed-clause-settles g c answers world =
    let p = err_from_is_err_and c.from_residual.result c.from_residual.ensures.1 in
    let rustc = command_of c.args.rustc.now in
    let keys = map (λ k. k.now) c.args.keys.now in
    let refusal = refusal_of c.in_err-printed.field-0.0 in
    rw (p.1, p.2)
    (⊎_elim (λ memory. inl memory)
    (λ is. inr (not_known refusal (sym c.if-not-have_cfg.ensures) (unknown rustc answers c.args.triple.now keys (flag_texts c.args.plain) refusal is) refl))
    (c.in_err-printed.ensures.told answers world))

pub returns-in_err-flags-clause-settles : goal.returns-in_err-flags-clause-settles
returns-in_err-flags-clause-settles g c answers world =
    let p = err_from_is_err_and c.from_residual-in_err-flags.result c.from_residual-in_err-flags.ensures.1 in
    let rustc = command_of c.args.rustc.now in
    let keys = map (λ k. k.now) c.args.keys.now in
    let plain = flag_texts c.args.plain in
    let first = c.in_ok-printed.field-0 in
    let matching = map (λ k. k.now) first.matching.items in
    let look = raw_members_at c.args.sources.settings.now in
    let machine = c.args.sources.machine.now in
    let triple = c.args.triple.now in
    let is_slice = ap (λ ks. flags_of look machine Rustc triple (map (λ k. k.now) ks)) (sym c.as_slice.ensures.value) in
    let matches = known rustc answers triple keys plain (string_bytes first.printed) matching
    (c.in_ok-printed.ensures.told answers world) c.in_ok-printed.ensures.matching in
    rw (p.1, p.2)
    (⊎_elim (λ memory. inl memory)
    (λ is. inr (flags_refused look machine rustc answers triple keys plain matching (refusal_of c.in_err-flags.field-0.0)
    (sym c.if-not-have_cfg.ensures) matches (is_slice ∙ is)))
    c.in_err-flags.ensures)

pub returns-then-eq-clause-settles : goal.returns-then-eq-clause-settles
returns-then-eq-clause-settles g c answers world =
    let rustc = command_of c.args.rustc.now in
    let keys = map (λ k. k.now) c.args.keys.now in
    let plain = flag_texts c.args.plain in
    let first = c.in_ok-printed.field-0 in
    let matching = map (λ k. k.now) first.matching.items in
    let look = raw_members_at c.args.sources.settings.now in
    let machine = c.args.sources.machine.now in
    let triple = c.args.triple.now in
    let is_slice = ap (λ ks. flags_of look machine Rustc triple (map (λ k. k.now) ks)) (sym c.as_slice.ensures.value) in
    let matches = known rustc answers triple keys plain (string_bytes first.printed) matching
    (c.in_ok-printed.ensures.told answers world) c.in_ok-printed.ensures.matching in
    settled_once look machine rustc answers triple keys plain matching (flag_texts c.in_ok-flags.flags)
    (sym c.if-not-have_cfg.ensures) matches (is_slice ∙ c.in_ok-flags.ensures) (sym c.if-eq.ensures.computed)

pub returns-in_err-again-clause-settles : goal.returns-in_err-again-clause-settles
returns-in_err-again-clause-settles g c answers world =
    let p = err_from_is_err_and c.from_residual-in_err-again.result c.from_residual-in_err-again.ensures.1 in
    let rustc = command_of c.args.rustc.now in
    let keys = map (λ k. k.now) c.args.keys.now in
    let plain = flag_texts c.args.plain in
    let flags = flag_texts c.in_ok-flags.flags in
    let first = c.in_ok-printed.field-0 in
    let matching = map (λ k. k.now) first.matching.items in
    let look = raw_members_at c.args.sources.settings.now in
    let machine = c.args.sources.machine.now in
    let triple = c.args.triple.now in
    let is_slice = ap (λ ks. flags_of look machine Rustc triple (map (λ k. k.now) ks)) (sym c.as_slice.ensures.value) in
    let matches = known rustc answers triple keys plain (string_bytes first.printed) matching
    (c.in_ok-printed.ensures.told answers world) c.in_ok-printed.ensures.matching in
    let refusal = refusal_of c.in_err-again.field-0.0 in
    rw (p.1, p.2)
    (⊎_elim (λ memory. inl memory)
    (λ is. inr (refused_twice look machine rustc answers triple keys plain matching flags refusal (sym c.if-not-have_cfg.ensures) matches
    (is_slice ∙ c.in_ok-flags.ensures) (sym c.if-eq.ensures.computed) (unknown rustc answers triple keys flags refusal is)))
    (c.in_err-again.ensures.told answers ((c.in_ok-printed.ensures.same answers).0 world)))

pub returns-then-eq-2-clause-settles : goal.returns-then-eq-2-clause-settles
returns-then-eq-2-clause-settles g c answers world =
    let rustc = command_of c.args.rustc.now in
    let keys = map (λ k. k.now) c.args.keys.now in
    let plain = flag_texts c.args.plain in
    let flags = flag_texts c.in_ok-flags.flags in
    let first = c.in_ok-printed.field-0 in
    let matching = map (λ k. k.now) first.matching.items in
    let look = raw_members_at c.args.sources.settings.now in
    let machine = c.args.sources.machine.now in
    let triple = c.args.triple.now in
    let is_slice = ap (λ ks. flags_of look machine Rustc triple (map (λ k. k.now) ks)) (sym c.as_slice.ensures.value) in
    let text = string_bytes first.printed in
    let matches = known rustc answers triple keys plain text matching (c.in_ok-printed.ensures.told answers world) c.in_ok-printed.ensures.matching in
    let same = (bytes_eq-Decides (string_bytes c.in_ok-again.again) text).0 (sym c.if-eq-2.ensures) in
    settled_twice look machine rustc answers triple keys plain matching flags matching (sym c.if-not-have_cfg.ensures) matches
    (is_slice ∙ c.in_ok-flags.ensures) (sym c.if-eq.ensures.computed)
    (known rustc answers triple keys flags text matching
    (c.in_ok-again.ensures.told answers ((c.in_ok-printed.ensures.same answers).0 world) ∙ ap Ok same) c.in_ok-printed.ensures.matching)

pub returns-clause-settles : goal.returns-clause-settles
returns-clause-settles g c answers world =
    let rustc = command_of c.args.rustc.now in
    let keys = map (λ k. k.now) c.args.keys.now in
    let plain = flag_texts c.args.plain in
    let flags = flag_texts c.in_ok-flags.flags in
    let first = c.in_ok-printed.field-0 in
    let matching = map (λ k. k.now) first.matching.items in
    let again = map (λ k. k.now) c.in_ok-matching.matching.items in
    let look = raw_members_at c.args.sources.settings.now in
    let machine = c.args.sources.machine.now in
    let triple = c.args.triple.now in
    let is_slice = ap (λ ks. flags_of look machine Rustc triple (map (λ k. k.now) ks)) (sym c.as_slice.ensures.value) in
    let matches = known rustc answers triple keys plain (string_bytes first.printed) matching
    (c.in_ok-printed.ensures.told answers world) c.in_ok-printed.ensures.matching in
    let text = string_bytes c.in_ok-again.again in
    settled_twice look machine rustc answers triple keys plain matching flags again (sym c.if-not-have_cfg.ensures) matches
    (is_slice ∙ c.in_ok-flags.ensures) (sym c.if-eq.ensures.computed)
    (known rustc answers triple keys flags text again (c.in_ok-again.ensures.told answers ((c.in_ok-printed.ensures.same answers).0 world))
    (subst (λ t. AreMatching (printed t) keys again) c.as_str.ensures.value c.in_ok-matching.ensures))
