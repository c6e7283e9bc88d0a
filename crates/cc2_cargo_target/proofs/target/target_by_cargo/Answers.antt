use Rattle.std.proofs.Common.{ℕ, List, Bor, Ok, Err, map, ap, inl, inr, ⊎_elim, subst}
use Rattle.std.proofs.lemmas.Result.{err_from_is_err_and}
use Rattle.cc2_error.specs.Causes.{refusal_of}
use Rattle.cc2_error.specs.Commands.{command_of}
use Rattle.cc2_cargo.specs.Raw.{raw_members_at}
use Rattle.cc2_resolved.specs.ShownFlags.{flag_texts}
use Rattle.cc2_cargo_target.specs.Settling.{Settles}
use Rattle.cc2_cargo_target.specs.Shown.{settled_view}
use Rattle.cc2_cargo_target.proofs.Targets.{no_refusal, of_settled, unread_flags, unread_keys, unsettled}
use Rattle.cc2_cargo_target.proofs.target.target_by_cargo.Goals as goal

pub returns-in_err-keys-clause-target : goal.returns-in_err-keys-clause-target
returns-in_err-keys-clause-target g c answers world =
    let p = err_from_is_err_and c.from_residual.result c.from_residual.ensures.1 in
    rw (p.1, p.2) (⊎_elim (λ memory. inl memory) (λ is. inr (unread_keys c.args.sources.settings.now c.args.sources.machine.now c.args.dir.now c.args.triple.now (command_of c.args.rustc.now) answers
    (refusal_of c.in_err-keys.field-0.0) is)) c.in_err-keys.ensures)

pub returns-in_err-plain-clause-target : goal.returns-in_err-plain-clause-target
returns-in_err-plain-clause-target g c answers world =
    let p = err_from_is_err_and c.from_residual-in_err-plain.result c.from_residual-in_err-plain.ensures.1 in
    rw (p.1, p.2)
    (⊎_elim (λ memory. inl memory)
    (λ is. inr (unread_flags c.args.sources.settings.now c.args.sources.machine.now c.args.dir.now c.args.triple.now (command_of c.args.rustc.now) answers
    (map (λ k. k.now) c.in_ok-keys.keys.items) (refusal_of c.in_err-plain.field-0.0) c.in_ok-keys.ensures is)) c.in_err-plain.ensures)

pub returns-in_err-settled-clause-target : goal.returns-in_err-settled-clause-target
returns-in_err-settled-clause-target g c answers world =
    let p = err_from_is_err_and c.from_residual-in_err-settled.result c.from_residual-in_err-settled.ensures.1 in
    let keys = map (λ k. k.now) c.in_ok-keys.keys.items in
    let plain = flag_texts c.in_ok-plain.plain in
    let look = raw_members_at c.args.sources.settings.now in
    let is_slice = ap (λ (ks : List (Bor (List ℕ))). map (λ k. k.now) ks) c.as_slice.ensures.value in
    rw (p.1, p.2)
    (⊎_elim (λ memory. inl memory)
    (λ is. inr (unsettled c.args.sources.settings.now c.args.sources.machine.now c.args.dir.now c.args.triple.now (command_of c.args.rustc.now) answers
    keys plain c.in_ok-keys.ensures c.in_ok-plain.ensures (refusal_of c.in_err-settled.field-0.0)
    (subst (λ ks. Settles look c.args.sources.machine.now (command_of c.args.rustc.now) answers c.args.triple.now ks plain (Err (refusal_of c.in_err-settled.field-0.0))) is_slice is)))
    (c.in_err-settled.ensures.settles answers world))

pub returns-clause-target : goal.returns-clause-target
returns-clause-target g c answers world =
    let keys = map (λ k. k.now) c.in_ok-keys.keys.items in
    let plain = flag_texts c.in_ok-plain.plain in
    let look = raw_members_at c.args.sources.settings.now in
    let is_slice = ap (λ (ks : List (Bor (List ℕ))). map (λ k. k.now) ks) c.as_slice.ensures.value in
    of_settled c.args.sources.settings.now c.args.sources.machine.now c.args.dir.now c.args.triple.now (command_of c.args.rustc.now) answers
    keys plain c.in_ok-keys.ensures c.in_ok-plain.ensures c.finished.result (settled_view c.in_ok-settled.settled)
    (subst (λ ks. Settles look c.args.sources.machine.now (command_of c.args.rustc.now) answers c.args.triple.now ks plain (Ok (settled_view c.in_ok-settled.settled))) is_slice
    (c.in_ok-settled.ensures.settles answers world))
    c.finished.ensures

pub returns-clause-exact : goal.returns-clause-exact
returns-clause-exact g c answers world =
    no_refusal c.args.sources.settings.now c.args.sources.machine.now c.args.dir.now c.args.triple.now (command_of c.args.rustc.now) answers
    c.finished.result (returns-clause-target g c answers world)
