use Rattle.std.proofs.Common.{ℕ, List, ◌∷◌, Some, Bor, map, sym, ap, refl}
use Rattle.cc2_leaf.specs.Lists.{flags_value}
use Rattle.cc2_leaf.specs.TextWays.{encoded_text_way, spaced_text_way}
use Rattle.cc2_env.specs.Options.{variables_of}
use Rattle.cc2_env.specs.Ranked.{set_or, first_set}
use Rattle.cc2_env.specs.Ranks.{variable_by, named_by}
use Rattle.cc2_env.proofs.Reading.{on_ok, if_err, by_set, by_exit, by_past, cause_past, text_refused, no_refusal, is_text}
use Rattle.cc2_env.proofs.read.read_flags.Goals as goal

pub returns-in_err-text-in-Some-clause-refused : goal.returns-in_err-text-in-Some-clause-refused
returns-in_err-text-in-Some-clause-refused c =
    let n = variable_by c.args.encoded.now encoded_text_way in
    let vars = variables_of c.args.context.now in
    let names : List (List ℕ) = map (λ (name : Bor (List ℕ)). name.now) c.args.spaced.now in
    by_exit flags_value vars _ (n ∷ named_by spaced_text_way names) (n, c.in-Some.value.now) c.args.flags.now
    _ c.from_residual.ensures.1
    (sym (ap (λ o. set_or n o (first_set vars (named_by spaced_text_way names))) c.in-Some.ensures))
    (text_refused n c.in-Some.value.now _ c.in_err-text-in-Some.ensures)

pub returns-in-None-clause-ok : goal.returns-in-None-clause-ok
returns-in-None-clause-ok c =
    let n = variable_by c.args.encoded.now encoded_text_way in
    let vars = variables_of c.args.context.now in
    let names : List (List ℕ) = map (λ (name : Bor (List ℕ)). name.now) c.args.spaced.now in
    on_ok c.read_first.result
    (by_past flags_value vars n (named_by spaced_text_way names) c.args.flags.now c.read_first.new.setting
    (sym c.in-None.ensures)) c.read_first.ensures.ok

pub returns-in-None-clause-refused : goal.returns-in-None-clause-refused
returns-in-None-clause-refused c =
    let n = variable_by c.args.encoded.now encoded_text_way in
    let vars = variables_of c.args.context.now in
    let names : List (List ℕ) = map (λ (name : Bor (List ℕ)). name.now) c.args.spaced.now in
    if_err c.read_first.result (λ e. cause_past flags_value vars n (named_by spaced_text_way names) c.args.flags.now e
    (sym c.in-None.ensures)) c.read_first.ensures.refused

pub returns-in_ok-read-in-Some-clause-ok : goal.returns-in_ok-read-in-Some-clause-ok
returns-in_ok-read-in-Some-clause-ok c =
    let n = variable_by c.args.encoded.now encoded_text_way in
    let vars = variables_of c.args.context.now in
    let names : List (List ℕ) = map (λ (name : Bor (List ℕ)). name.now) c.args.spaced.now in
    let is = is_text c.args.encoded.now c.in-Some.value.now c.in_ok-text-in-Some.text.now
    c.in_ok-text-in-Some.ensures in
    rw c.put_in.ensures
    (by_set flags_value vars (n ∷ named_by spaced_text_way names) (n, c.in-Some.value.now) c.args.flags.now
    (Some c.in_ok-read-in-Some.read)
    (sym (ap (λ o. set_or n o (first_set vars (named_by spaced_text_way names))) c.in-Some.ensures))
    (no_refusal n c.in-Some.value.now c.in_ok-text-in-Some.text.now c.in_ok-text-in-Some.ensures refl)
    (λ p. rw is.1 (c.in_ok-read-in-Some.ensures.ok.1 p)))
