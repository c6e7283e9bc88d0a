use Rattle.std.proofs.lemmas.Result.{on_ok_weaker}
use Rattle.cc2_ask.specs.Written.{both_at, listed_at}
use Rattle.cc2_ask.proofs.Written.{both, made}
use Rattle.cc2_state.specs.State.{entry_front, mark_front, optional_front, parts_front, state_of_parts, texts_front}
use Rattle.cc2_state.specs.Views.{state_view}
use Rattle.cc2_state.proofs.write.push_state.Goals as goal

pub returns : goal.returns
returns c =
    let s = state_view c.args.parts.now in
    let s0 = c.args.out.now.items in
    let s1 = c.push_mark.new.out.items in
    let s2 = c.push_mark-2.new.out.items in
    let s3 = c.push_optional.new.out.items in
    let s4 = c.push_optional-2.new.out.items in
    let s5 = c.push_optional-3.new.out.items in
    let s6 = c.push_texts.new.out.items in
    let s7 = c.push_texts-2.new.out.items in
    let s8 = c.push_tables.new.out.items in
    let marks = both mark_front mark_front s.flags_overridden s.doc_flags_overridden s0 s1 s2 c.in_ok-push_mark.ensures c.in_ok-push_mark-2.ensures in
    let wrappers = both optional_front optional_front s.wrapper s.workspace_wrapper s3 s4 s5 c.in_ok-push_optional-2.ensures c.in_ok-push_optional-3.ensures in
    let programs = both optional_front (both_at optional_front optional_front) s.rustc (s.wrapper, s.workspace_wrapper) s2 s3 s5 c.in_ok-push_optional.ensures wrappers in
    let flags = both texts_front texts_front s.rustflags s.rustdocflags s5 s6 s7 c.in_ok-push_texts.ensures c.in_ok-push_texts-2.ensures in
    let all_flags = both_at texts_front texts_front in
    let all_programs = both_at optional_front (both_at optional_front optional_front) in
    on_ok_weaker c.push_tables.result
    (λ tables. made state_of_parts parts_front
    ((s.flags_overridden, s.doc_flags_overridden), ((s.rustc, (s.wrapper, s.workspace_wrapper)), ((s.rustflags, s.rustdocflags), s.tables))) s0 s8
    (both (both_at mark_front mark_front) (both_at all_programs (both_at all_flags (listed_at entry_front))) (s.flags_overridden, s.doc_flags_overridden) _ s0 s2 s8 marks
    (both all_programs (both_at all_flags (listed_at entry_front)) (s.rustc, (s.wrapper, s.workspace_wrapper)) _ s2 s5 s8 programs
    (both all_flags (listed_at entry_front) (s.rustflags, s.rustdocflags) s.tables s5 s7 s8 flags tables)))) c.push_tables.ensures
