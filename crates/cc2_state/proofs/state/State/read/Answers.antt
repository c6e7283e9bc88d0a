use Rattle.std.proofs.Common.{rules, ◌≡◌, [], List, ℕ, Some, sym, ap, refl, ◌∙◌}
use Rattle.std.specs.Prelude.{option_map, option_and_then}
use Rattle.cc2_ask.specs.Fields.{Front}
use Rattle.cc2_ask.specs.Written.{both_at, listed_at}
use Rattle.cc2_state.specs.State.{entry_front, mark_front, optional_front, parts_front, Parts, state_in, state_of_parts, texts_front, where_whole}
use Rattle.cc2_state.proofs.Reading.{both_of}
use Rattle.cc2_state.proofs.state.State.read.Goals as goal

-- what was read is the whole where nothing is left
whole : (bytes rest : List ℕ) (s : Parts) → rest ≡ [] → parts_front bytes ≡ Some (s, rest) → state_in bytes ≡ Some (state_of_parts s)
whole bytes rest s none read =
    ap (λ (front : Front Parts). option_and_then where_whole (option_map (λ f. (state_of_parts f.0, f.1)) front)) read
    ∙ ap (λ left. where_whole (state_of_parts s, left)) none

pub returns : goal.returns
returns c =
    let (entries, listed, of, ordered) = c.in_ok-target.ensures in
    let bytes = c.args.bytes.now in
    let s0 = c.new-reader.result.rest.now in
    let s1 = c.mark.new.reader.rest.now in
    let s2 = c.mark-2.new.reader.rest.now in
    let s3 = c.optional.new.reader.rest.now in
    let s4 = c.optional-2.new.reader.rest.now in
    let s5 = c.optional-3.new.reader.rest.now in
    let s6 = c.texts.new.reader.rest.now in
    let s7 = c.texts-2.new.reader.rest.now in
    let s8 = c.tables.new.reader.rest.now in
    let all_flags = both_at texts_front texts_front in
    let all_programs = both_at optional_front (both_at optional_front optional_front) in
    let marks = both_of mark_front mark_front s0 s1 s2 _ _ c.in_ok-flags_overridden.ensures c.in_ok-doc_flags_overridden.ensures in
    let wrappers = both_of optional_front optional_front s3 s4 s5 _ _ c.in_ok-rustc_wrapper.ensures c.in_ok-rustc_workspace_wrapper.ensures in
    let programs = both_of optional_front (both_at optional_front optional_front) s2 s3 s5 _ _ c.in_ok-rustc.ensures wrappers in
    let flags = both_of texts_front texts_front s5 s6 s7 _ _ c.in_ok-rustflags.ensures c.in_ok-rustdocflags.ensures in
    let read = both_of (both_at mark_front mark_front) (both_at all_programs (both_at all_flags (listed_at entry_front))) s0 s2 s8 _ _ marks
    (both_of all_programs (both_at all_flags (listed_at entry_front)) s2 s5 s8 _ _ programs
    (both_of all_flags (listed_at entry_front) s5 s7 s8 _ entries flags listed)) in (
      state_of_parts _,
      ap state_in (sym c.new-reader.ensures) ∙ whole s0 s8 _ (c.is_at_end.ensures.0 (search rules)) read,
      record {
        flags = refl;
        doc_flags = refl;
        rustc = refl;
        wrapper = refl;
        workspace_wrapper = refl;
        rustflags = refl;
        rustdocflags = refl;
        tables = of;
        ordered = ordered;
      },
    )
