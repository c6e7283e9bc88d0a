use Rattle.std.proofs.Common.{ℕ, List, Option, Some, Bor, map, String, Global, string_bytes}
use Rattle.cc2_value.specs.Cells.{KeyPath, Cell, word, variable}
use Rattle.cc2_value.specs.Shown.{single_at}
use Rattle.cc2_value.specs.Singles.{text_value}
use Rattle.cc2_value.specs.Values.{setting_of}
use Rattle.cc2_value.specs.declared.value.Value.{Value}
use Rattle.cc2_leaf.specs.TextWays.{any_text_way}
use Rattle.cc2_env.specs.Ranks.{wrapper_text_way, if_filled}
use Rattle.cc2_env.specs.Options.{variables_of}
use Rattle.cc2_env.proofs.Reading.{found_none, found_set, found_exit, wrapper_shown}
use Rattle.cc2_env.proofs.read.read_wrapper.Goals as goal

abbrev text_at : Value (String Global) → KeyPath → Option Cell
text_at text p = single_at (setting_of (λ s. word (string_bytes s))) text p

pub returns-in_err-read_found-clause-refused : goal.returns-in_err-read_found-clause-refused
returns-in_err-read_found-clause-refused c =
    let names : List (List ℕ) = map (λ (name : Bor (List ℕ)). name.now) c.args.names.now in
    found_exit text_at (text_value) (variables_of c.args.context.now) any_text_way wrapper_text_way names
    _ c.args.wrapper.now _ (λ n v r h. h) c.from_residual.ensures.1 c.in_err-read_found.ensures.refused

pub returns-in-None-clause-ok : goal.returns-in-None-clause-ok
returns-in-None-clause-ok c =
    let names : List (List ℕ) = map (λ (name : Bor (List ℕ)). name.now) c.args.names.now in
    found_none text_at (text_value) (variables_of c.args.context.now) any_text_way wrapper_text_way names
    c.args.wrapper.now (rw c.in-None.is at c.in_ok-read_found.ensures.ok)

pub returns-in-Some-clause-ok : goal.returns-in-Some-clause-ok
returns-in-Some-clause-ok c =
    let names : List (List ℕ) = map (λ (name : Bor (List ℕ)). name.now) c.args.names.now in
    rw (c.put_in.ensures, c.filled_text.ensures)
    (found_set text_at (text_value) (variables_of c.args.context.now) any_text_way wrapper_text_way names c.in-Some.text
    c.args.wrapper.now (if_filled (string_bytes c.in-Some.text.val) c.in-Some.text)
    (λ n v free shown. (free, wrapper_shown c.in-Some.text (Some (variable n)) v shown))
    (rw c.in-Some.is at c.in_ok-read_found.ensures.ok))
