use Rattle.std.proofs.Common.{ℕ, List, Some, Bor, map}
use Rattle.cc2_value.specs.Shown.{option_at}
use Rattle.cc2_env.specs.Options.{variables_of}
use Rattle.cc2_env.proofs.Reading.{found_none, found_set, found_exit}
use Rattle.cc2_env.proofs.read.read_first.Goals as goal

pub returns-in_err-read_found-clause-refused : goal.returns-in_err-read_found-clause-refused
returns-in_err-read_found-clause-refused g c =
    let names : List (List ℕ) = map (λ (name : Bor (List ℕ)). name.now) c.args.names.now in
    found_exit (g.T.MergeFrom.cell_at) (option_at g.T.MergeFrom.cell_at) (variables_of c.args.context.now) g.T.ReadEnv.text_way
    g.T.ReadEnv.text_way names _ c.args.setting.now _ (λ n v r h. h) c.from_residual.ensures.1
    c.in_err-read_found.ensures.refused

pub returns-in-None-clause-ok : goal.returns-in-None-clause-ok
returns-in-None-clause-ok g c =
    let names : List (List ℕ) = map (λ (name : Bor (List ℕ)). name.now) c.args.names.now in
    found_none (g.T.MergeFrom.cell_at) (option_at g.T.MergeFrom.cell_at) (variables_of c.args.context.now) g.T.ReadEnv.text_way
    g.T.ReadEnv.text_way names c.args.setting.now (rw c.in-None.is at c.in_ok-read_found.ensures.ok)

pub returns-in-Some-clause-ok : goal.returns-in-Some-clause-ok
returns-in-Some-clause-ok g c =
    let names : List (List ℕ) = map (λ (name : Bor (List ℕ)). name.now) c.args.names.now in
    rw c.put_in.ensures
    (found_set (g.T.MergeFrom.cell_at) (option_at g.T.MergeFrom.cell_at) (variables_of c.args.context.now) g.T.ReadEnv.text_way
    g.T.ReadEnv.text_way names c.in-Some.read c.args.setting.now (Some c.in-Some.read)
    (λ n v free shown. (free, shown)) (rw c.in-Some.is at c.in_ok-read_found.ensures.ok))
