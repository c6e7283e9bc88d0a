-- Members put one after another, in the order of their keys.
use Rattle.std.proofs.Common.{◌≡◌, ◌∙◌, ap, codes}
use Rattle.serde_json.specs.Data.{Data, Members, no_members, object, put, string}
use Rattle.serde_json.proofs.OnLiterals.{serde_json_on_literals}
use Rattle.cc2_reports.specs.Json.{problem_with}
use Rattle.cc2_reports.specs.Levels.{level_name}
use Rattle.cc2_reports.specs.Lints.{level_of, name_of}
use Rattle.cc2_reports.specs.Problems.{Problem}
use Rattle.cc2_reports.specs.Sarif.{run_data, tool_data}

pub run_put : {m0 m1 m2 m3 : Members} {results rules tool : Data} → m0 ≡ no_members
    → m1 ≡ put (codes "columnKind") (string (codes "unicodeCodePoints")) m0
    → m2 ≡ put (codes "results") results m1
    → tool ≡ tool_data rules → m3 ≡ put (codes "tool") tool m2
    → object m3 ≡ run_data results rules
unfolding serde_json_on_literals
run_put {m2 = m2} {results = results} {rules = rules} none e1 e2 is e3 =
    ap object (e3 ∙ (ap (λ tool. put (codes "tool") tool m2) is
    ∙ ap (put (codes "tool") (tool_data rules)) (e2 ∙ ap (put (codes "results") results)
    (e1 ∙ ap (put (codes "columnKind") (string (codes "unicodeCodePoints"))) none))))

pub problem_put : (p : Problem) (line column end_line end_column path help : Data)
    {m0 m1 m2 m3 m4 m5 m6 m7 m8 m9 m10 : Members} → m0 ≡ no_members
    → m1 ≡ put (codes "column") column m0
    → m2 ≡ put (codes "endColumn") end_column m1
    → m3 ≡ put (codes "endLine") end_line m2
    → m4 ≡ put (codes "file") (string p.file) m3
    → m5 ≡ put (codes "help") help m4
    → m6 ≡ put (codes "kind") (string (name_of p.lint)) m5
    → m7 ≡ put (codes "level") (string (level_name (level_of p.lint))) m6
    → m8 ≡ put (codes "line") line m7
    → m9 ≡ put (codes "message") (string p.message) m8
    → m10 ≡ put (codes "path") path m9
    → object m10 ≡ problem_with p line column end_line end_column path help
unfolding serde_json_on_literals
problem_put p line column end_line end_column path help none e1 e2 e3 e4 e5 e6 e7 e8 e9 e10 =
    ap object (e10 ∙ ap (put (codes "path") path)
    (e9 ∙ ap (put (codes "message") (string p.message))
    (e8 ∙ ap (put (codes "line") line)
    (e7 ∙ ap (put (codes "level") (string (level_name (level_of p.lint))))
    (e6 ∙ ap (put (codes "kind") (string (name_of p.lint)))
    (e5 ∙ ap (put (codes "help") help)
    (e4 ∙ ap (put (codes "file") (string p.file))
    (e3 ∙ ap (put (codes "endLine") end_line)
    (e2 ∙ ap (put (codes "endColumn") end_column)
    (e1 ∙ ap (put (codes "column") column) none))))))))))
