-- What the programs of a table answer, where their answers depend on variables.
use Rattle.std.specs.Prelude.{ℕ, Bool, ◌&&◌, bytes_eq, List, [], ◌∷◌, Option, Some, None, if◌then◌else◌}
use Rattle.std.specs.Cmp.Lexicographic.{pointwise}
use Rattle.cc2_base.specs.ToldPrograms.{Answers, answers_of}
use Rattle.cc2_cargo_settings.specs.EnvVariables.{EnvVariable, variables_view}
use Rattle.cc2_cargo_target.specs.declared.variable_table.Entry.{Entry}
use Rattle.cc2_cargo_target.specs.declared.variable_table.VariableTable.{VariableTable}

abbrev pub same_variable : EnvVariable → EnvVariable → Bool
same_variable v w = bytes_eq v.0 w.0 && bytes_eq v.1 w.1

-- the same names with the same texts, in the same order
abbrev pub same_variables : List EnvVariable → List EnvVariable → Bool
same_variables = pointwise same_variable

-- the first of two, where there is one
abbrev pub first_of_two : Option Answers → Option Answers → Option Answers
first_of_two (Some answers) others = Some answers
first_of_two None others = others

-- these answers, under these variables alone
abbrev pub answers_for : List EnvVariable → Answers → List EnvVariable → Option Answers
answers_for variables answers vs = if same_variables variables vs then Some answers else None

-- what the first entry for these variables answers
abbrev pub answers_in : List Entry → List EnvVariable → Option Answers
answers_in [] vs = None
answers_in (e ∷ es) vs = first_of_two (answers_for (variables_view e.variables) (answers_of e.programs) vs) (answers_in es vs)

-- what is listed for these variables
abbrev pub listed_answers : VariableTable → List EnvVariable → Option Answers
listed_answers t = answers_in t.entries.items

-- what is answered under variables for which nothing is listed
abbrev pub other_answers : VariableTable → Answers
other_answers t = answers_of t.otherwise

abbrev pub or_others : Answers → Option Answers → Answers
or_others others None = others
or_others others (Some answers) = answers

-- what is answered under these variables
abbrev pub answers_under : VariableTable → List EnvVariable → Answers
answers_under t vs = or_others (other_answers t) (listed_answers t vs)

-- the variables under which programs run now
abbrev pub variables_now : VariableTable → List EnvVariable
variables_now t = variables_view t.variables

abbrev pub answers_now : VariableTable → Answers
answers_now t = answers_under t (variables_now t)

-- how many runs there were
abbrev pub table_runs : VariableTable → ℕ
table_runs t = t.count
