-- Commands: a text, split at spaces, or an array of texts, with at least one word.
use Rattle.std.specs.Prelude.{◌≡◌, Bool, List, [], ◌∷◌, Option, Ok, Err, string_bytes}
use Rattle.cc2_value.specs.Cells.{KeyPath, Cell, Setting, Word, Origin, word, command}
use Rattle.cc2_value.specs.Copies.{word_set, words_set}
use Rattle.cc2_value.specs.Shown.{single_at, option_at}
use Rattle.cc2_value.specs.Values.{word_of, words_of, setting_of}
use Rattle.cc2_value.specs.Ways.{Way, no_word}
use Rattle.cc2_leaf.specs.Lists.{is_array}
use Rattle.cc2_leaf.specs.Made.{Making, made_way}
use Rattle.cc2_leaf.specs.declared.config_relative_path.ConfigRelativePath.{ConfigRelativePath}
use Rattle.cc2_leaf.specs.declared.path_and_args.PathAndArgs.{PathAndArgs}

-- a program with its arguments, which was set where the program was
abbrev pub command_setting : Bool → Word → List Word → Setting
command_setting array path args = record { payload = command array path args; origin = path.origin }

-- the first word is the program, the others are its arguments
abbrev pub command_made : Making
command_made array [] = Err no_word
command_made array (path ∷ args) = Ok (command_setting array path args)

abbrev pub command_way : Way
command_way = made_way command_made

abbrev pub setting_of_command : PathAndArgs → Setting
setting_of_command c = command_setting (is_array c.repr) (word_of c.path.value) (words_of c.args.items)

abbrev pub command_at : PathAndArgs → KeyPath → Option Cell
command_at c p = single_at setting_of_command c p

-- the cells of a table's field
abbrev pub command_value : Option PathAndArgs → KeyPath → Option Cell
command_value c p = option_at command_at c p

-- the second is the first, its words with this origin where one is given
abbrev pub AreWordsCopied : Option Origin → PathAndArgs → PathAndArgs → Type 0
AreWordsCopied origin c d =
    (word_of d.path.value ≡ word_set origin (word_of c.path.value)) × (words_of d.args.items ≡ words_set origin (words_of c.args.items)) × (d.repr ≡ c.repr)

-- a path by itself shows its text
abbrev pub path_at : ConfigRelativePath → KeyPath → Option Cell
path_at c p = single_at (setting_of (λ s. word (string_bytes s))) c.value p
