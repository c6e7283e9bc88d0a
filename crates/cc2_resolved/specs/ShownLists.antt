-- What a list of texts shows.
use Rattle.std.specs.Prelude.{ℕ, List}
use Rattle.cc2_resolved.specs.Texts.{texts_of}
use Rattle.cc2_resolved.specs.declared.string_list.StringList.{StringList}

abbrev pub list_texts : StringList → List (List ℕ)
list_texts list = texts_of list.list.items
