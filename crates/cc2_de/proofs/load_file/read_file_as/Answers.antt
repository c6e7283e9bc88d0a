use Rattle.cc2_de.proofs.FileCauses.{not_text_refused, text_refused}
use Rattle.cc2_de.proofs.load_file.read_file_as.Goals as goal

pub returns-in-Err-clause-refused : goal.returns-in-Err-clause-refused
returns-in-Err-clause-refused g c fs told =
    not_text_refused fs c.args.path.now c.in-Ok.bytes.items _ (c.in-Ok.ensures.bytes fs told)
    (rw c.as_slice.ensures.value at c.in-Err.ensures.cases.0) c.unread-in-Err.ensures

pub returns-clause-refused : goal.returns-clause-refused
returns-clause-refused g c fs told =
    text_refused fs c.args.path.now c.in-Ok.bytes.items _ _
    (c.in-Ok.ensures.bytes fs told, rw c.as_slice.ensures.value at c.in-Ok-from_utf8.ensures.cases.1)
    (rw (c.in-Ok-from_utf8.ensures.cases.0, c.as_slice.ensures.value) at c.in-Err-read_text.ensures.refused)
    c.parsing.ensures
