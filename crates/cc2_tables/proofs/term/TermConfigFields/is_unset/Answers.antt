use Rattle.cc2_tables.proofs.term.TermConfigFields.is_unset.Goals as goal

pub returns-5 : goal.returns-5
returns-5 c = λ t. (c.is_unset-is_unset.ensures search, (c.is_unset-is_unset-2.ensures search, (c.is_unset-is_unset-3.ensures search, (c.is_unset-is_unset-4.ensures search, tt))))
