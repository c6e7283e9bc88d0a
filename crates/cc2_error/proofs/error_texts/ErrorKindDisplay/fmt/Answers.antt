use Rattle.cc2_error.proofs.error_texts.ErrorKindDisplay.fmt.Goals as goal

pub returns-in-EnvParse-clause-writes : goal.returns-in-EnvParse-clause-writes
returns-in-EnvParse-clause-writes g c = rw c.in-EnvParse.is c.write-in-EnvParse.ensures.writes

pub returns-in-NotTriple-clause-writes : goal.returns-in-NotTriple-clause-writes
returns-in-NotTriple-clause-writes g c = rw c.in-NotTriple.is c.write-in-NotTriple.ensures.writes
