use Rattle.history_folder.specs.Names.{digits_of}
use Rattle.history_folder.proofs.names.chapter_number.Goals as goal

pub returns-in_default-clause-other : goal.returns-in_default-clause-other
returns-in_default-clause-other c n is same = c.in_default.ensures.cases (digits_of 6 n) same
