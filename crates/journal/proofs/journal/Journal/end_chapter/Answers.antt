use Rattle.journal.proofs.Fronts.{files_then}
use Rattle.journal.proofs.journal.Journal.end_chapter.Goals as goal

pub returns-clause-moments : goal.returns-clause-moments
returns-clause-moments g c =
    files_then _ _ _ c.seal.ensures.moments c.begin_chapter.ensures.moments
