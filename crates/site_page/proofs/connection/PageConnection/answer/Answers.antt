use Rattle.site_page.proofs.Calls.{answered_by}
use Rattle.site_page.proofs.connection.PageConnection.answer.Goals as goal

pub returns-clause-answers : goal.returns-clause-answers
returns-clause-answers c =
    answered_by _ _ _ _ _ c.share-shared.ensures c.advance.ensures.calls
