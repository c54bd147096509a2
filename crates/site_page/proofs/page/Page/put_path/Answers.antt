use Rattle.site_page.proofs.Answering.{path_site}
use Rattle.site_page.proofs.page.Page.put_path.Goals as goal

pub returns-in-text-2 : goal.returns-in-text-2
returns-in-text-2 c = path_site _ _ _ _ _ c.in-text-2.is c.put_site.ensures
