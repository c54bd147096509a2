use Rattle.site_page.specs.Connections.{history}
use Rattle.page_connections.specs.Pieces.{unheard_of}
use Rattle.page_connections.proofs.Reading.{on_read}
use Rattle.page_connections.proofs.page_link.PageLink.read.Goals as goal

pub returns-clause-reads : goal.returns-clause-reads
returns-clause-reads c =
    on_read (history c.args.self.now.connection).received (unheard_of c.args.self.now.piece)
    (unheard_of c.read_from.new.self) c.requires
