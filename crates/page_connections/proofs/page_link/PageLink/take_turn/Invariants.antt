use Rattle.site_page.specs.Connections.{AreAnswered}
use Rattle.page_connections.specs.Pages.{calls_of}
use Rattle.page_connections.specs.Pieces.{ReadsOn}
use Rattle.page_connections.proofs.page_link.PageLink.take_turn.Given as goal

abbrev pub invariant-loop : goal.invariant-loop
invariant-loop l = record {
  answers : AreAnswered l.fn.page (calls_of l.fn.self) (calls_of l.self);
  reads : ReadsOn l.fn.self l.self;
}
