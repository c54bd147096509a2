-- The page's connections.
use Rattle.std.specs.Prelude.{ℕ, List, Option}
use Rattle.http_server.specs.Exchange.{Call}
use Rattle.site_book.specs.Book.{Book}
use Rattle.site_book.specs.Unpaid.{unpaid_sales}
use Rattle.row_tally.specs.Tally.{Tally}
use Rattle.site_json.specs.declared.sessions.PeerSession.{PeerSession}
use Rattle.site_metrics.specs.declared.counts.StationCounts.{StationCounts}
use Rattle.site_page.specs.Connections.{history}
use Rattle.site_page.specs.PageAnswers.{Shown}
use Rattle.page_connections.specs.declared.page_link.PageLink.{PageLink}

-- the requests that were answered so far, with their answers
abbrev pub calls_of : PageLink → List Call
calls_of link = (history link.connection).calls

-- what the page of a book shows: just its unpaid transactions, beside what else it is told
abbrev pub shown_of : Book → StationCounts → List PeerSession → Option (List ℕ) → Option (List ℕ)
    → Option (List ℕ) → Option Tally → Option (List ℕ) → Shown
shown_of b counts sessions at opened seal tally name = record {
  book = b;
  unpaid = unpaid_sales b;
  counts = counts;
  sessions = sessions;
  at = at;
  opened = opened;
  seal = seal;
  tally = tally;
  name = name;
}
