-- Rows and events: a legal history is what its events make, so that what holds of every list of
-- events holds of the rows of every book.
use Rattle.std.specs.Prelude.{◌≡◌, List}
use Rattle.site_base.specs.declared.actor.Actor.{Actor}
use Rattle.site_base.specs.declared.event.Event.{Event}
use Rattle.site_base.specs.declared.row.Row.{Row}
use Rattle.written_site.specs.SiteState.{SiteState}
use Rattle.written_site.specs.SiteRun.{replies_to, site_at_end, rows_of, site_of_rows, IsLegal}
use Rattle.written_site.specs.SiteRun.{events_of, replies_of}

-- these rows are what their events make from this site on: the rows, the replies, and the site
-- reached
pub record IsRunOf (s : SiteState) (history : List Row) : Type 0 where
  pub rows : history ≡ rows_of s (events_of history)
  pub replies : replies_of history ≡ replies_to s (events_of history)
  pub leads : site_of_rows s history ≡ site_at_end s (events_of history)

-- what a list of events makes is a legal history, of just these events
pub record IsLegalRun (s : SiteState) (events : List (Actor × Event)) : Type 0 where
  pub legal : IsLegal s (rows_of s events)
  pub same : events_of (rows_of s events) ≡ events

-- legal histories are the runs, and no other lists of rows
pub record AreLegalHistoriesRuns : Type 0 where
  pub run : (s : SiteState) (history : List Row) → IsLegal s history → IsRunOf s history
  pub legal : (s : SiteState) (events : List (Actor × Event)) → IsLegalRun s events
