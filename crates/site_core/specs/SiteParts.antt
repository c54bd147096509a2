-- What the site keeps, as contracts see it.
use Rattle.site_core.specs.declared.site_parts.SiteParts.{SiteParts}
use Rattle.written_site.specs.SiteState.{SiteState}
use Rattle.site_core.specs.Views.{Room}

abbrev pub site_of : SiteParts → SiteState
site_of parts = record {
  points = parts.points;
  nozzles = parts.meters;
  holds = parts.claims;
  sales = parts.accounts.sales;
  prices = parts.prices;
  managers = parts.managers;
  signed_on = parts.signed_on;
  drawn = parts.accounts.drawn;
}

abbrev pub room_of : SiteParts → Room
room_of parts = record { sales = parts.accounts.rooms; closes = parts.accounts.closes }
