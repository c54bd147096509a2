-- Who is signed on, and which shift is open, as the rows of a history say it.
use Rattle.std.specs.Prelude.{◌≡◌, ℕ, List}
use Rattle.site_base.specs.declared.row.Row.{Row}
use Rattle.site_base.specs.Configured.{Configured}
use Rattle.written_site.specs.SiteState.{SiteState, is_signed_on, open_shift}
use Rattle.written_site.specs.RowWords.{on_after, open_after}

-- just the tills are signed on whose last accepted SignOn or SignOff is a SignOn
pub record AreSignedOnByRows (c : Configured) (rows : List Row) (s : SiteState) : Type 0 where
  pub each : (t : ℕ) → is_signed_on s t ≡ on_after t rows

-- the open shift is one more than the shifts that were closed
pub record IsShiftByRows (c : Configured) (rows : List Row) (s : SiteState) : Type 0 where
  pub shift : open_shift s ≡ open_after rows
