-- What the site's lock keeps, and what that says of every history that it ever keeps.
use Rattle.std.specs.Prelude.{◌≡◌, ℕ, true, List, length}
use Rattle.site_base.specs.declared.row.Row.{Row}
use Rattle.site_base.specs.declared.view.PointView.{PointView}
use Rattle.site_base.specs.declared.totals.Totals.{Totals}
use Rattle.std.specs.Prelude.{Option}
use Rattle.site_base.specs.Configured.{Configured}
use Rattle.written_site.specs.Bridge.{IsRunOf}
use Rattle.written_site.specs.ClearedLaws.{AreVolumesCleared}
use Rattle.written_site.specs.DrawLaws.{AreDrawsCounted}
use Rattle.written_site.specs.Holders.{IsBookHeldByOne}
use Rattle.written_site.specs.LockLaws.{AreClearedOnce, AreLockedByOne}
use Rattle.written_site.specs.ShiftLaws.{AreClearsCounted}
use Rattle.written_site.specs.SiteRun.{IsLegal}
use Rattle.written_site.specs.SiteState.{opening, view_point}
use Rattle.written_site.specs.VolumeLaws.{AreVolumesConserved}
use Rattle.site_book.specs.Book.{Book, is_full, site_at, whole_book}
use Rattle.site_book.specs.Figures.{AreFiguresOf}

-- Whenever the lock is free: the book is of the desk's configuration and has forgotten no row, its
-- rows are a legal history, and the ledger of calls stands at as many as there are rows. That the
-- site is the one that the rows lead to is the book's own.
pub record IsKept (config : Configured) (book : Book) (calls : ℕ) : Type 0 where
  pub of : book.config ≡ config
  pub whole : book.forgotten ≡ 0
  pub legal : IsLegal (opening config) book.rows
  pub counted : calls ≡ length book.rows

-- What is true of a legal history: it is a run of the written one-thread site with just these
-- replies. No fuelling point has two tills at once, no transaction two lockers at once or two
-- clears. What tills cleared, the volumes cleared in each shift and those that tests drew are what
-- the rows tell. And each product's metered volume is its running, payable, locked, cleared and
-- adjusted volume.
pub record IsSoundHistory (config : Configured) (rows : List Row) : Type 0 where
  pub run : IsRunOf (opening config) rows
  pub held : IsBookHeldByOne config rows
  pub locked : AreLockedByOne config rows (site_at config rows)
  pub cleared : AreClearedOnce config rows (site_at config rows)
  pub counted : AreClearsCounted config rows (site_at config rows)
  pub volumes : AreVolumesCleared config rows (site_at config rows)
  pub drawn : AreDrawsCounted config rows (site_at config rows)
  pub conserved : AreVolumesConserved config rows (site_at config rows)

-- so it is of all that the lock keeps
abbrev pub IsKeptSound : Type 0
IsKeptSound = (config : Configured) (book : Book) (calls : ℕ) → IsKept config book calls
    → IsSoundHistory config book.rows

-- the figures of some legal history of this configuration
abbrev pub AreFiguresInLegal : Configured → Totals → Type 0
AreFiguresInLegal config totals =
    (rows : List Row) × IsLegal (opening config) rows
    × AreFiguresOf (whole_book config rows) totals

-- some legal history of this configuration has as many rows as it allows
abbrev pub IsFullInLegal : Configured → Type 0
IsFullInLegal config =
    (rows : List Row) × IsLegal (opening config) rows × (is_full (whole_book config rows) ≡ true)

-- the point as some legal history of this configuration shows it
abbrev pub IsShownInLegal : Configured → ℕ → Option PointView → Type 0
IsShownInLegal config p view =
    (rows : List Row) × IsLegal (opening config) rows × (view ≡ view_point (site_at config rows) p)
