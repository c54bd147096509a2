-- Tests are drawn and nothing else is, and each fuelling has one start.
use Rattle.std.specs.Prelude.{◌≡◌, ℕ, Bool, true, false, List, ◌∷◌, ◌++◌, Some}
use Rattle.std.specs.List.{list_any}
use Rattle.site_base.specs.declared.row.Row.{Row}
use Rattle.site_base.specs.Configured.{Configured}
use Rattle.site_base.specs.Events.{point_named}
use Rattle.transaction_buffer.specs.Sales.{Key}
use Rattle.written_site.specs.DrawLaws.{tells_drawn}
use Rattle.written_site.specs.FuellingWords.{ends_at, starts, HasFuelling}
use Rattle.written_site.specs.Histories.{Moment, moments_of}
use Rattle.written_site.specs.SaleWords.{ToldRelease, release_after, sold_as}
use Rattle.written_site.specs.SiteState.{SiteState}

-- the point's last accepted release, by these rows, is a TestRelease, or it isn't
pub record IsReleasedAs (test : Bool) (p : ℕ) (earlier : List Row) : Type 0 where
  pub release : ToldRelease
  pub last : release_after p earlier ≡ Some release
  pub kind : release.test ≡ test

-- a test of point p that a moment ends after these ones: a fuelling went on, and the point's last
-- accepted release is a TestRelease
pub record IsDrawnAsRead (c : Configured) (p : ℕ) (before : List Moment) (m : Moment) : Type 0 where
  pub nozzle : ℕ
  pub price : ℕ
  pub flowed : ℕ
  pub fuelling : HasFuelling c p before nozzle price flowed
  pub released : IsReleasedAs true p m.earlier

-- A row sells only where the point's last accepted release isn't a TestRelease, and is answered
-- Drawn only where it is, and where a fuelling went on. Between two starts of a point stands an end
-- of it.
pub record AreTestsApart (c : Configured) (rows : List Row) (s : SiteState) : Type 0 where
  pub sold : (k : Key) (before since : List Moment) (m : Moment)
      → moments_of c rows ≡ before ++ m ∷ since → sold_as m ≡ Some k
      → IsReleasedAs false k.point m.earlier
  pub drawn : (p : ℕ) (before since : List Moment) (m : Moment)
      → moments_of c rows ≡ before ++ m ∷ since → point_named m.row.event ≡ Some p
      → tells_drawn m.row.reply ≡ true → IsDrawnAsRead c p before m
  pub started : (p : ℕ) (before between since : List Moment) (first second : Moment)
      → moments_of c rows ≡ before ++ first ∷ between ++ second ∷ since
      → starts p first ≡ true → starts p second ≡ true → list_any (ends_at p) between ≡ true
