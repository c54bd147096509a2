-- What was cleared of each product in a shift, as rows tell it.
use Rattle.std.specs.Prelude.{◌≡◌, ℕ, ◌&&◌, ◌==◌, if◌then◌else◌, List, Option, Some, None, is_ok}
use Rattle.site_base.specs.declared.event.Event.{Event}
use Rattle.site_base.specs.declared.event.Event.TheVariants.{Clear}
use Rattle.site_base.specs.declared.row.Row.{Row}
use Rattle.site_base.specs.declared.state.Status.TheVariants.{Cleared}
use Rattle.site_base.specs.Configured.{Configured}
use Rattle.transaction_buffer.specs.Sales.{Key, same_key}
use Rattle.transaction_buffer.specs.Sums.{volume_by}
use Rattle.written_site.specs.DrawLaws.{run_at, product_read}
use Rattle.written_site.specs.Histories.{Moment, moments_of}
use Rattle.written_site.specs.RowWords.{open_after, total}
use Rattle.written_site.specs.SaleWords.{key_after, sold_as}
use Rattle.written_site.specs.ShiftFigures.{cleared_in}
use Rattle.written_site.specs.SiteState.{SiteState}

-- the millilitres of product q of transaction k, where it is the sale of this name that a moment
-- tells
abbrev pub sold_as_told : Configured → ℕ → Key → Option Key → Moment → ℕ
sold_as_told c q k None m = 0
sold_as_told c q k (Some j) m =
    if same_key k j && product_read c j.point m.earlier == q then run_at c j.point m else 0

abbrev pub sold_for : Configured → ℕ → Key → Moment → ℕ
sold_for c q k m = sold_as_told c q k (sold_as m) m

-- the millilitres of product q in transaction k, as these moments told its sale
abbrev pub volume_told : Configured → ℕ → Key → List Moment → ℕ
volume_told c q k moments = total (sold_for c q k) moments

-- the millilitres of product q that such an event, once accepted, clears after these rows: those of
-- the transaction that a Clear names
abbrev pub clear_volume : Configured → ℕ → List Row → Event → ℕ
clear_volume c q earlier (Clear p id) =
    volume_told c q (key_after earlier p id) (moments_of c earlier)
clear_volume c q earlier event = 0

-- the same of a moment
abbrev pub cleared_for : Configured → ℕ → Moment → ℕ
cleared_for c q m = if is_ok m.row.reply then clear_volume c q m.earlier m.row.event else 0

-- the same while shift h is open
abbrev pub cleared_while : Configured → ℕ → ℕ → Moment → ℕ
cleared_while c h q m = if open_after m.earlier == h then cleared_for c q m else 0

-- what was cleared of a product in a shift is what flowed into the transactions that the accepted
-- Clears name while the shift is open; over all shifts, into those that all of them name
pub record AreVolumesCleared (c : Configured) (rows : List Row) (s : SiteState) : Type 0 where
  pub cleared : (h q : ℕ) → cleared_in h q s.sales ≡ total (cleared_while c h q) (moments_of c rows)
  pub all : (q : ℕ) → volume_by q Cleared s.sales ≡ total (cleared_for c q) (moments_of c rows)
