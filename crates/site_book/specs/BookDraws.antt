-- The draws of tests in a book, in the order in which they were drawn.
use Rattle.std.specs.Prelude.{◌≡◌, ℕ, ◌≤◌, if◌then◌else◌, List, length, take, drop, filter_map}
use Rattle.std.specs.Prelude.{Option, Some, None}
use Rattle.site_base.specs.Configured.{Configured}
use Rattle.site_base.specs.Events.{point_named}
use Rattle.written_site.specs.DrawLaws.{product_read, run_at, tells_drawn}
use Rattle.written_site.specs.Histories.{Moment, moments_of}
use Rattle.written_site.specs.RowWords.{open_after}
use Rattle.written_site.specs.SiteRun.{site_of_rows}
use Rattle.written_site.specs.SiteState.{SiteState, opening}
use Rattle.site_book.specs.declared.draw.Draw.{Draw}
use Rattle.site_book.specs.Book.{Book}

-- the test of point p that is over with a moment: of the shift that is open, of the product of the
-- nozzle that is out, and of the millilitres since the fuelling started, the moment's own among
-- them
abbrev pub draw_at : Configured → ℕ → Moment → Draw
draw_at c p m = record {
  shift = open_after m.earlier;
  point = p;
  product = product_read c p m.earlier;
  volume = run_at c p m;
}

-- what a moment of this point draws: where it is answered Drawn, the test that is over
abbrev pub draw_of : Configured → Option ℕ → Moment → Option Draw
draw_of c None m = None
draw_of c (Some p) m = if tells_drawn m.row.reply then Some (draw_at c p m) else None

-- what a moment draws
abbrev pub draw_made : Configured → Moment → Option Draw
draw_made c m = draw_of c (point_named m.row.event) m

-- the draws that the rows from this place on tell
abbrev pub draws_from : ℕ → Book → List Draw
draws_from place b = filter_map (draw_made b.config) (drop place (moments_of b.config b.rows))

-- the draws of a book, in the order in which they were drawn
abbrev pub book_draws : Book → List Draw
book_draws b = filter_map (draw_made b.config) (moments_of b.config b.rows)

-- of a book that has forgotten no row, the rows before this place are replayed, and have led to
-- this site
pub record IsReplayedTo (place : ℕ) (s : SiteState) (b : Book) : Type 0 where
  pub whole : b.forgotten ≡ 0
  pub within : place ≤ length b.rows
  pub leads : s ≡ site_of_rows (opening b.config) (take place b.rows)
