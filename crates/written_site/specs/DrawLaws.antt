-- The draws of tests, as rows tell them.
use Rattle.std.specs.Prelude.{◌≡◌, ℕ, ◌+◌, ◌≤◌, Bool, true, false, ◌&&◌, ◌==◌, if◌then◌else◌, List}
use Rattle.std.specs.Prelude.{[], ◌∷◌, Option, Some, None, unwrap_or, Result, Ok}
use Rattle.site_base.specs.declared.answer.Answer.{Answer}
use Rattle.site_base.specs.declared.answer.Answer.TheVariants.{Drawn}
use Rattle.site_base.specs.declared.limits.TheConstants.{PRODUCTS}
use Rattle.site_base.specs.declared.refusal.Refusal.{Refusal}
use Rattle.site_base.specs.declared.row.Row.{Row}
use Rattle.site_base.specs.Configured.{Configured}
use Rattle.site_base.specs.Events.{point_named}
use Rattle.written_site.specs.FuellingWords.{nozzle_after, product_at, starts, growth_at}
use Rattle.written_site.specs.Histories.{Moment, moments_of}
use Rattle.written_site.specs.RowWords.{open_after, total}
use Rattle.written_site.specs.ShiftFigures.{shift_drawn}
use Rattle.written_site.specs.SiteState.{SiteState}
use Rattle.written_site.specs.Volumes.{adjusted_volume}

-- the reply tells that a test is over
abbrev pub tells_drawn : Result Answer Refusal → Bool
tells_drawn (Ok (Drawn growth)) = true
tells_drawn reply = false

-- the millilitres that these moments tell of point p since it last started a fuelling; where none
-- does, these v with all of theirs
abbrev pub run_of : ℕ → ℕ → List Moment → ℕ
run_of p v [] = v
run_of p v (m ∷ ms) = run_of p (if starts p m then 0 else v + growth_at p m) ms

-- the millilitres of the fuelling of point p up to a moment, its own among them
abbrev pub run_at : Configured → ℕ → Moment → ℕ
run_at c p m = run_of p 0 (moments_of c m.earlier) + growth_at p m

-- the product of the nozzle that is out at the point, by these rows; of none, 0
abbrev pub product_read : Configured → ℕ → List Row → ℕ
product_read c p rows = unwrap_or (product_at c p (unwrap_or (nozzle_after p rows) 0)) 0

-- the millilitres of product q that a moment of this point draws
abbrev pub draws_at : Configured → ℕ → Option ℕ → Moment → ℕ
draws_at c q None m = 0
draws_at c q (Some p) m =
    if tells_drawn m.row.reply && product_read c p m.earlier == q then run_at c p m else 0

-- the millilitres of product q that a moment draws: where it is answered Drawn, those of the test
-- that is over
abbrev pub drawn_for : Configured → ℕ → Moment → ℕ
drawn_for c q m = draws_at c q (point_named m.row.event) m

-- the same while shift h is open
abbrev pub drawn_while : Configured → ℕ → ℕ → Moment → ℕ
drawn_while c h q m = if open_after m.earlier == h then drawn_for c q m else 0

-- For each product number that a product may have: what tests drew of it in a shift is what the
-- Drawn answers tell while the shift is open, and what they drew in all is what all of them tell.
pub record AreDrawsCounted (c : Configured) (rows : List Row) (s : SiteState) : Type 0 where
  pub shifts : (h q : ℕ) → 1 ≤ q → q ≤ PRODUCTS
      → shift_drawn s h q ≡ total (drawn_while c h q) (moments_of c rows)
  pub all : (q : ℕ) → 1 ≤ q → q ≤ PRODUCTS
      → adjusted_volume s q ≡ total (drawn_for c q) (moments_of c rows)
