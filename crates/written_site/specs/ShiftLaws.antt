-- The figures of shifts and tills, as rows tell them.
use Rattle.std.specs.Prelude.{◌≡◌, ℕ, Bool, ◌&&◌, ◌==◌, if◌then◌else◌, List, Option, Some, None}
use Rattle.std.specs.Prelude.{is_some, unwrap_or, Result, Ok}
use Rattle.site_base.specs.declared.actor.Actor.{Actor}
use Rattle.site_base.specs.declared.actor.Actor.TheVariants.{Till}
use Rattle.site_base.specs.declared.answer.Answer.{Answer}
use Rattle.site_base.specs.declared.answer.Answer.TheVariants.{Cleared}
use Rattle.site_base.specs.declared.refusal.Refusal.{Refusal}
use Rattle.site_base.specs.declared.row.Row.{Row}
use Rattle.site_base.specs.Configured.{Configured}
use Rattle.written_site.specs.Histories.{Moment, moments_of}
use Rattle.written_site.specs.RowWords.{open_after, total, count}
use Rattle.written_site.specs.ShiftFigures.{clears_in, cents_in, clears_by, cents_by}
use Rattle.written_site.specs.SiteState.{SiteState}

-- the cents that such a reply to till t clears
abbrev pub cents_cleared : ℕ → Actor → Result Answer Refusal → Option ℕ
cents_cleared t (Till u) (Ok (Cleared cents)) = if u == t then Some cents else None
cents_cleared t actor reply = None

-- the cents of the Cleared answer of till t, if the moment is one
abbrev pub cleared_cents : ℕ → Moment → Option ℕ
cleared_cents t m = cents_cleared t m.row.actor m.row.reply

-- a Cleared answer of till t
abbrev pub clears_for : ℕ → Moment → Bool
clears_for t m = is_some (cleared_cents t m)

-- its cents; 0 of any other moment
abbrev pub cents_for : ℕ → Moment → ℕ
cents_for t m = unwrap_or (cleared_cents t m) 0

-- a Cleared answer of till t while shift h is open
abbrev pub clears_while : ℕ → ℕ → Moment → Bool
clears_while h t m = open_after m.earlier == h && clears_for t m

abbrev pub cents_while : ℕ → ℕ → Moment → ℕ
cents_while h t m = if open_after m.earlier == h then cents_for t m else 0

-- For each till and shift: how many sales it cleared and their cents are those of its Cleared
-- answers between the accepted CloseShifts that open and close the shift; over all shifts, those of
-- all its Cleared answers.
pub record AreClearsCounted (c : Configured) (rows : List Row) (s : SiteState) : Type 0 where
  pub clears : (h t : ℕ) → clears_in h t s.sales ≡ count (clears_while h t) (moments_of c rows)
  pub cents : (h t : ℕ) → cents_in h t s.sales ≡ total (cents_while h t) (moments_of c rows)
  pub all_clears : (t : ℕ) → clears_by t s.sales ≡ count (clears_for t) (moments_of c rows)
  pub all_cents : (t : ℕ) → cents_by t s.sales ≡ total (cents_for t) (moments_of c rows)
