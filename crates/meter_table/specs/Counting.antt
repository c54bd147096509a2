-- How a row is counted: what a nozzle's figures are then, and what they always are.
use Rattle.std.specs.Prelude.{◌≡◌, ◌+◌, ◌-◌, ◌*◌, ◌^◌, ◌≤◌, ℕ, Bool, true, false, List, [], length}
use Rattle.std.specs.Prelude.{min, ◌<◌, ◌&&◌, ◌==◌, Option, Some, None, is_ok, if◌then◌else◌}
use Rattle.std.specs.List.{AllByRecursion, cons_option}
use Rattle.site_base.specs.declared.amounts.TheConstants.{GREATEST_READING}
use Rattle.site_base.specs.declared.row.Row.{Row}
use Rattle.meters.specs.declared.meter.TheConstants.{REPLACEMENT_LIMIT}
use Rattle.meters.specs.Nozzles.{Nozzle, has_nozzle, reading_of, times_replaced}
use Rattle.written_site.specs.MeterLaws.{replace_said}
use Rattle.written_site.specs.SiteState.{SiteState, facts_of}
use Rattle.written_site.specs.SiteStep.{site_after}
use Rattle.nozzle_figures.specs.NozzleMoves.{drawing, falling, flowing, of_accepted, rising}
use Rattle.nozzle_figures.specs.NozzleMoves.{running_by_nozzle, selling}
use Rattle.meter_table.specs.declared.figures.NozzleFigures.{NozzleFigures}
use Rattle.meter_table.specs.Figures.{greatest, refused_in, refused_reading, replacing}

-- ---- one row more

-- the figures with one row more, at the site before it
abbrev pub with_row : SiteState → Row → NozzleFigures → NozzleFigures
with_row s r x = record x {
  closing = reading_of x.point x.nozzle (site_after s r.actor r.event).nozzles;
  metered = x.metered + of_accepted (flowing x.point x.nozzle) s r;
  sold = x.sold + of_accepted (selling x.point x.nozzle) s r;
  drawn = x.drawn + of_accepted (drawing x.point x.nozzle) s r;
  running = running_by_nozzle x.point x.nozzle (site_after s r.actor r.event);
  replaced = x.replaced + of_accepted (replacing x.point x.nozzle) s r;
  raised = x.raised + of_accepted (rising x.point x.nozzle) s r;
  lowered = x.lowered + of_accepted (falling x.point x.nozzle) s r;
  refused = min
      (x.refused + length (cons_option (refused_reading x.point x.nozzle s r) []))
      (2 ^ 64 - 1);
  highest = greatest x.highest (cons_option (refused_reading x.point x.nozzle s r) []);
}

-- the point is released for a test
abbrev pub is_test_at : SiteState → Option ℕ → Bool
is_test_at s None = false
is_test_at s (Some p) = (facts_of s p).test

-- the figures without the rows that they have: they begin where those ended
abbrev pub begun : NozzleFigures → NozzleFigures
begun x = record x {
  opening = x.closing;
  metered = 0;
  sold = 0;
  drawn = 0;
  replaced = 0;
  raised = 0;
  lowered = 0;
  refused = 0;
  highest = None;
}

-- what flowed by a meter that now reads this; by one that was just replaced, nothing
abbrev pub flowed : Bool → ℕ → NozzleFigures → ℕ
flowed replaced reading x = if replaced then 0 else reading - x.closing

-- what is gone from the fuelling under way, of which this is left
abbrev pub gone : ℕ → ℕ → NozzleFigures → ℕ
gone flow left x = x.running + flow - left

-- The figures once the meter was replaced or not, reads this, and this is left in the fuelling
-- under way. What is gone from it was drawn by a test, or else sold.
abbrev pub moved : Bool → Bool → ℕ → ℕ → NozzleFigures → NozzleFigures
moved replaced test reading left x = record x {
  closing = reading;
  metered = x.metered + flowed replaced reading x;
  sold = x.sold + (if test then 0 else gone (flowed replaced reading x) left x);
  drawn = x.drawn + (if test then gone (flowed replaced reading x) left x else 0);
  running = left;
  replaced = x.replaced + (if replaced then 1 else 0);
  raised = x.raised + (if replaced then reading - x.closing else 0);
  lowered = x.lowered + (if replaced then x.closing - reading else 0);
}

-- the figures with one more refused reading, if there is one
abbrev pub refused_once : Option ℕ → NozzleFigures → NozzleFigures
refused_once reading x = record x {
  refused = min (x.refused + length (cons_option reading [])) (2 ^ 64 - 1);
  highest = greatest x.highest (cons_option reading []);
}

-- the row replaced the meter of nozzle n of point p
abbrev pub is_replaced_in : ℕ → ℕ → Row → Bool
is_replaced_in p n r = is_ok r.reply && replace_said p n r.event

-- the figures with a row, after which the site is this one
abbrev pub counted : SiteState → Row → Bool → NozzleFigures → NozzleFigures
counted later r test x =
    refused_once (refused_in x.point x.nozzle r)
    (moved (is_replaced_in x.point x.nozzle r) test (reading_of x.point x.nozzle later.nozzles)
    (running_by_nozzle x.point x.nozzle later) x)

-- ---- what figures always are

-- no figure is greater than this, by far: what a nozzle can meter, and one fuelling more
abbrev pub most_counted : ℕ
most_counted = (REPLACEMENT_LIMIT + 3) * GREATEST_READING

-- figures that have room for one row more
pub record HaveRoom (x : NozzleFigures) : Type 0 where
  pub metered : x.metered ≤ most_counted
  pub sold : x.sold ≤ most_counted
  pub drawn : x.drawn ≤ most_counted
  pub running : x.running ≤ most_counted
  pub replaced : x.replaced ≤ REPLACEMENT_LIMIT
  pub raised : x.raised ≤ most_counted
  pub lowered : x.lowered ≤ most_counted
  pub refused : x.refused < 2 ^ 64

-- a row can be counted, after which the site is this one: the nozzle is there, its meter goes on or
-- was replaced, and no more is left in the fuelling under way than was in it and flowed
pub record IsCountable (later : SiteState) (r : Row) (x : NozzleFigures) : Type 0 where
  pub room : HaveRoom x
  pub there : has_nozzle x.point x.nozzle later.nozzles ≡ true
  pub above : is_replaced_in x.point x.nozzle r ≡ false
      → x.closing ≤ reading_of x.point x.nozzle later.nozzles
  pub left : running_by_nozzle x.point x.nozzle later
      ≤ x.running + flowed (is_replaced_in x.point x.nozzle r)
      (reading_of x.point x.nozzle later.nozzles) x

-- a nozzle's point is the one that a row names
abbrev pub is_of_point : Option ℕ → ℕ → Bool
is_of_point None p = false
is_of_point (Some named) p = p == named

-- the row can be counted at each nozzle of the point that it names
abbrev pub AreCountable : Option ℕ → SiteState → Row → List NozzleFigures → Type 0
AreCountable named later r xs =
    AllByRecursion (λ x. is_of_point named x.point ≡ true → IsCountable later r x) xs

-- the figures with a row, if they are those of a nozzle of the point that it names
abbrev pub counted_at : Option ℕ → SiteState → Row → Bool → NozzleFigures → NozzleFigures
counted_at named later r test x =
    if is_of_point named x.point then counted later r test x else x

-- What a nozzle's figures always are at their site. The nozzle is there, and the figures end with
-- its reading and its fuelling under way. They add up, and none outgrows what its meters can count.
pub record IsWithin (s : SiteState) (x : NozzleFigures) : Type 0 where
  pub there : has_nozzle x.point x.nozzle s.nozzles ≡ true
  pub closing : x.closing ≡ reading_of x.point x.nozzle s.nozzles
  pub running : x.running ≡ running_by_nozzle x.point x.nozzle s
  pub begun : x.opening ≤ GREATEST_READING
  pub counter : x.closing + x.lowered ≡ x.opening + x.metered + x.raised
  pub volumes : x.sold + x.drawn + x.running ≤ x.metered + GREATEST_READING
  pub few : x.replaced ≤ times_replaced x.point x.nozzle s.nozzles
  pub raised : x.raised ≤ x.replaced * GREATEST_READING
  pub lowered : x.lowered ≤ x.replaced * GREATEST_READING
  pub refused : x.refused < 2 ^ 64

-- each of these figures
abbrev pub AreWithin : SiteState → List NozzleFigures → Type 0
AreWithin s xs = AllByRecursion (IsWithin s) xs

-- each of these nozzles is among those
abbrev pub AreThere : List Nozzle → List Nozzle → Type 0
AreThere nozzles xs = AllByRecursion (λ x. has_nozzle x.point x.number nozzles ≡ true) xs
