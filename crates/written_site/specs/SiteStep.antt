-- The written step: what the one-thread site answers to an event, and the site that it leads to.
use Rattle.std.specs.Prelude.{◌≡◌, ℕ, ◌+◌, Bool, true, false, not, ◌&&◌, List, [], ◌∷◌, ◌++◌}
use Rattle.std.specs.Prelude.{Option, Some, None, Result, unwrap_or, if◌then◌else◌}
use Rattle.std.specs.Ordering.{nat_cmp}
use Rattle.std.specs.FinMap as finite
use Rattle.std.specs.FinSet as set
use Rattle.site_base.specs.declared.actor.Actor.{Actor}
use Rattle.site_base.specs.declared.actor.Actor.TheVariants.{Till}
use Rattle.site_base.specs.declared.answer.Answer.{Answer}
use Rattle.site_base.specs.declared.answer.Answer.TheVariants as answers
use Rattle.site_base.specs.declared.event.Event.{Event}
use Rattle.site_base.specs.declared.event.Event.TheVariants.{SignOn, SignOff, Open, Close, Assign}
use Rattle.site_base.specs.declared.event.Event.TheVariants.{Unassign, Release, Prepay, TestRelease}
use Rattle.site_base.specs.declared.event.Event.TheVariants.{Suspend, Resume, Terminate}
use Rattle.site_base.specs.declared.event.Event.TheVariants.{ReplaceMeter, ReadPoint, Lock, Unlock}
use Rattle.site_base.specs.declared.event.Event.TheVariants.{Clear, ReadTransaction, SetPrice}
use Rattle.site_base.specs.declared.event.Event.TheVariants.{ReadProduct, CloseShift, ReadSite}
use Rattle.site_base.specs.declared.event.Event.TheVariants.{Online, Offline, Lift, Flow, HangUp}
use Rattle.site_base.specs.declared.refusal.Refusal.{Refusal}
use Rattle.site_base.specs.declared.view.TransactionView.{TransactionView}
use Rattle.site_base.specs.Checks.{reply_or, value_or}
use Rattle.site_base.specs.Amounts.{amount}
use Rattle.site_base.specs.Members.{member, with_numbered}
use Rattle.site_base.specs.Table.{row_of, with_row}
use Rattle.fuelling_point.specs.declared.event.PointEvent.{PointEvent}
use Rattle.fuelling_point.specs.declared.step.PointStep.{PointStep}
use Rattle.fuelling_point.specs.declared.step.PointStep.TheVariants.{Moved, Calling, Start, Flowed}
use Rattle.fuelling_point.specs.declared.step.PointStep.TheVariants.{HungUp, NoSale, Sold, Drawn}
use Rattle.fuelling_point.specs.declared.step.PointStep.TheVariants.{Stopped, Ending}
use Rattle.fuelling_point.specs.KeptPoints.{Facts, growth_of, point_view}
use Rattle.fuelling_point.specs.Step as machine
use Rattle.meters.specs.Nozzles.{Nozzle, with_last, with_meter}
use Rattle.fuelling_point.specs.Holds.{is_held_by}
use Rattle.transaction_buffer.specs.declared.request.Request.TheVariants as requests
use Rattle.transaction_buffer.specs.Sales.{Sale, Sales, sale_of, made_at, new_standing, with_new}
use Rattle.transaction_buffer.specs.TransactionTable.{after_request, after_sign_off}
use Rattle.written_site.specs.SiteState.{SiteState, facts_in, facts_of, holder_of, is_signed_on}
use Rattle.written_site.specs.SiteState.{key_named, nothing_drawn, open_shift, rests, view_sale}
use Rattle.written_site.specs.Volumes.{product_out, running_at, product_view}
use Rattle.written_site.specs.ShiftFigures.{site_view}
use Rattle.written_site.specs.SiteChecks.{own_event, first_refusal}

-- what the point does of what the event is to it; of an event that is nothing to a point, nothing
abbrev pub step_by : SiteState → Option (ℕ × PointEvent) → PointStep
step_by s None = Moved
step_by s (Some e) = machine.step_of e.1 (facts_of s e.0)

-- what the event's point does of it
abbrev pub step_at : SiteState → Event → PointStep
step_at s event = step_by s (own_event s event)

-- how this step of point p is told, which took this growth; a sale with its number, the next one of
-- the point in the open shift
abbrev pub step_told : SiteState → ℕ → ℕ → PointStep → Answer
step_told s p growth Moved = answers.Done
step_told s p growth Calling = answers.Calling
step_told s p growth (Start preset price) = answers.Start preset price
step_told s p growth (Flowed flowed) = answers.Flowed flowed
step_told s p growth HungUp = answers.HungUp
step_told s p growth NoSale = answers.NoSale
step_told s p growth (Sold nozzle volume price prepaid) =
    answers.Sold (made_at p (open_shift s) s.sales + 1) growth
step_told s p growth (Drawn nozzle volume) = answers.Drawn growth
step_told s p growth Stopped = answers.Stopped
step_told s p growth Ending = answers.Ending

-- how what the event's point does of it is told
abbrev pub told_by : SiteState → Option (ℕ × PointEvent) → Answer
told_by s None = answers.Done
told_by s (Some e) = step_told s e.0 (growth_of e.1) (machine.step_of e.1 (facts_of s e.0))

-- a transaction that is there, as a read is answered
abbrev pub sale_told : Option TransactionView → Answer
sale_told None = answers.Done
sale_told (Some view) = answers.TransactionIs view

-- a transaction that is there, as its clear is answered: with its cents
abbrev pub clear_told : Option Sale → Answer
clear_told None = answers.Done
clear_told (Some x) = answers.Cleared x.cents

-- a product at today's price, if it has one, as a read is answered
abbrev pub product_told : SiteState → ℕ → Option ℕ → Answer
product_told s q None = answers.Done
product_told s q (Some price) = answers.ProductIs (product_view s q price)

-- what an accepted event is answered with: each event has its line
abbrev pub site_answer : SiteState → Event → Answer
site_answer s SignOn = answers.Done
site_answer s SignOff = answers.Done
site_answer s (Open p) = answers.Done
site_answer s (Close p) = answers.Done
site_answer s (Assign p) = answers.Done
site_answer s (Unassign p) = answers.Done
site_answer s (Release p preset) = answers.Done
site_answer s (Prepay p cents) = answers.Done
site_answer s (TestRelease p) = answers.Done
site_answer s (Suspend p) = answers.Done
site_answer s (Resume p) = answers.Done
site_answer s (Terminate p) = told_by s (own_event s (Terminate p))
site_answer s (ReplaceMeter p n reading) = answers.Done
site_answer s (ReadPoint p) = answers.PointIs (point_view (facts_of s p) (holder_of s p))
site_answer s (Lock p id) = answers.Locked
site_answer s (Unlock p id) = answers.Unlocked
site_answer s (Clear p id) = clear_told (sale_of (key_named s p id) s.sales)
site_answer s (ReadTransaction p id) = sale_told (view_sale s p id)
site_answer s (SetPrice q price) = answers.Done
site_answer s (ReadProduct q) = product_told s q (row_of q s.prices)
site_answer s CloseShift = answers.ShiftClosed (open_shift s)
site_answer s ReadSite = answers.SiteIs (site_view s)
site_answer s (Online p) = answers.Done
site_answer s (Offline p) = told_by s (own_event s (Offline p))
site_answer s (Lift p n reading) = told_by s (own_event s (Lift p n reading))
site_answer s (Flow p n reading) = told_by s (own_event s (Flow p n reading))
site_answer s (HangUp p n reading) = told_by s (own_event s (HangUp p n reading))

-- the points once one of them has done what the point table says of an event
abbrev pub with_event : List (ℕ × Facts) → Option (ℕ × PointEvent) → List (ℕ × Facts)
with_event points None = points
with_event points (Some e) = with_row e.0 (machine.after e.1 (facts_in points e.0)) points

-- the points after an accepted event: what it is to its point, that point does
abbrev pub points_after : SiteState → Event → List (ℕ × Facts)
points_after s event = with_event s.points (own_event s event)

-- the nozzles after an accepted event: the reading that a flow or a hang up reports is the nozzle's
-- last one; a meter that replaces another begins with its own. An event without a line leaves them.
abbrev pub nozzles_after : SiteState → Event → List Nozzle
nozzles_after s (Flow p n reading) = with_last p n reading s.nozzles
nozzles_after s (HangUp p n reading) = with_last p n reading s.nozzles
nozzles_after s (ReplaceMeter p n reading) = with_meter p n reading s.nozzles
nozzles_after s event = s.nozzles

-- the till has the hold of the point, and the point rests: the hold ends when the till signs off
abbrev pub ends_at_sign_off : List (ℕ × Facts) → finite.FinMap nat_cmp ℕ → ℕ → ℕ → Bool
ends_at_sign_off points holds t p = rests points p && is_held_by t (finite.get holds p)

-- the holds that outlive a till's sign-off; that of a point that the site doesn't have is one
abbrev pub holds_without : List (ℕ × Facts) → finite.FinMap nat_cmp ℕ → ℕ → finite.FinMap nat_cmp ℕ
holds_without points holds t =
    finite.retain_keys holds (λ p. not (ends_at_sign_off points holds t p))

-- the step ends what the point was released for: a release that is taken back, or a fuelling
abbrev pub ends_release : PointStep → Bool
ends_release Stopped = true
ends_release NoSale = true
ends_release (Sold nozzle volume price prepaid) = true
ends_release (Drawn nozzle volume) = true
ends_release step = false

-- the holds after this step of point p
abbrev pub holds_unless_over : ℕ → PointStep → finite.FinMap nat_cmp ℕ → finite.FinMap nat_cmp ℕ
holds_unless_over p step holds = if ends_release step then finite.remove holds p else holds

-- the holds after an accepted event; one without a line leaves them
abbrev pub holds_after : SiteState → Actor → Event → finite.FinMap nat_cmp ℕ
holds_after s (Till t) SignOff = holds_without s.points s.holds t
holds_after s (Till t) (Assign p) = finite.insert s.holds p t
holds_after s (Till t) (Release p preset) = finite.insert s.holds p t
holds_after s (Till t) (Prepay p cents) = finite.insert s.holds p t
holds_after s (Till t) (TestRelease p) = finite.insert s.holds p t
holds_after s (Till t) (Unassign p) = finite.remove s.holds p
holds_after s actor (Offline p) = finite.remove s.holds p
holds_after s actor (HangUp p n reading) =
    holds_unless_over p (step_at s (HangUp p n reading)) s.holds
holds_after s actor (Terminate p) = holds_unless_over p (step_at s (Terminate p)) s.holds
holds_after s actor event = s.holds

-- this till, where it is signed on
abbrev pub if_signed_on : SiteState → Option ℕ → Option ℕ
if_signed_on s None = None
if_signed_on s (Some t) = if is_signed_on s t then Some t else None

-- the till that has locked a sale from its beginning: of a prepaid one the holder, where it is
-- signed on
abbrev pub first_locker : SiteState → ℕ → Option ℕ → Option ℕ
first_locker s p None = None
first_locker s p (Some prepaid) = if_signed_on s (holder_of s p)

-- the sale of the fuelling of point p that is over, with these nozzles' last readings: the volume
-- since its start, at the price it took
abbrev pub sale_made : SiteState → List Nozzle → ℕ → Sale
sale_made s nozzles p =
    record {
      shift = open_shift s;
      price = (facts_of s p).price;
      volume = running_at nozzles p (facts_of s p);
      cents = amount (running_at nozzles p (facts_of s p)) (facts_of s p).price;
      prepaid = (facts_of s p).prepaid;
      product = product_out nozzles p (facts_of s p);
      standing = new_standing (first_locker s p (facts_of s p).prepaid);
    }

-- the sales after this step of point p, with these nozzles' last readings
abbrev pub sales_by : SiteState → List Nozzle → ℕ → PointStep → Sales
sales_by s nozzles p (Sold nozzle volume price prepaid) = with_new p (sale_made s nozzles p) s.sales
sales_by s nozzles p step = s.sales

-- the sales after an accepted event; one without a line leaves them
abbrev pub sales_after : SiteState → Actor → Event → Sales
sales_after s (Till t) SignOff = after_sign_off t s.sales
sales_after s (Till t) (Lock p id) = after_request requests.Lock t (key_named s p id) s.sales
sales_after s (Till t) (Unlock p id) = after_request requests.Unlock t (key_named s p id) s.sales
sales_after s (Till t) (Clear p id) =
    after_request (requests.Clear (open_shift s)) t (key_named s p id) s.sales
sales_after s actor (Offline p) = sales_by s s.nozzles p (step_at s (Offline p))
sales_after s actor (HangUp p n reading) =
    sales_by s (nozzles_after s (HangUp p n reading)) p (step_at s (HangUp p n reading))
sales_after s actor event = s.sales

-- the prices after an accepted event; one without a line leaves them
abbrev pub prices_after : SiteState → Event → List (ℕ × ℕ)
prices_after s (SetPrice q price) = with_row q price s.prices
prices_after s event = s.prices

-- the draws of a shift, with one more of product q
abbrev pub one_more_drawn : ℕ → ℕ → List ℕ → List ℕ
one_more_drawn q volume row = with_numbered q (unwrap_or (member q row) 0 + volume) row

-- the draws by shift, with one more in the open one
abbrev pub draw_noted : ℕ → ℕ → List (List ℕ) → List (List ℕ)
draw_noted q volume [] = []
draw_noted q volume (row ∷ []) = one_more_drawn q volume row ∷ []
draw_noted q volume (row ∷ rows) = row ∷ draw_noted q volume rows

-- the draws after this step of point p, with these nozzles' last readings
abbrev pub draws_by : SiteState → List Nozzle → ℕ → PointStep → List (List ℕ)
draws_by s nozzles p (Drawn nozzle volume) =
    draw_noted (product_out nozzles p (facts_of s p)) (running_at nozzles p (facts_of s p)) s.drawn
draws_by s nozzles p step = s.drawn

-- the draws after an accepted event: a close opens a shift in which nothing is drawn. One without a
-- line leaves them.
abbrev pub drawn_after : SiteState → Event → List (List ℕ)
drawn_after s (Offline p) = draws_by s s.nozzles p (step_at s (Offline p))
drawn_after s (HangUp p n reading) =
    draws_by s (nozzles_after s (HangUp p n reading)) p (step_at s (HangUp p n reading))
drawn_after s CloseShift = s.drawn ++ nothing_drawn ∷ []
drawn_after s event = s.drawn

-- the tills signed on after an accepted event; one without a line leaves them
abbrev pub signed_on_after : SiteState → Actor → Event → set.FinSet nat_cmp
signed_on_after s (Till t) SignOn = set.insert s.signed_on t
signed_on_after s (Till t) SignOff = set.remove s.signed_on t
signed_on_after s actor event = s.signed_on

-- the site after an accepted event, part by part
abbrev pub accepted_site : SiteState → Actor → Event → SiteState
accepted_site s actor event = record {
  points = points_after s event;
  nozzles = nozzles_after s event;
  holds = holds_after s actor event;
  sales = sales_after s actor event;
  prices = prices_after s event;
  managers = s.managers;
  signed_on = signed_on_after s actor event;
  drawn = drawn_after s event;
}

-- the written step's reply
abbrev pub reply_to : SiteState → Actor → Event → Result Answer Refusal
reply_to s actor event = reply_or (first_refusal s actor event) (site_answer s event)

-- the site that the written step leads to: a refusal leaves it
abbrev pub site_after : SiteState → Actor → Event → SiteState
site_after s actor event = value_or (first_refusal s actor event) (accepted_site s actor event) s

-- from old, the event of the actor is answered with the reply and leads to new
pub record Steps (old : SiteState) (actor : Actor) (event : Event) (new : SiteState)
    (reply : Result Answer Refusal) : Type 0 where
  pub replies : reply ≡ reply_to old actor event
  pub leads : new ≡ site_after old actor event
