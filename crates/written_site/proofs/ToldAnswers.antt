-- Only a hang up and an offline are told a sale or a draw.
use Rattle.std.proofs.Common.{◌≡◌, ℕ, Bool, true, false, Option, Some, None, Ok, refl}
use Rattle.site_base.specs.declared.answer.Answer.{Answer}
use Rattle.site_base.specs.declared.answer.Answer.TheVariants.{Sold, Drawn}
use Rattle.site_base.specs.declared.event.Event.{Event}
use Rattle.site_base.specs.declared.event.Event.TheVariants.{Terminate, Clear, ReadTransaction}
use Rattle.site_base.specs.declared.event.Event.TheVariants.{ReadProduct, Lift, Offline, Flow}
use Rattle.site_base.specs.declared.event.Event.TheVariants.{HangUp}
use Rattle.site_base.specs.declared.state.PointState.{PointState}
use Rattle.site_base.specs.declared.state.PointState.TheVariants.{Idle, Authorised, Started}
use Rattle.site_base.specs.declared.state.PointState.TheVariants.{SuspendedStarted, Fuelling}
use Rattle.site_base.specs.declared.state.PointState.TheVariants.{SuspendedFuelling}
use Rattle.site_base.specs.declared.view.TransactionView.{TransactionView}
use Rattle.site_base.specs.Table.{row_of}
use Rattle.fuelling_point.specs.declared.event.PointEvent.TheVariants as points
use Rattle.fuelling_point.specs.KeptPoints.{Facts}
use Rattle.fuelling_point.specs.Step as machine
use Rattle.fuelling_point.specs.Table.{line_of, line, Growth, zero, above_zero, Flow as flow}
use Rattle.fuelling_point.specs.Table.{growth_in}
use Rattle.transaction_buffer.specs.Sales.{Sale, sale_of}
use Rattle.written_site.specs.SiteState.{SiteState, facts_of, key_named, view_sale, price_at_start}
use Rattle.written_site.specs.SiteState.{reading_at_start}
use Rattle.written_site.specs.SiteChecks.{flow_since}
use Rattle.written_site.specs.SiteStep.{site_answer, step_told, sale_told, clear_told, product_told}
use Rattle.written_site.specs.SaleWords.{number_sold}
use Rattle.written_site.specs.Holders.{tells_end}

-- the dispenser hangs up, or is lost
abbrev pub ends_fuelling : Event → Bool
ends_fuelling (Offline p) = true
ends_fuelling (HangUp p n reading) = true
ends_fuelling event = false

-- the answer tells that a fuelling is over, sold or drawn
abbrev pub is_over : Answer → Bool
is_over (Sold number growth) = true
is_over (Drawn growth) = true
is_over answer = false

terminates : (s : SiteState) (q : ℕ) (f : Facts) (state : PointState)
    → is_over (step_told s q 0 (machine.step_by (line_of points.Terminate state)
    points.Terminate f)) ≡ false
terminates s q f Authorised = refl
terminates s q f Started = refl
terminates s q f SuspendedStarted = refl
terminates s q f Fuelling = refl
terminates s q f SuspendedFuelling = refl
terminates s q f state = refl

-- a lift ends nothing
pub lifts : (s : SiteState) (q n last price : ℕ) (f : Facts) (state : PointState)
    → tells_end (Ok (step_told s q 0
    (machine.step_by (line_of (points.Lift n last price) state) (points.Lift n last price) f)))
    ≡ false
lifts s q n last price f Idle = refl
lifts s q n last price f Authorised = refl
lifts s q n last price f state = refl

-- nor does a flow
pub flows : (s : SiteState) (q n growth : ℕ) (f : Facts) (size : Growth) (state : PointState)
    → tells_end (Ok (step_told s q growth
    (machine.step_by (line (flow size) state) (points.Flow n growth) f))) ≡ false
flows s q n growth f zero Started = refl
flows s q n growth f zero SuspendedStarted = refl
flows s q n growth f zero Fuelling = refl
flows s q n growth f zero SuspendedFuelling = refl
flows s q n growth f above_zero Started = refl
flows s q n growth f above_zero SuspendedStarted = refl
flows s q n growth f above_zero Fuelling = refl
flows s q n growth f above_zero SuspendedFuelling = refl
flows s q n growth f size state = refl

-- nor does a clear, or a read
pub shows_sale : (view : Option TransactionView) → tells_end (Ok (sale_told view)) ≡ false
shows_sale None = refl
shows_sale (Some view) = refl

pub clears_sale : (sale : Option Sale) → tells_end (Ok (clear_told sale)) ≡ false
clears_sale None = refl
clears_sale (Some x) = refl

pub shows_product : (s : SiteState) (q : ℕ) (price : Option ℕ)
    → tells_end (Ok (product_told s q price)) ≡ false
shows_product s q None = refl
shows_product s q (Some price) = refl

-- what ends no hold isn't over
no_end : (answer : Answer) → tells_end (Ok answer) ≡ false → is_over answer ≡ false
no_end (Sold number growth) none = cc
no_end (Drawn growth) none = cc
no_end answer none = refl

pub not_over : (s : SiteState) (e : Event) → ends_fuelling e ≡ false
    → is_over (site_answer s e) ≡ false
not_over s (Offline p) other = cc
not_over s (HangUp p n reading) other = cc
not_over s (Terminate p) other = terminates s p (facts_of s p) (facts_of s p).state
not_over s (Lift p n reading) other =
    no_end (site_answer s (Lift p n reading))
    (lifts s p n (reading_at_start s p (Some n)) (price_at_start s p (Some n)) (facts_of s p)
    (facts_of s p).state)
not_over s (Flow p n reading) other =
    no_end (site_answer s (Flow p n reading))
    (flows s p n (flow_since s p n reading) (facts_of s p) (growth_in (flow_since s p n reading))
    (facts_of s p).state)
not_over s (ReadProduct q) other =
    no_end (site_answer s (ReadProduct q)) (shows_product s q (row_of q s.prices))
not_over s (Clear p id) other =
    no_end (site_answer s (Clear p id)) (clears_sale (sale_of (key_named s p id) s.sales))
not_over s (ReadTransaction p id) other =
    no_end (site_answer s (ReadTransaction p id)) (shows_sale (view_sale s p id))
not_over s e other = refl

none_sold : (answer : Answer) → is_over answer ≡ false → number_sold (Ok answer) ≡ None
none_sold (Sold number growth) other = cc
none_sold answer other = refl

-- no other event is told a sale
pub never_sold : (s : SiteState) (e : Event) → ends_fuelling e ≡ false
    → number_sold (Ok (site_answer s e)) ≡ None
never_sold s e other = none_sold (site_answer s e) (not_over s e other)
