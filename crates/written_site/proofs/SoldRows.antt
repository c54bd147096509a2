-- What is known of a row that tells a sale.
use Rattle.std.proofs.Common.{◌≡◌, ℕ, ◌+◌, List, [], ◌∷◌, ◌++◌, Option, Some, None, Ok, refl, sym}
use Rattle.std.proofs.Common.{ap, ◌∙◌, arith}
use Rattle.site_base.specs.declared.actor.Actor.{Actor}
use Rattle.site_base.specs.declared.actor.Actor.TheVariants.{Till, Dispenser}
use Rattle.site_base.specs.declared.event.Event.{Event}
use Rattle.site_base.specs.declared.event.Event.TheVariants.{Terminate, Clear, ReadTransaction}
use Rattle.site_base.specs.declared.event.Event.TheVariants.{Lift, Flow, Offline, HangUp}
use Rattle.site_base.specs.declared.row.Row.{Row}
use Rattle.site_base.specs.Configured.{Configured}
use Rattle.site_base.specs.Events.{point_named}
use Rattle.fuelling_point.specs.declared.event.PointEvent.{PointEvent}
use Rattle.fuelling_point.specs.declared.event.PointEvent.TheVariants as points
use Rattle.fuelling_point.specs.declared.step.PointStep.{PointStep}
use Rattle.fuelling_point.specs.declared.step.PointStep.TheVariants.{Sold}
use Rattle.fuelling_point.specs.KeptPoints.{growth_of}
use Rattle.fuelling_point.specs.PointChecks.{refusal_of}
use Rattle.fuelling_point.specs.Step.{step_of}
use Rattle.transaction_buffer.specs.Sales.{Key, key, made_at, next_key, with_new}
use Rattle.written_site.specs.SiteState.{SiteState, opening, facts_of, open_shift}
use Rattle.written_site.specs.SiteChecks.{Passed, own_event, flow_since}
use Rattle.written_site.specs.SiteStep.{accepted_site, site_answer, step_at, step_told}
use Rattle.written_site.specs.SiteStep.{nozzles_after, sales_after, sales_by, sale_made, reply_to}
use Rattle.written_site.specs.SiteStep.{site_after}
use Rattle.written_site.specs.SiteRun.{site_of_rows, IsLegal}
use Rattle.written_site.specs.Histories.{Moment, moments_after, moments_of}
use Rattle.written_site.specs.RowWords.{open_after, total}
use Rattle.written_site.specs.SaleWords.{key_sold, number_sold, sold_as}
use Rattle.written_site.proofs.RowFacts.{own_after}
use Rattle.written_site.proofs.RowWords.{told_row, of_row}
use Rattle.written_site.proofs.SlotRows.{moment_at}
use Rattle.written_site.proofs.SoundTables.{told_once}
use Rattle.written_site.proofs.ToldAnswers.{never_sold}

-- the event is accepted; it is this to its point, which sells this; the sale has the next name of
-- its point in the open shift, and joins the sales
pub record SellsHere (s : SiteState) (r : Row) (k : Key) (new : SiteState) : Type 0 where
  pub passes : Passed s r.actor r.event
  pub leads : new ≡ accepted_site s r.actor r.event
  pub told : r.reply ≡ Ok (site_answer s r.event)
  pub point : ℕ
  pub event : PointEvent
  pub own : own_event s r.event ≡ Some (point, event)
  pub taken : refusal_of event (facts_of s point) ≡ None
  pub nozzle : ℕ
  pub volume : ℕ
  pub price : ℕ
  pub prepaid : Option ℕ
  pub sells : step_of event (facts_of s point) ≡ Sold nozzle volume price prepaid
  pub name : k ≡ next_key point (open_shift s) s.sales
  pub sales : sales_after s r.actor r.event
      ≡ with_new point (sale_made s (nozzles_after s r.event) point) s.sales

sells_by : (k : Key) (earlier : List Row) (s : SiteState) (a : Actor) (e : Event) (p : ℕ)
    (event : PointEvent) → open_shift s ≡ open_after earlier → Passed s a e
    → own_event s e ≡ Some (p, event) → (step : PointStep) → step_of event (facts_of s p) ≡ step
    → sales_after s a e ≡ sales_by s (nozzles_after s e) p step
    → key_sold earlier (Some p) (number_sold (Ok (step_told s p (growth_of event) step))) ≡ Some k
    → SellsHere s (told_row a e (Ok (site_answer s e))) k (accepted_site s a e)
sells_by k earlier s a e p event shift passes own
    (Sold nozzle volume price prepaid) is leads named =
    record {
      passes = passes;
      leads = refl;
      told = refl;
      point = p;
      event = event;
      own = own;
      taken = (own_after s a e p event passes own).1;
      nozzle = nozzle;
      volume = volume;
      price = price;
      prepaid = prepaid;
      sells = is;
      name = sym (told_once (key (open_after earlier) p (made_at p (open_shift s) s.sales + 1)) k
          named)
          ∙ ap (λ (h : ℕ). key h p (made_at p (open_shift s) s.sales + 1)) (sym shift);
      sales = leads;
    }
sells_by k earlier s a e p event shift passes own step is leads named = absurd cc

-- whoever reports it
lost_sales : (s : SiteState) (a : Actor) (p : ℕ)
    → sales_after s a (Offline p) ≡ sales_by s (nozzles_after s (Offline p)) p
    (step_at s (Offline p))
lost_sales s (Till t) p = refl
lost_sales s (Dispenser d) p = refl

hung_up_sales : (s : SiteState) (a : Actor) (p n reading : ℕ)
    → sales_after s a (HangUp p n reading)
    ≡ sales_by s (nozzles_after s (HangUp p n reading)) p (step_at s (HangUp p n reading))
hung_up_sales s (Till t) p n reading = refl
hung_up_sales s (Dispenser d) p n reading = refl

-- no other event is told a sale
other_sells : (k : Key) (o : Option Key) → o ≡ None → o ≡ Some k → ⊥
other_sells k o none some = let both : None ≡ Some k = sym none ∙ some in cc

sells_accepted : (k : Key) (earlier : List Row) (s : SiteState) (a : Actor) (e : Event)
    → open_shift s ≡ open_after earlier → Passed s a e
    → sold_as (moment_at earlier s (told_row a e (Ok (site_answer s e)))) ≡ Some k
    → SellsHere s (told_row a e (Ok (site_answer s e))) k (accepted_site s a e)
sells_accepted k earlier s a (Offline p) shift passes named =
    sells_by k earlier s a (Offline p) p points.Offline shift passes refl
    (step_at s (Offline p)) refl
    (lost_sales s a p) named
sells_accepted k earlier s a (HangUp p n reading) shift passes named =
    sells_by k earlier s a (HangUp p n reading) p
    (points.HangUp n (flow_since s p n reading)) shift passes
    refl (step_at s (HangUp p n reading)) refl (hung_up_sales s a p n reading) named
sells_accepted k earlier s a (Terminate p) shift passes named =
    absurd (other_sells k _ (ap (key_sold earlier (Some p)) (never_sold s (Terminate p) refl))
    named)
sells_accepted k earlier s a (Clear p id) shift passes named =
    absurd (other_sells k _ (ap (key_sold earlier (Some p)) (never_sold s (Clear p id) refl)) named)
sells_accepted k earlier s a (ReadTransaction p id) shift passes named =
    absurd (other_sells k _ (ap (key_sold earlier (Some p))
    (never_sold s (ReadTransaction p id) refl))
    named)
sells_accepted k earlier s a (Lift p n reading) shift passes named =
    absurd (other_sells k _ (ap (key_sold earlier (Some p)) (never_sold s (Lift p n reading) refl))
    named)
sells_accepted k earlier s a (Flow p n reading) shift passes named =
    absurd (other_sells k _ (ap (key_sold earlier (Some p)) (never_sold s (Flow p n reading) refl))
    named)
sells_accepted k earlier s a e shift passes named = absurd cc

-- nor is a refusal
untold : (earlier : List Row) (point : Option ℕ) → key_sold earlier point None ≡ None
untold earlier None = refl
untold earlier (Some p) = refl

pub sells_here : (k : Key) (earlier : List Row) (s : SiteState) (r : Row)
    → open_shift s ≡ open_after earlier → r.reply ≡ reply_to s r.actor r.event
    → sold_as (moment_at earlier s r) ≡ Some k
    → SellsHere s r k (site_after s r.actor r.event)
sells_here k earlier s r shift replies =
    of_row (λ row new. sold_as (moment_at earlier s row) ≡ Some k → SellsHere s row k new) s r
    replies
    (λ refusal named. absurd (other_sells k _ (untold earlier (point_named r.event)) named))
    (λ passes. sells_accepted k earlier s r.actor r.event shift passes)

-- ---- figures that moments add up

-- a word of the site to which each moment adds
pub total_moments : (Known : List Row → SiteState → Type 0)
    → ((earlier : List Row) (s : SiteState) (r : Row) → Known earlier s
    → r.reply ≡ reply_to s r.actor r.event
    → Known (earlier ++ r ∷ []) (site_after s r.actor r.event))
    → (word : SiteState → ℕ) (figure : Moment → ℕ)
    → ((earlier : List Row) (s : SiteState) (r : Row) → Known earlier s
    → r.reply ≡ reply_to s r.actor r.event
    → word (site_after s r.actor r.event) ≡ word s + figure (moment_at earlier s r))
    → (earlier : List Row) (s : SiteState) (rs : List Row) → Known earlier s → IsLegal s rs
    → word (site_of_rows s rs) ≡ word s + total figure (moments_after earlier s rs)
total_moments Known keeps word figure adds earlier s [] known legal = omega arith
total_moments Known keeps word figure adds earlier s (r ∷ rs) known legal =
    let here = adds earlier s r known legal.0 in
    let rest = total_moments Known keeps word figure adds (earlier ++ r ∷ [])
    (site_after s r.actor r.event) rs (keeps earlier s r known legal.0) legal.1 in
    omega (arith, here, rest)

-- so a word that is 0 when the site opens is what the moments add up to
pub counted : (Known : List Row → SiteState → Type 0)
    → ((earlier : List Row) (s : SiteState) (r : Row) → Known earlier s
    → r.reply ≡ reply_to s r.actor r.event
    → Known (earlier ++ r ∷ []) (site_after s r.actor r.event))
    → (word : SiteState → ℕ) (figure : Moment → ℕ)
    → ((earlier : List Row) (s : SiteState) (r : Row) → Known earlier s
    → r.reply ≡ reply_to s r.actor r.event
    → word (site_after s r.actor r.event) ≡ word s + figure (moment_at earlier s r))
    → (c : Configured) (rows : List Row) → Known [] (opening c) → IsLegal (opening c) rows
    → word (opening c) ≡ 0
    → word (site_of_rows (opening c) rows) ≡ total figure (moments_of c rows)
counted Known keeps word figure adds c rows known legal none =
    let all = total_moments Known keeps word figure adds [] (opening c) rows known legal in
    omega (arith, all, none)
