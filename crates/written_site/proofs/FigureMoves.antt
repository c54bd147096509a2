-- How an event moves the figures of what tills cleared.
use Rattle.std.proofs.Common.{◌≡◌, ℕ, false, true, List, Option, Some, None, refl}
use Rattle.site_base.specs.declared.actor.Actor.{Actor}
use Rattle.site_base.specs.declared.actor.Actor.TheVariants.{Till}
use Rattle.site_base.specs.declared.event.Event.{Event}
use Rattle.site_base.specs.declared.event.Event.TheVariants.{SignOff, Lock, Unlock, Clear, Offline}
use Rattle.site_base.specs.declared.event.Event.TheVariants.{HangUp}
use Rattle.site_base.specs.declared.sale.SaleId.{SaleId}
use Rattle.fuelling_point.specs.declared.step.PointStep.{PointStep}
use Rattle.fuelling_point.specs.declared.step.PointStep.TheVariants.{Sold}
use Rattle.meters.specs.Nozzles.{Nozzle}
use Rattle.transaction_buffer.specs.Sales.{Sale, is_unpaid, new_standing, sale_of}
use Rattle.written_site.specs.FigureSteps.{HasClear, HasSameClears, is_clear}
use Rattle.written_site.specs.SiteChecks.{at_sale}
use Rattle.written_site.specs.SiteState.{SiteState, facts_of, key_named, open_shift}
use Rattle.written_site.specs.SiteStep.{step_at, nozzles_after, sales_after, sales_by, sale_made}
use Rattle.written_site.specs.SiteStep.{first_locker}
use Rattle.written_site.proofs.ClearFigures.{clear_counts, lock_keeps, unlock_keeps, sign_off_keeps}
use Rattle.written_site.proofs.ClearFigures.{sale_keeps, nothing_keeps}

pub new_unpaid : (locker : Option ℕ) → is_unpaid (new_standing locker) ≡ true
new_unpaid None = refl
new_unpaid (Some t) = refl

step_keeps : (s : SiteState) (nozzles : List Nozzle) (p : ℕ) (step : PointStep)
    → HasSameClears s.sales (sales_by s nozzles p step)
step_keeps s nozzles p (Sold nozzle volume price prepaid) =
    sale_keeps p (sale_made s nozzles p) s.sales
    (new_unpaid (first_locker s p (facts_of s p).prepaid))
step_keeps s nozzles p step = nothing_keeps s.sales

pub keeps_clears : (s : SiteState) (a : Actor) (e : Event) → is_clear e ≡ false
    → HasSameClears s.sales (sales_after s a e)
keeps_clears s (Till t) SignOff other = sign_off_keeps t s.sales
keeps_clears s (Till t) (Lock p id) other = lock_keeps t (key_named s p id) s.sales
keeps_clears s (Till t) (Unlock p id) other = unlock_keeps t (key_named s p id) s.sales
keeps_clears s a (Clear p id) other = cc
keeps_clears s a (Offline p) other = step_keeps s s.nozzles p (step_at s (Offline p))
keeps_clears s a (HangUp p n reading) other =
    step_keeps s (nozzles_after s (HangUp p n reading)) p (step_at s (HangUp p n reading))
keeps_clears s a e other = nothing_keeps s.sales

pub has_clear : (s : SiteState) (t p : ℕ) (id : SaleId) (x : Sale)
    → sale_of (key_named s p id) s.sales ≡ Some x → at_sale s (Till t) (Clear p id) ≡ None
    → HasClear s.sales (sales_after s (Till t) (Clear p id)) t (open_shift s) x
has_clear s t p id x there accepted =
    clear_counts t (open_shift s) (key_named s p id) x s.sales there accepted
