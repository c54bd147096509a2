-- What one step tells: a refusal changes nothing, and Cleared is answered to accepted Clears alone.
use Rattle.std.proofs.Common.{◌≡◌, ℕ, Bool, true, false, ◌&&◌, List, [], ◌∷◌, Option, Some, None}
use Rattle.std.proofs.Common.{Ok, Err, is_some, refl, ◌∙◌}
use Rattle.std.specs.List.{AllByRecursion}
use Rattle.site_base.specs.declared.actor.Actor.{Actor}
use Rattle.site_base.specs.declared.event.Event.{Event}
use Rattle.site_base.specs.declared.event.Event.TheVariants.{Clear, Terminate, ReadTransaction}
use Rattle.site_base.specs.declared.event.Event.TheVariants.{ReadProduct, Lift, Flow, Offline}
use Rattle.site_base.specs.declared.event.Event.TheVariants.{HangUp}
use Rattle.site_base.specs.declared.refusal.Refusal.{Refusal}
use Rattle.site_base.specs.declared.refusal.Refusal.TheVariants.{NoSuchTransaction}
use Rattle.site_base.specs.declared.row.Row.{Row}
use Rattle.site_base.specs.declared.view.TransactionView.{TransactionView}
use Rattle.site_base.specs.Checks.{reply_or, value_or, unless}
use Rattle.site_base.specs.Table.{row_of}
use Rattle.fuelling_point.specs.declared.event.PointEvent.{PointEvent}
use Rattle.fuelling_point.specs.declared.step.PointStep.{PointStep}
use Rattle.fuelling_point.specs.declared.step.PointStep.TheVariants.{Moved}
use Rattle.transaction_buffer.specs.Sales.{Sale, sale_of}
use Rattle.written_site.specs.SiteChecks.{Passed, first_refusal, is_nozzle_there, is_product_there}
use Rattle.written_site.specs.SiteChecks.{is_sale_there, is_there, own_event}
use Rattle.written_site.specs.SiteRun.{IsLegal}
use Rattle.written_site.specs.SiteState.{SiteState, key_named, opening, view_sale}
use Rattle.written_site.specs.SiteStep.{accepted_site, clear_told, product_told, reply_to}
use Rattle.written_site.specs.SiteStep.{sale_told, site_after, site_answer, step_told, told_by}
use Rattle.written_site.specs.StepLaws.{AreClearsTold, DoRefusalsLeave, IsClearTold, is_clear}
use Rattle.written_site.specs.StepLaws.{is_cleared}
use Rattle.written_site.specs.RowWords.{OfBooks}
use Rattle.written_site.proofs.PassedChecks.{both_pass}
use Rattle.written_site.proofs.RowWords.{of_row}

-- ---- a refusal

pub refusals_leave : DoRefusalsLeave
refusals_leave s a e refusal is = by_refusal (first_refusal s a e) is
  where
    by_refusal : (o : Option Refusal) → reply_or o (site_answer s e) ≡ Err refusal
        → value_or o (accepted_site s a e) s ≡ s
    by_refusal None is = cc
    by_refusal (Some found) is = refl

-- ---- Cleared

told_step : (s : SiteState) (p growth : ℕ) (step : PointStep)
    → is_cleared (Ok (step_told s p growth step)) ≡ false
told_step s p growth Moved = refl
told_step s p growth step = refl

told_event : (s : SiteState) (o : Option (ℕ × PointEvent)) → is_cleared (Ok (told_by s o)) ≡ false
told_event s None = refl
told_event s (Some e) = told_step s e.0 _ _

told_sale : (view : Option TransactionView) → is_cleared (Ok (sale_told view)) ≡ false
told_sale None = refl
told_sale (Some view) = refl

told_product : (s : SiteState) (q : ℕ) (price : Option ℕ)
    → is_cleared (Ok (product_told s q price)) ≡ false
told_product s q None = refl
told_product s q (Some price) = refl

-- a sale that is there is told cleared
told_clear : (o : Option Sale) → unless (is_some o) NoSuchTransaction ≡ None
    → is_cleared (Ok (clear_told o)) ≡ true
told_clear None there = cc
told_clear (Some sale) there = refl

accepted : (s : SiteState) (a : Actor) (e : Event) → Passed s a e
    → is_cleared (Ok (site_answer s e)) ≡ is_clear e
accepted s a (Clear p id) passes =
    let to_nozzle = both_pass (is_there s (Some p)) _ passes.names in
    let to_product = both_pass (is_nozzle_there s (Some p) None) _ to_nozzle.1 in
    let to_sale = both_pass (is_product_there s None) (is_sale_there s (Some p) (Some id))
    to_product.1 in
    told_clear (sale_of (key_named s p id) s.sales) to_sale.1
accepted s a (Terminate p) passes = told_event s (own_event s (Terminate p))
accepted s a (Offline p) passes = told_event s (own_event s (Offline p))
accepted s a (Lift p n reading) passes = told_event s (own_event s (Lift p n reading))
accepted s a (Flow p n reading) passes = told_event s (own_event s (Flow p n reading))
accepted s a (HangUp p n reading) passes = told_event s (own_event s (HangUp p n reading))
accepted s a (ReadTransaction p id) passes = told_sale (view_sale s p id)
accepted s a (ReadProduct q) passes = told_product s q (row_of q s.prices)
accepted s a e passes = refl

and_true : (b : Bool) → b ≡ (b && true)
and_true true = refl
and_true false = refl

and_false : (b : Bool) → false ≡ (b && false)
and_false true = refl
and_false false = refl

told_row : (s : SiteState) (r : Row) → r.reply ≡ reply_to s r.actor r.event → IsClearTold r
told_row s r replies =
    of_row (λ row new. IsClearTold row) s r replies
    (λ refusal. and_false (is_clear r.event))
    (λ passes. accepted s r.actor r.event passes ∙ and_true (is_clear r.event))

told_rows : (s : SiteState) (rows : List Row) → IsLegal s rows → AllByRecursion IsClearTold rows
told_rows s [] legal = tt
told_rows s (r ∷ rows) legal =
    (told_row s r legal.0, told_rows (site_after s r.actor r.event) rows legal.1)

pub clears_told : OfBooks AreClearsTold
clears_told c rows legal = told_rows (opening c) rows legal
