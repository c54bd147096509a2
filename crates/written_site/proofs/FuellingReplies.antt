-- What an accepted event tells of its point's fuelling is what it does to the point.
use Rattle.std.proofs.Common.{◌≡◌, ℕ, Option, Some, None, Ok, refl, arith}
use Rattle.std.proofs.lemmas.Bool.Decides.{nat_tests}
use Rattle.std.proofs.lemmas.Grind.{common_steps}
use Rattle.site_base.specs.declared.actor.Actor.{Actor}
use Rattle.site_base.specs.declared.event.Event.{Event}
use Rattle.site_base.specs.declared.event.Event.TheVariants.{Terminate, ReadTransaction}
use Rattle.site_base.specs.declared.event.Event.TheVariants.{ReadProduct, Clear, Lift, Flow}
use Rattle.site_base.specs.declared.event.Event.TheVariants.{Offline, HangUp}
use Rattle.site_base.specs.declared.state.PointState.TheVariants as states
use Rattle.site_base.specs.declared.view.TransactionView.{TransactionView}
use Rattle.site_base.specs.Events.{growth_in_reply}
use Rattle.site_base.specs.Table.{row_of}
use Rattle.fuelling_point.specs.declared.event.PointEvent.TheVariants as points
use Rattle.fuelling_point.specs.KeptPoints.{Facts}
use Rattle.fuelling_point.specs.PointChecks.{refusal_of}
use Rattle.fuelling_point.specs.Step.{step_of}
use Rattle.transaction_buffer.specs.Sales.{Sale, sale_of}
use Rattle.written_site.specs.SiteState.{SiteState, facts_of, key_named, view_sale}
use Rattle.written_site.specs.SiteChecks.{Passed, own_event, metering, flow_since}
use Rattle.written_site.specs.SiteStep.{site_answer, step_told, sale_told, clear_told, product_told}
use Rattle.written_site.specs.SoundSteps.{growth_by}

-- ---- growth

flow_told : (s : SiteState) (p n growth : ℕ) (f : Facts)
    → refusal_of (points.Flow n growth) f ≡ None
    → growth_in_reply (Ok (step_told s p growth (step_of (points.Flow n growth) f))) ≡ growth
flow_told s p n growth f taken = grind (arith, common_steps)

hung_up_told : (s : SiteState) (p n growth : ℕ) (f : Facts)
    → refusal_of (points.HangUp n growth) f ≡ None → (f.state ≡ states.Calling → growth ≡ 0)
    → growth_in_reply (Ok (step_told s p growth (step_of (points.HangUp n growth) f))) ≡ growth
hung_up_told s p n growth f taken still = grind (arith, nat_tests, common_steps)

lost_told : (s : SiteState) (p : ℕ) (f : Facts)
    → growth_in_reply (Ok (step_told s p 0 (step_of points.Offline f))) ≡ 0
lost_told s p f = grind (arith, common_steps)

ended_told : (s : SiteState) (p : ℕ) (f : Facts)
    → growth_in_reply (Ok (step_told s p 0 (step_of points.Terminate f))) ≡ 0
ended_told s p f = grind (arith, common_steps)

lifted_told : (s : SiteState) (p n last price : ℕ) (f : Facts)
    → growth_in_reply (Ok (step_told s p 0 (step_of (points.Lift n last price) f))) ≡ 0
lifted_told s p n last price f = grind (arith, common_steps)

-- where the point only calls, nothing flows
calling_still : (s : SiteState) (p n reading : ℕ) → metering s (HangUp p n reading) ≡ None
    → (facts_of s p).state ≡ states.Calling → flow_since s p n reading ≡ 0
calling_still s p n reading reads calling = grind (arith, common_steps, nat_tests)

shows_sale : (view : Option TransactionView) → growth_in_reply (Ok (sale_told view)) ≡ 0
shows_sale None = refl
shows_sale (Some view) = refl

clears : (sale : Option Sale) → growth_in_reply (Ok (clear_told sale)) ≡ 0
clears None = refl
clears (Some x) = refl

shows_product : (s : SiteState) (q : ℕ) (price : Option ℕ)
    → growth_in_reply (Ok (product_told s q price)) ≡ 0
shows_product s q None = refl
shows_product s q (Some price) = refl

-- the growth that an answer tells is the one handed to the point
pub growth_is : (s : SiteState) (a : Actor) (e : Event) → Passed s a e
    → growth_in_reply (Ok (site_answer s e)) ≡ growth_by (own_event s e)
growth_is s a (Flow p n reading) passes =
    flow_told s p n (flow_since s p n reading) (facts_of s p) passes.takes
growth_is s a (HangUp p n reading) passes =
    hung_up_told s p n (flow_since s p n reading) (facts_of s p) passes.takes
    (calling_still s p n reading passes.reads)
growth_is s a (Offline p) passes = lost_told s p (facts_of s p)
growth_is s a (Terminate p) passes = ended_told s p (facts_of s p)
growth_is s a (Lift p n reading) passes = lifted_told s p n _ _ (facts_of s p)
growth_is s a (ReadTransaction p id) passes = shows_sale (view_sale s p id)
growth_is s a (Clear p id) passes = clears (sale_of (key_named s p id) s.sales)
growth_is s a (ReadProduct q) passes = shows_product s q (row_of q s.prices)
growth_is s a e passes = refl
