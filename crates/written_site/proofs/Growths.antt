-- No reply tells more growth than one report may have.
use Rattle.std.proofs.Common.{◌≡◌, ℕ, ◌+◌, ◌-◌, ◌≤◌, ◌==◌, Bool, true, false, not, cond, nat_le}
use Rattle.std.proofs.Common.{Option, Some, None, unwrap_or, Ok, refl, arith}
use Rattle.std.proofs.lemmas.Bool.Decides.{nat_tests}
use Rattle.site_base.specs.declared.actor.Actor.{Actor}
use Rattle.site_base.specs.declared.event.Event.{Event}
use Rattle.site_base.specs.declared.event.Event.TheVariants.{Terminate, Clear, ReadTransaction}
use Rattle.site_base.specs.declared.event.Event.TheVariants.{ReadProduct, Lift, Offline, Flow}
use Rattle.site_base.specs.declared.event.Event.TheVariants.{HangUp}
use Rattle.site_base.specs.declared.amounts.TheConstants.{GROWTH_LIMIT}
use Rattle.site_base.specs.declared.refusal.Refusal.TheVariants.{MeterGap, MeterBack, MeterJump}
use Rattle.site_base.specs.declared.row.Row.{Row}
use Rattle.site_base.specs.declared.view.TransactionView.{TransactionView}
use Rattle.site_base.specs.Events.{growth_in_reply}
use Rattle.site_base.specs.Table.{row_of}
use Rattle.fuelling_point.specs.declared.event.PointEvent.{PointEvent}
use Rattle.fuelling_point.specs.declared.event.PointEvent.TheVariants as points
use Rattle.fuelling_point.specs.KeptPoints.{Facts, growth_of, note_event}
use Rattle.fuelling_point.specs.Step as machine
use Rattle.fuelling_point.specs.Table.{Line, Told, done, calling, start, flowed, hung_up, no_sale}
use Rattle.fuelling_point.specs.Table.{sold, stopped, ending, line_of}
use Rattle.meters.specs.declared.report.Report.{Report}
use Rattle.meters.specs.declared.report.Report.TheVariants.{Still, Growing}
use Rattle.meters.specs.Nozzles.{reading_of}
use Rattle.meters.specs.Reports.{report_refusal}
use Rattle.transaction_buffer.specs.Sales.{Sale, sale_of}
use Rattle.written_site.specs.SiteState.{SiteState, facts_of, key_named, view_sale}
use Rattle.written_site.specs.SiteChecks as checks
use Rattle.written_site.specs.SiteStep.{step_told, sale_told, clear_told, product_told, site_answer}
use Rattle.written_site.specs.SiteStep.{reply_to}
use Rattle.written_site.specs.SiteRun.{row_to}
use Rattle.written_site.proofs.RowWords.{of_row}

-- what is told of a step that took this growth
told_growth : (s : SiteState) (p growth : ℕ) (told : Told) (f : Facts)
    → growth_in_reply (Ok (step_told s p growth (machine.step_told told growth f))) ≤ growth
told_growth s p growth done f = omega arith
told_growth s p growth calling f = omega arith
told_growth s p growth start f = omega arith
told_growth s p growth flowed f = omega arith
told_growth s p growth hung_up f = omega arith
told_growth s p growth no_sale f = omega arith
told_growth s p growth sold f = by_test f.test
  where
    by_test : (test : Bool)
        → growth_in_reply (Ok (step_told s p growth
        (machine.told_over (unwrap_or f.out 0) f.volume (record f { test = test })))) ≤ growth
    by_test true = omega arith
    by_test false = omega arith
told_growth s p growth stopped f = omega arith
told_growth s p growth ending f = omega arith

line_growth : (s : SiteState) (p : ℕ) (line : Option Line) (event : PointEvent) (f : Facts)
    → growth_in_reply (Ok (step_told s p (growth_of event) (machine.step_by line event f)))
    ≤ growth_of event
line_growth s p None event f = omega arith
line_growth s p (Some line) event f =
    told_growth s p (growth_of event) line.told (note_event event line.move f)

-- what a report that is taken grows
report_growth : (report : Report) (last reading : ℕ) → report_refusal report last reading ≡ None
    → reading - last ≤ GROWTH_LIMIT
report_growth Still last reading taken = by_test (reading == last) refl taken
  where
    by_test : (b : Bool) → (reading == last) ≡ b → cond (not b) (Some (MeterGap last)) None ≡ None
        → reading - last ≤ GROWTH_LIMIT
    by_test true is taken = grind (arith, nat_tests)
    by_test false is taken = cc
report_growth Growing last reading taken =
    by_tests (nat_le last reading) (nat_le reading (last + GROWTH_LIMIT)) refl taken
  where
    by_tests : (b fits : Bool) → nat_le reading (last + GROWTH_LIMIT) ≡ fits
        → cond (not b) (Some (MeterBack last)) (cond (not fits) (Some MeterJump) None) ≡ None
        → reading - last ≤ GROWTH_LIMIT
    by_tests true true is taken = grind (arith, nat_tests)
    by_tests true false is taken = cc
    by_tests false fits is taken = cc

clear_growth : (sale : Option Sale) → growth_in_reply (Ok (clear_told sale)) ≤ GROWTH_LIMIT
clear_growth None = omega arith
clear_growth (Some x) = omega arith

sale_growth : (view : Option TransactionView) → growth_in_reply (Ok (sale_told view)) ≤ GROWTH_LIMIT
sale_growth None = omega arith
sale_growth (Some view) = omega arith

product_growth : (s : SiteState) (q : ℕ) (price : Option ℕ)
    → growth_in_reply (Ok (product_told s q price)) ≤ GROWTH_LIMIT
product_growth s q None = omega arith
product_growth s q (Some price) = omega arith

-- an event whose meter agrees
answer_growth : (s : SiteState) (e : Event) → checks.metering s e ≡ None
    → growth_in_reply (Ok (site_answer s e)) ≤ GROWTH_LIMIT
answer_growth s (Flow p n reading) reads =
    let event : PointEvent = points.Flow n (checks.flow_since s p n reading) in
    let told = line_growth s p (line_of event (facts_of s p).state) event (facts_of s p) in
    let most = report_growth Growing (reading_of p n s.nozzles) reading reads in
    omega (arith, told, most)
answer_growth s (HangUp p n reading) reads =
    let event : PointEvent = points.HangUp n (checks.flow_since s p n reading) in
    let told = line_growth s p (line_of event (facts_of s p).state) event (facts_of s p) in
    let most = report_growth (checks.put_back_at (facts_of s p).state) (reading_of p n s.nozzles)
    reading reads in
    omega (arith, told, most)
answer_growth s (Terminate p) reads =
    let told = line_growth s p (line_of points.Terminate (facts_of s p).state) points.Terminate
    (facts_of s p) in
    omega (arith, told)
answer_growth s (Offline p) reads =
    let told = line_growth s p (line_of points.Offline (facts_of s p).state) points.Offline
    (facts_of s p) in
    omega (arith, told)
answer_growth s (Lift p n reading) reads =
    let event : PointEvent = checks.lift_at s p n in
    let told = line_growth s p (line_of event (facts_of s p).state) event (facts_of s p) in
    omega (arith, told)
answer_growth s (Clear p id) reads = clear_growth (sale_of (key_named s p id) s.sales)
answer_growth s (ReadTransaction p id) reads = sale_growth (view_sale s p id)
answer_growth s (ReadProduct q) reads = product_growth s q (row_of q s.prices)
answer_growth s e reads = omega arith

pub growth_fits : (s : SiteState) (a : Actor) (e : Event)
    → growth_in_reply (reply_to s a e) ≤ GROWTH_LIMIT
growth_fits s a e =
    of_row (λ (r : Row) (after : SiteState). growth_in_reply r.reply ≤ GROWTH_LIMIT) s
    (row_to s a e) refl
    (λ refusal. omega arith)
    (λ passes. answer_growth s e passes.reads)
