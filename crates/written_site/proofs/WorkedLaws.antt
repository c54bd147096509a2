-- The laws at work on a day of the known site: diesel is sold at point 1 while its price changes,
-- till 1 locks the sale and lets it go, till 2 locks it and clears it, and the shift is closed. No
-- law is empty: each has its premise met here.
use Rattle.std.proofs.Common.{◌≡◌, ◌≢◌, ℕ, ◌+◌, true, false, List, [], ◌∷◌, ◌++◌, Some, Ok, is_some}
use Rattle.std.proofs.Common.{refl, sym, ap, arith, option_map, ◌∙◌, None, subst}
use Rattle.std.proofs.lemmas.Bool.Decides.{nat_tests}
use Rattle.std.specs.List.{list_any}
use Rattle.site_base.specs.declared.answer.Answer.TheVariants.{Done, Start, Flowed, Sold, Drawn}
use Rattle.site_base.specs.declared.answer.Answer.TheVariants.{Stopped, Locked, Unlocked, Cleared}
use Rattle.site_base.specs.declared.answer.Answer.TheVariants.{ShiftClosed}
use Rattle.site_base.specs.declared.event.Event.TheVariants.{SignOn, Open, Release, Prepay}
use Rattle.site_base.specs.declared.event.Event.TheVariants.{TestRelease, Lock, Unlock, Clear}
use Rattle.site_base.specs.declared.event.Event.TheVariants.{SetPrice, CloseShift, Lift, Flow}
use Rattle.site_base.specs.declared.event.Event.TheVariants.{HangUp, SignOff, Close, Terminate}
use Rattle.site_base.specs.declared.event.Event.TheVariants.{ReplaceMeter}
use Rattle.site_base.specs.declared.row.Row.{Row}
use Rattle.site_base.specs.declared.state.Preset.TheVariants.{Unset, Money}
use Rattle.site_base.specs.declared.state.Status.TheVariants as statuses
use Rattle.fuelling_point.specs.declared.event.PointEvent.TheVariants as points
use Rattle.fuelling_point.specs.History.{point_after}
use Rattle.fuelling_point.specs.KeptPoints.{Facts}
use Rattle.fuelling_point.specs.Step.{step_of}
use Rattle.meters.specs.MeteredVolumes.{every_product, metered_by, product_total}
use Rattle.meters.specs.Nozzles.{Nozzle, nozzle_of}
use Rattle.transaction_buffer.specs.Sales.{Key, key, Sale, sale_of}
use Rattle.transaction_buffer.specs.Sums.{volume_by}
use Rattle.transaction_buffer.specs.TransactionTable.{locker_of}
use Rattle.site_base.specs.declared.state.PointState.TheVariants.{Idle}
use Rattle.written_site.proofs.SoundTables.{told_once}
use Rattle.written_site.proofs.TestLaws.{tests_apart}
use Rattle.written_site.specs.TestLaws.{IsReleasedAs}
use Rattle.written_site.specs.FuellingLaws.{IsKeptAsRead, IsPricedAtStart}
use Rattle.written_site.specs.FuellingWords.{price_read}
use Rattle.written_site.specs.FitLaws.{HasFitFigures}
use Rattle.written_site.specs.Histories.{Moment, moments_after, moments_of}
use Rattle.written_site.specs.MeterLaws.{read_after}
use Rattle.written_site.specs.NumberLaws.{sells_in}
use Rattle.written_site.specs.PointLaws.{own_events}
use Rattle.written_site.specs.RowWords.{count}
use Rattle.written_site.specs.SaleWords.{locks_sale, lets_go, ends_lock, clears_sale}
use Rattle.written_site.specs.ShiftFigures.{clears_in, cents_in, cleared_in, shift_drawn}
use Rattle.written_site.specs.SiteRun.{site_of_rows, IsLegal}
use Rattle.written_site.specs.SiteState.{SiteState, opening, facts_of, is_signed_on, open_shift}
use Rattle.written_site.specs.SiteStep.{site_after, step_told}
use Rattle.written_site.specs.Slots.{IsLastTake}
use Rattle.written_site.specs.Sound.{IsFit}
use Rattle.written_site.specs.Volumes.{running_volume, adjusted_volume}
use Rattle.written_site.proofs.ClearedLaws.{volumes_cleared}
use Rattle.written_site.proofs.DrawLaws.{draws_counted}
use Rattle.written_site.proofs.FitLaws.{every_figure_fits}
use Rattle.written_site.proofs.FuellingLaws.{sales_kept, priced_at_start}
use Rattle.written_site.proofs.LockLaws.{locked_by_one, cleared_once}
use Rattle.written_site.proofs.MeterLaws.{meters_read}
use Rattle.written_site.proofs.NumberLaws.{numbered}
use Rattle.written_site.proofs.PointLaws.{points_their_own}
use Rattle.written_site.proofs.ShiftLaws.{clears_counted}
use Rattle.written_site.proofs.SigningLaws.{signed_on_by_rows, shift_by_rows}
use Rattle.written_site.proofs.SlotRows.{moment_at}
use Rattle.written_site.proofs.VolumeLaws.{volumes_conserved}
use Rattle.written_site.proofs.WorkedReplies.{legal, kit, leads, site_on}
use Rattle.written_site.proofs.WorkedRows.{known_site, t1, t2, d1, sale}

-- the price of diesel is raised while it flows, and the sale is told
abbrev fuelled : List Row
fuelled =
    t1 SignOn (Ok Done)
    ∷ t2 SignOn (Ok Done)
    ∷ t1 (Open 1) (Ok Done)
    ∷ t1 (Release 1 Unset) (Ok Done)
    ∷ d1 (Lift 1 1 0) (Ok (Start Unset 1500))
    ∷ t1 (SetPrice 1 1600) (Ok Done)
    ∷ []

abbrev sells : Row
sells = d1 (HangUp 1 1 10000) (Ok (Sold 1 10000))

abbrev locks_1 : Row
locks_1 = t1 (Lock 1 (sale 1)) (Ok Locked)

abbrev unlocks_1 : Row
unlocks_1 = t1 (Unlock 1 (sale 1)) (Ok Unlocked)

abbrev locks_2 : Row
locks_2 = t2 (Lock 1 (sale 1)) (Ok Locked)

abbrev clears_2 : Row
clears_2 = t2 (Clear 1 (sale 1)) (Ok (Cleared 1500))

abbrev closes : Row
closes = t1 CloseShift (Ok (ShiftClosed 1))

abbrev day : List Row
day = fuelled ++ sells ∷ locks_1 ∷ unlocks_1 ∷ locks_2 ∷ clears_2 ∷ closes ∷ []

day_is_legal : IsLegal (opening known_site) day
day_is_legal = legal (opening known_site) day (simp kit)

-- the site after the day, and the name of the sale
abbrev evening : SiteState
evening = site_of_rows (opening known_site) day

abbrev first_sale : Key
first_sale = key 1 1 1

-- the moments before a row of the day, the row's own, and those after it
abbrev so_far : List Row → List Moment
so_far rows = moments_of known_site rows

abbrev here : List Row → Row → Moment
here earlier r = moment_at earlier (site_of_rows (opening known_site) earlier) r

abbrev then_on : List Row → Row → List Row → List Moment
then_on earlier r later =
    moments_after (earlier ++ r ∷ []) (site_after
    (site_of_rows (opening known_site) earlier) r.actor r.event)
    later

-- ---- who is signed on, and which shift is open

till_2_is_on : is_signed_on evening 2 ≡ true
till_2_is_on = (signed_on_by_rows known_site day day_is_legal).each 2

till_3_isn't : is_signed_on evening 3 ≡ false
till_3_isn't = (signed_on_by_rows known_site day day_is_legal).each 3

shift_2_is_open : open_shift evening ≡ 2
shift_2_is_open = (shift_by_rows known_site day day_is_legal).shift

-- ---- one locker, one clear

differ : ◌≢◌ {A = ℕ} 1 2
differ same = grind (arith, nat_tests)

abbrev to_lock_1 : List Row
to_lock_1 = fuelled ++ sells ∷ []

abbrev to_lock_2 : List Row
to_lock_2 = fuelled ++ sells ∷ locks_1 ∷ unlocks_1 ∷ []

abbrev to_clear : List Row
to_clear = fuelled ++ sells ∷ locks_1 ∷ unlocks_1 ∷ locks_2 ∷ []

let_go_between : list_any (lets_go first_sale 1) (here (to_lock_1 ++ locks_1 ∷ []) unlocks_1 ∷ [])
    ≡ true
let_go_between =
    (locked_by_one known_site day day_is_legal).one first_sale 1 2 (so_far to_lock_1)
    (here (to_lock_1 ++ locks_1 ∷ []) unlocks_1 ∷ [])
    (then_on to_lock_2 locks_2 (clears_2 ∷ closes ∷ []))
    (here to_lock_1 locks_1) (here to_lock_2 locks_2) refl refl refl differ

cleared_by_its_locker : IsLastTake (locks_sale first_sale) (ends_lock first_sale) 2
    (so_far to_clear)
cleared_by_its_locker =
    (cleared_once known_site day day_is_legal).locked first_sale 2 (so_far to_clear)
    (then_on to_clear clears_2 (closes ∷ [])) (here to_clear clears_2) refl refl

not_cleared_again : list_any (λ x. is_some (clears_sale first_sale x))
    (then_on to_clear clears_2 (closes ∷ [])) ≡ false
not_cleared_again =
    (cleared_once known_site day day_is_legal).once first_sale 2 (so_far to_clear)
    (then_on to_clear clears_2 (closes ∷ [])) (here to_clear clears_2) refl refl

-- ---- numbers and room

its_number : ◌≡◌ {A = ℕ} 1 (count (sells_in 1 1) (so_far fuelled) + 1)
its_number =
    (numbered known_site day day_is_legal).next first_sale (so_far fuelled)
    (then_on fuelled sells (locks_1 ∷ unlocks_1 ∷ locks_2 ∷ clears_2 ∷ closes ∷ []))
    (here fuelled sells) refl refl

-- ---- the sale, as its fuelling was told

stands_in_the_evening : IsKeptAsRead known_site (so_far fuelled)
    (here fuelled sells) first_sale evening
stands_in_the_evening =
    (sales_kept known_site day day_is_legal).stands first_sale (so_far fuelled)
    (then_on fuelled sells (locks_1 ∷ unlocks_1 ∷ locks_2 ∷ clears_2 ∷ closes ∷ []))
    (here fuelled sells) refl refl

at_the_price_of_its_start :
    IsPricedAtStart known_site 1 (so_far fuelled) stands_in_the_evening.sale.price
at_the_price_of_its_start =
    (priced_at_start known_site day day_is_legal).priced first_sale (so_far fuelled)
    (then_on fuelled sells (locks_1 ∷ unlocks_1 ∷ locks_2 ∷ clears_2 ∷ closes ∷ []))
    (here fuelled sells) stands_in_the_evening.sale refl refl stands_in_the_evening.there

-- the price that the rows tell before the lift, and after the price was raised
price_before : price_read known_site 1 1
    (t1 SignOn (Ok Done) ∷ t2 SignOn (Ok Done) ∷ t1 (Open 1) (Ok Done)
    ∷ t1 (Release 1 Unset) (Ok Done) ∷ []) ≡ 1500
price_before = refl

price_raised : price_read known_site 1 1 fuelled ≡ 1600
price_raised = refl

answered_with_its_cents : clears_2.reply ≡ Ok (Cleared stands_in_the_evening.sale.cents)
answered_with_its_cents =
    (sales_kept known_site day day_is_legal).cleared first_sale 2 (so_far to_clear)
    (then_on to_clear clears_2 (closes ∷ [])) (here to_clear clears_2) stands_in_the_evening.sale
    refl
    refl stands_in_the_evening.there

-- a prepaid sale is locked for the till that took the money, by the row that sells it
abbrev paid : List Row
paid =
    t1 SignOn (Ok Done)
    ∷ t1 (Open 1) (Ok Done)
    ∷ t1 (Prepay 1 2000) (Ok Done)
    ∷ d1 (Lift 1 1 0) (Ok (Start (Money 2000) 1500))
    ∷ []

paid_is_legal : IsLegal (opening known_site) (paid ++ sells ∷ [])
paid_is_legal = legal (opening known_site) (paid ++ sells ∷ []) (simp kit)

locked_as_sold : locker_of first_sale (site_of_rows (opening known_site) (paid ++ sells ∷ [])).sales
    ≡ Some 1
locked_as_sold =
    ((locked_by_one known_site (paid ++ sells ∷ []) paid_is_legal).unended first_sale 1).1
    (record {
      before = so_far paid;
      take = here paid sells;
      since = [];
      parts = refl;
      taken = refl;
      unended = refl;
    })

-- ---- meters, volumes and figures

meter_reads : read_after known_site 1 1 day ≡ 10000
meter_reads = refl

nozzle_reads : (x : Nozzle) → nozzle_of 1 1 evening.nozzles ≡ Some x → x.last ≡ 10000
nozzle_reads x is = ((meters_read known_site day day_is_legal).nozzles 1 1 x is).last

all_is_metered : metered_by every_product evening.nozzles ≡ 10000
all_is_metered = sym (volumes_conserved known_site day day_is_legal).grown

diesel_is_metered : product_total 1 evening.nozzles ≡ 10000
diesel_is_metered = (volumes_conserved known_site day day_is_legal).metered 1

diesel_is_conserved : ◌≡◌ {A = ℕ} 10000
    (running_volume evening 1 + volume_by 1 statuses.Payable evening.sales
    + volume_by 1 statuses.Locked evening.sales + volume_by 1 statuses.Cleared evening.sales
    + adjusted_volume evening 1)
diesel_is_conserved =
    (volumes_conserved known_site day day_is_legal).conserved 1 (omega arith) (omega arith)

till_2_cleared_once : clears_in 1 2 evening.sales ≡ 1
till_2_cleared_once = (clears_counted known_site day day_is_legal).clears 1 2

till_2_cleared_cents : cents_in 1 2 evening.sales ≡ 1500
till_2_cleared_cents = (clears_counted known_site day day_is_legal).cents 1 2

none_in_shift_2 : clears_in 2 2 evening.sales ≡ 0
none_in_shift_2 = (clears_counted known_site day day_is_legal).clears 2 2

diesel_cleared : cleared_in 1 1 evening.sales ≡ 10000
diesel_cleared = (volumes_cleared known_site day day_is_legal).cleared 1 1

-- a test of diesel at point 1 is drawn in shift 2, which the closed one precedes
abbrev tested : List Row
tested =
    t1 SignOn (Ok Done)
    ∷ t1 (Open 1) (Ok Done)
    ∷ t1 CloseShift (Ok (ShiftClosed 1))
    ∷ t1 (TestRelease 1) (Ok Done)
    ∷ d1 (Lift 1 1 0) (Ok (Start Unset 1500))
    ∷ d1 (Flow 1 1 4000) (Ok (Flowed 4000))
    ∷ d1 (HangUp 1 1 5000) (Ok (Drawn 1000))
    ∷ []

tested_is_legal : IsLegal (opening known_site) tested
tested_is_legal = legal (opening known_site) tested (simp kit)

drawn_in_shift_2 : shift_drawn (site_of_rows (opening known_site) tested) 2 1 ≡ 5000
drawn_in_shift_2 =
    (draws_counted known_site tested tested_is_legal).shifts 2 1 (omega arith) (omega arith)

none_drawn_in_shift_1 : shift_drawn (site_of_rows (opening known_site) tested) 1 1 ≡ 0
none_drawn_in_shift_1 =
    (draws_counted known_site tested tested_is_legal).shifts 1 1 (omega arith) (omega arith)

what_was_drawn : ◌≡◌ {A = ℕ} 5000
    (running_volume (site_of_rows (opening known_site) tested) 1
    + volume_by 1 statuses.Payable (site_of_rows (opening known_site) tested).sales
    + volume_by 1 statuses.Locked (site_of_rows (opening known_site) tested).sales
    + volume_by 1 statuses.Cleared (site_of_rows (opening known_site) tested).sales
    + adjusted_volume (site_of_rows (opening known_site) tested) 1)
what_was_drawn =
    (volumes_conserved known_site tested tested_is_legal).conserved 1 (omega arith) (omega arith)

-- legal rows lead to the site that they tell of
led : (s : SiteState) (rows : List Row) → IsLegal s rows → site_of_rows s rows ≡ site_on s rows
led s [] legal = refl
led s (r ∷ rs) legal =
    led (site_after s r.actor r.event) rs legal.1
    ∙ ap (λ x. site_on x rs) (sym (leads s r legal.0))

-- so is the point what its own events make of a new one: idle again
idle_again : (point_after (own_events 1 (moments_of known_site tested))).state ≡ Idle
idle_again =
    sym (ap (λ (f : Facts). f.state)
    ((points_their_own known_site tested tested_is_legal).facts 1))
    ∙ ap (λ (s : SiteState). (facts_of s 1).state)
    (led (opening known_site) tested tested_is_legal)

-- the price of the sale is the one that the rows tell before its lift
price_in_the_evening : option_map (λ (x : Sale). x.price) (sale_of first_sale evening.sales)
    ≡ Some 1500
price_in_the_evening =
    ap (λ (s : SiteState). option_map (λ (x : Sale). x.price) (sale_of first_sale s.sales))
    (led (opening known_site) day day_is_legal) ∙ simp kit

at_1500 : IsPricedAtStart known_site 1 (so_far fuelled) 1500
at_1500 =
    subst (IsPricedAtStart known_site 1 (so_far fuelled))
    (told_once stands_in_the_evening.sale.price 1500
    (sym (ap (option_map (λ (x : Sale). x.price)) stands_in_the_evening.there)
    ∙ price_in_the_evening))
    at_the_price_of_its_start

-- two sales of a shift, before and after a meter was replaced
abbrev replaced : List Row
replaced =
    t1 SignOn (Ok Done)
    ∷ t1 (Open 1) (Ok Done)
    ∷ t1 (Release 1 Unset) (Ok Done)
    ∷ d1 (Lift 1 1 0) (Ok (Start Unset 1500))
    ∷ d1 (HangUp 1 1 5000) (Ok (Sold 1 5000))
    ∷ t1 (Close 1) (Ok Done)
    ∷ t1 (ReplaceMeter 1 1 7) (Ok Done)
    ∷ t1 (Open 1) (Ok Done)
    ∷ t1 (Release 1 Unset) (Ok Done)
    ∷ d1 (Lift 1 1 7) (Ok (Start Unset 1500))
    ∷ []

abbrev sells_again : Row
sells_again = d1 (HangUp 1 1 1007) (Ok (Sold 2 1000))

replaced_is_legal : IsLegal (opening known_site) (replaced ++ sells_again ∷ [])
replaced_is_legal = legal (opening known_site) (replaced ++ sells_again ∷ []) (simp kit)

second_number : ◌≡◌ {A = ℕ} 2 (count (sells_in 1 1) (so_far replaced) + 1)
second_number =
    (numbered known_site (replaced ++ sells_again ∷ []) replaced_is_legal).next (key 1 1 2)
    (so_far replaced) [] (here replaced sells_again) refl refl

both_meters : product_total 1
    (site_of_rows (opening known_site) (replaced ++ sells_again ∷ [])).nozzles ≡ 6000
both_meters =
    (volumes_conserved known_site (replaced ++ sells_again ∷ []) replaced_is_legal).metered 1

-- a prepaid sale of a till that has signed off is locked by no row
abbrev paid_and_off : List Row
paid_and_off =
    t1 SignOn (Ok Done)
    ∷ t2 SignOn (Ok Done)
    ∷ t1 (Open 1) (Ok Done)
    ∷ t2 (Prepay 1 2000) (Ok Done)
    ∷ t2 SignOff (Ok Done)
    ∷ d1 (Lift 1 1 0) (Ok (Start (Money 2000) 1500))
    ∷ []

off_is_legal : IsLegal (opening known_site) (paid_and_off ++ sells ∷ [])
off_is_legal = legal (opening known_site) (paid_and_off ++ sells ∷ []) (simp kit)

locked_by_none : locks_sale first_sale (here paid_and_off sells) ≡ None
locked_by_none = refl

-- it isn't a test, and a test isn't sold
a_sale : IsReleasedAs false 1 paid_and_off
a_sale =
    (tests_apart known_site (paid_and_off ++ sells ∷ []) off_is_legal).sold first_sale
    (so_far paid_and_off) [] (here paid_and_off sells) refl refl

known_site_is_fit : IsFit known_site
known_site_is_fit = record { site = refl; products = refl; prices = refl; readings = refl }

figures_fit_in_the_evening : HasFitFigures evening
figures_fit_in_the_evening =
    every_figure_fits known_site day day_is_legal known_site_is_fit
    (tt, (tt, (tt, (tt, (omega arith, (tt, (omega arith, (tt, (tt, (tt, (tt, (tt, tt))))))))))))

-- a release is taken back, and answered as the point's table says
abbrev released : List Row
released = t1 SignOn (Ok Done) ∷ t1 (Open 1) (Ok Done) ∷ t1 (Release 1 Unset) (Ok Done) ∷ []

abbrev terminates : Row
terminates = t1 (Terminate 1) (Ok Stopped)

taken_back_is_legal : IsLegal (opening known_site) (released ++ terminates ∷ [])
taken_back_is_legal = legal (opening known_site) (released ++ terminates ∷ []) (simp kit)

taken_back : terminates.reply ≡ Ok (step_told (site_of_rows (opening known_site) released) 1 0
    (step_of points.Terminate (point_after (own_events 1 (so_far released)))))
taken_back =
    (points_their_own known_site (released ++ terminates ∷ []) taken_back_is_legal).answers 1
    (so_far released) [] (here released terminates) points.Terminate refl refl refl
