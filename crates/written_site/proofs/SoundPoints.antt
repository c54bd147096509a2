-- Each point stays sound.
use Rattle.std.proofs.Common.{◌≡◌, ℕ, ◌+◌, ◌-◌, ◌<◌, ◌==◌, Bool, true, false, cond, List, [], ◌∷◌}
use Rattle.std.proofs.Common.{length, Option, option_and_then, Some, None, is_some, unwrap_or, ◌⊎◌}
use Rattle.std.proofs.Common.{inl, inr, refl, sym, ap, subst, ◌∙◌, arith}
use Rattle.std.proofs.lemmas.Bool.{and_parts}
use Rattle.std.proofs.lemmas.Bool.Decides.{nat_tests}
use Rattle.std.proofs.lemmas.Grind.{common_steps}
use Rattle.std.specs.FinMap as finite
use Rattle.site_base.specs.declared.actor.Actor.{Actor}
use Rattle.site_base.specs.declared.event.Event.{Event}
use Rattle.site_base.specs.declared.numbers.TheConstants.{GREATEST_SEQ}
use Rattle.site_base.specs.declared.amounts.TheConstants.{GREATEST_PRICE}
use Rattle.site_base.specs.declared.state.PointState.{PointState}
use Rattle.site_base.specs.Ranges.{is_between}
use Rattle.site_base.specs.Prices.{are_in_range}
use Rattle.site_base.specs.Table.{row_of}
use Rattle.fuelling_point.specs.declared.event.PointEvent.{PointEvent}
use Rattle.fuelling_point.specs.KeptPoints.{Facts, is_under_way, has_nozzle_out, volume_of}
use Rattle.fuelling_point.specs.Laws.{lifted_by}
use Rattle.fuelling_point.specs.Step.{step_of, after}
use Rattle.fuelling_point.specs.Whole.{IsWhole, is_released}
use Rattle.fuelling_point.proofs.Whole.{whole_accepted}
use Rattle.meters.specs.Nozzles.{Nozzle, has_nozzle, product_of, reading_of}
use Rattle.transaction_buffer.specs.Sales.{made_at}
use Rattle.written_site.specs.SiteState.{SiteState, facts_of, open_shift, price_at_start}
use Rattle.written_site.specs.SiteState.{reading_at_start}
use Rattle.written_site.specs.SiteChecks.{Passed, own_event, numbers, sale_room, may_sell}
use Rattle.written_site.specs.SiteStep.{accepted_site, nozzles_after, points_after, holds_after}
use Rattle.written_site.specs.SiteStep.{sales_after, drawn_after}
use Rattle.written_site.specs.Sound.{IsPointSound, IsPrice, MaySell, Sound}
use Rattle.written_site.specs.SoundSteps.{IsTaken}
use Rattle.written_site.specs.Volumes.{nozzle_out, running_at}
use Rattle.written_site.proofs.SoundTables.{told_once, facts_there, RowAfter, kept, done, row_after}
use Rattle.written_site.proofs.SoundMachine.{is_sale_release, out_after, sells_after, goes_on}
use Rattle.written_site.proofs.SoundMachine.{starts}
use Rattle.written_site.proofs.SoundMeters.{nozzle_after}
use Rattle.written_site.proofs.SoundReports.{IsRead, read_of, reading_elsewhere, reading_read}
use Rattle.written_site.proofs.SoundHolds.{held_after}
use Rattle.written_site.proofs.SoundDraws.{drawn_length}
use Rattle.written_site.proofs.SoundSales.{sells, SellsNoMore, counts_after}
use Rattle.written_site.proofs.SoundSold.{own_point}

-- a nozzle that is lifted is one of the point's
pub lifts : (s : SiteState) (e : Event) (q n : ℕ) (event : PointEvent) (old : Facts)
    → numbers s e ≡ None
    → own_event s e ≡ Some (q, event) → lifted_by event old.state ≡ Some n
    → has_nozzle q n s.nozzles ≡ true
lifts s e q n event old names own is = grind (arith, common_steps)

-- a fuelling that starts takes the last reading of the nozzle that is out, and today's price of its
-- product
pub start_own : (s : SiteState) (e : Event) (q : ℕ) (event : PointEvent) (old : Facts)
    → own_event s e ≡ Some (q, event) → facts_of s q ≡ old
    → is_under_way (after event old).state ≡ true → is_under_way old.state ≡ false
    → (after event old).start ≡ reading_at_start s q (after event old).out
start_own s e q event old own is under_way was = grind (arith, common_steps)

pub price_start : (s : SiteState) (e : Event) (q : ℕ) (event : PointEvent) (old : Facts)
    → own_event s e ≡ Some (q, event) → facts_of s q ≡ old
    → is_under_way (after event old).state ≡ true → is_under_way old.state ≡ false
    → (after event old).price ≡ price_at_start s q (after event old).out
price_start s e q event old own is under_way was = grind (arith, common_steps)

-- a point is released for a sale where it may make one
may_own : (s : SiteState) (e : Event) (q : ℕ) (event : PointEvent)
    → own_event s e ≡ Some (q, event) → sale_room s e ≡ None → is_sale_release event ≡ true
    → may_sell s q ≡ None
may_own s e q event own sells is = grind (arith, common_steps)

may_sell_is : (s : SiteState) (q : ℕ) → may_sell s q ≡ None → MaySell s q
may_sell_is s q may = record {
  unpaid = grind (arith, common_steps, nat_tests);
  number = grind (arith, common_steps, nat_tests);
}

-- ---- what the site's other facts say of a point

-- no sale is of a shift after the open one
abbrev pub NoneLater : SiteState → Type 0
NoneLater s = (q h : ℕ) → open_shift s < h → made_at q h s.sales ≡ 0

-- a point keeps its room where it makes no sale; a shift that a close opens has every number left
pub room_kept : (s : SiteState) (a : Actor) (e : Event) (q : ℕ) → NoneLater s
    → SellsNoMore q s.sales (sales_after s a e) → MaySell s q → MaySell (accepted_site s a e) q
room_kept s a e q order counts may =
    record {
      unpaid = omega (arith, counts.unpaid, may.unpaid);
      number = by_shift (drawn_length s e);
    }
  where
    open_then : ℕ
    open_then = length (drawn_after s e)

    by_shift : (open_then ≡ open_shift s) ⊎ (open_then ≡ open_shift s + 1)
        → made_at q open_then (sales_after s a e) < GREATEST_SEQ
    by_shift (inl still) =
        let made : made_at q open_then (sales_after s a e) ≡ made_at q (open_shift s) s.sales =
        counts.made open_then ∙ ap (λ (h : ℕ). made_at q h s.sales) still in
        omega (arith, made, may.number)
    by_shift (inr next) =
        let none : made_at q open_then (sales_after s a e) ≡ 0 =
        counts.made open_then ∙ order q open_then (omega (arith, next)) in
        omega (arith, none)

-- a nozzle that is out after the event is one of the point's
nozzle_own : (s : SiteState) (e : Event) (q n : ℕ) (event : PointEvent) → IsTaken s e
    → own_event s e ≡ Some (q, event) → IsPointSound s q (facts_of s q)
    → ((facts_of s q).out ≡ Some n) ⊎ (lifted_by event (facts_of s q).state ≡ Some n)
    → has_nozzle q n s.nozzles ≡ true
nozzle_own s e q n event taken own point (inl was) = point.nozzle n was
nozzle_own s e q n event taken own point (inr lifted) =
    lifts s e q n event (facts_of s q) taken.names own lifted

-- what a nozzle reads where a fuelling starts
pub reading_at : (s : SiteState) (q : ℕ) (out : Option ℕ) → is_some out ≡ true
    → reading_at_start s q out ≡ reading_of q (unwrap_or out 0) s.nozzles
reading_at s q None there = cc
reading_at s q (Some n) there = refl

-- a fuelling that goes on has a nozzle out
pub out_under_way : (state : PointState) → is_under_way state ≡ true → has_nozzle_out state ≡ true
out_under_way state is = grind (arith, common_steps)

-- no meter moves where a fuelling starts
pub started_still : (s : SiteState) (e : Event) (q : ℕ) (event : PointEvent)
    → own_event s e ≡ Some (q, event) → is_under_way (after event (facts_of s q)).state ≡ true
    → is_under_way (facts_of s q).state ≡ false → nozzles_after s e ≡ s.nozzles
started_still s e q event own under_way was = grind (arith, common_steps)

-- the volume since the start is what the meter has grown
pub flowed_read : (s : SiteState) (e : Event) (q : ℕ) (event : PointEvent) → IsRead s e
    → own_event s e ≡ Some (q, event) → IsWhole (facts_of s q)
    → (is_under_way (facts_of s q).state ≡ true
    → (facts_of s q).start + (facts_of s q).volume
    ≡ reading_of q (nozzle_out (facts_of s q)) s.nozzles)
    → IsWhole (after event (facts_of s q))
    → is_under_way (after event (facts_of s q)).state ≡ true
    → (after event (facts_of s q)).start + (after event (facts_of s q)).volume
    ≡ reading_of q (nozzle_out (after event (facts_of s q))) (nozzles_after s e)
flowed_read s e q event taken own was_whole flowed whole under_way =
    by_test (is_under_way (facts_of s q).state) refl
  where
    by_test : (b : Bool) → is_under_way (facts_of s q).state ≡ b
        → (after event (facts_of s q)).start + (after event (facts_of s q)).volume
        ≡ reading_of q (nozzle_out (after event (facts_of s q))) (nozzles_after s e)
    by_test true was =
        let on = goes_on event (facts_of s q) under_way was in
        let reads = reading_read s e q event taken own was_whole was in
        let start = flowed was in
        rw (on.start, on.volume, on.out) (omega (arith, reads, start))
    by_test false was =
        let new : Facts = after event (facts_of s q) in
        let begins = starts event (facts_of s q) under_way was in
        let start = start_own s e q event (facts_of s q) own refl under_way was in
        let out : is_some new.out ≡ true = whole.nozzle ∙ out_under_way new.state under_way in
        let reads = reading_at s q new.out out in
        let still : reading_of q (nozzle_out new) (nozzles_after s e)
        ≡ reading_of q (nozzle_out new) s.nozzles =
        ap (reading_of q (nozzle_out new)) (started_still s e q event own under_way was) in
        omega (arith, begins.volume, start, reads, still)

-- a price of the table is in range
price_found : (q m : ℕ) (prices : List (ℕ × ℕ)) → are_in_range prices ≡ true
    → row_of q prices ≡ Some m → IsPrice m
price_found q m [] all is = cc
price_found q m (e ∷ es) all is = by_test (e.0 == q) refl (price_found q m es parts.1)
  where
    parts : (is_between 1 GREATEST_PRICE e.1 ≡ true) × (are_in_range es ≡ true)
    parts = and_parts (is_between 1 GREATEST_PRICE e.1) (are_in_range es) all

    between : (n : ℕ) → is_between 1 GREATEST_PRICE n ≡ true → IsPrice n
    between n is = record { low = grind (arith, nat_tests); high = grind (arith, nat_tests) }

    by_test : (b : Bool) → (e.0 == q) ≡ b → (row_of q es ≡ Some m → IsPrice m) → IsPrice m
    by_test true at behind =
        let first : row_of q (e ∷ es) ≡ Some e.1 = rw at refl in
        subst IsPrice (told_once e.1 m (sym first ∙ is)) (between e.1 parts.0)
    by_test false at behind =
        let later : row_of q (e ∷ es) ≡ row_of q es = rw at refl in
        behind (sym later ∙ is)

price_in_range : (s : SiteState) (q : ℕ) (out : Option ℕ) → are_in_range s.prices ≡ true
    → IsPrice (price_at_start s q out)
price_in_range s q None all = record { low = omega arith; high = omega arith }
price_in_range s q (Some n) all = by_product (product_of q n s.nozzles)
  where
    by_price : (o : Option ℕ) (r : ℕ) → row_of r s.prices ≡ o → IsPrice (unwrap_or o 1)
    by_price None r is = record { low = omega arith; high = omega arith }
    by_price (Some m) r is = price_found r m s.prices all is

    by_product : (o : Option ℕ) → IsPrice (unwrap_or (option_and_then (λ r. row_of r s.prices) o) 1)
    by_product None = record { low = omega arith; high = omega arith }
    by_product (Some r) = by_price (row_of r s.prices) r refl

-- the price that a fuelling under way took
price_own : (s : SiteState) (e : Event) (q : ℕ) (event : PointEvent) → Sound s
    → own_event s e ≡ Some (q, event) → IsPointSound s q (facts_of s q)
    → is_under_way (after event (facts_of s q)).state ≡ true
    → IsPrice (after event (facts_of s q)).price
price_own s e q event sound own point under_way = by_test (is_under_way (facts_of s q).state) refl
  where
    by_test : (b : Bool) → is_under_way (facts_of s q).state ≡ b
        → IsPrice (after event (facts_of s q)).price
    by_test true was =
        let on = goes_on event (facts_of s q) under_way was in
        subst IsPrice (sym on.price) (point.price was)
    by_test false was =
        let new : Facts = after event (facts_of s q) in
        subst IsPrice (sym (price_start s e q event (facts_of s q) own refl under_way was))
        (price_in_range s q new.out sound.prices)

-- a point that is released after an event has sold nothing in it
released_unsold : (event : PointEvent) (f : Facts) → is_released (after event f).state ≡ true
    → sells (step_of event f) ≡ false
released_unsold event f is = grind (arith, common_steps)

-- an event is one thing to its point
one_event : (s : SiteState) (e : Event) (q : ℕ) (event other : PointEvent)
    → own_event s e ≡ Some (q, event) → own_event s e ≡ Some (q, other) → event ≡ other
one_event s e q event other own again =
    ap (λ (x : ℕ × PointEvent). x.1) (told_once (q, event) (q, other) (sym own ∙ again))

-- a point that is released for a sale may make one
pub room_own : (s : SiteState) (a : Actor) (e : Event) (q : ℕ) (event : PointEvent) → NoneLater s
    → Passed s a e → own_event s e ≡ Some (q, event) → IsWhole (facts_of s q)
    → (is_released (facts_of s q).state ≡ true → (facts_of s q).test ≡ false → MaySell s q)
    → is_released (after event (facts_of s q)).state ≡ true
    → (after event (facts_of s q)).test ≡ false → MaySell (accepted_site s a e) q
room_own s a e q event order passed own whole room released sale =
    room_kept s a e q order counts (by_test (is_sale_release event) refl)
  where
    counts : SellsNoMore q s.sales (sales_after s a e)
    counts = counts_after s a e q (λ other again.
        ap (λ (x : PointEvent). sells (step_of x (facts_of s q)))
        (sym (one_event s e q event other own again))
        ∙ released_unsold event (facts_of s q) released)

    by_test : (b : Bool) → is_sale_release event ≡ b → MaySell s q
    by_test true is = may_sell_is s q (may_own s e q event own passed.sells is)
    by_test false other =
        let was = sells_after event (facts_of s q) whole other released sale in
        room was.0 was.1

-- ---- a point that the event isn't of

-- nothing that it keeps changes, nor anything of the site that its facts speak of
kept_point : (s : SiteState) (a : Actor) (e : Event) (q : ℕ) (f : Facts) → NoneLater s
    → IsPointSound s q f → ((event : PointEvent) → own_event s e ≡ Some (q, event) → ⊥)
    → (is_released f.state ≡ true → is_some (finite.get (holds_after s a e) q) ≡ true)
    → IsPointSound (accepted_site s a e) q f
kept_point s a e q f order point away held =
    let counts = counts_after s a e q (λ event own. absurd (away event own)) in
    record {
      whole = point.whole;
      nozzle = λ n out. nozzle_after s e q n ∙ point.nozzle n out;
      held = held;
      flowed = λ under_way. point.flowed under_way
          ∙ sym (reading_elsewhere s e q (nozzle_out f) away);
      price = point.price;
      room = λ released sale. room_kept s a e q order counts (point.room released sale);
    }

-- ---- the event's own point

done_point : (s : SiteState) (a : Actor) (e : Event) (q : ℕ) (event : PointEvent) → Sound s
    → Passed s a e → IsTaken s e → own_event s e ≡ Some (q, event)
    → (is_released (after event (facts_of s q)).state ≡ true
    → is_some (finite.get (holds_after s a e) q) ≡ true)
    → IsPointSound (accepted_site s a e) q (after event (facts_of s q))
done_point s a e q event sound passed taken own held =
    let old : Facts = facts_of s q in
    let own_is = own_point s e q event sound taken own in
    let point = own_is.sound in
    let whole = whole_accepted event old point.whole own_is.taken in
    record {
      whole = whole;
      nozzle = λ n out. nozzle_after s e q n
          ∙ nozzle_own s e q n event taken own point (out_after event old n out);
      held = held;
      flowed = λ under_way. flowed_read s e q event
          (read_of s e taken) own point.whole point.flowed whole
          under_way;
      price = λ under_way. price_own s e q event sound own point under_way;
      room = λ released sale. room_own s a e q event sound.order passed own point.whole
          point.room released sale;
    }

-- ---- every point

pub point_after : (s : SiteState) (a : Actor) (e : Event) → Sound s → Passed s a e → IsTaken s e
    → (q : ℕ) (f : Facts) → row_of q (points_after s e) ≡ Some f
    → IsPointSound (accepted_site s a e) q f
point_after s a e sound passed taken q f is = by_row (row_after s.points (own_event s e) q f is)
  where
    held : is_released f.state ≡ true → is_some (finite.get (holds_after s a e) q) ≡ true
    held = held_after s a e passed (λ p g row. (sound.points p g row).held) q f is

    by_row : RowAfter s.points (own_event s e) q f → IsPointSound (accepted_site s a e) q f
    by_row (kept row away) = kept_point s a e q f sound.order (sound.points q f row) away held
    by_row (done event old own row made) =
        let facts : after event (facts_of s q) ≡ f =
        ap (after event) (facts_there s.points q old row) ∙ sym made in
        subst (IsPointSound (accepted_site s a e) q) facts
        (done_point s a e q event sound passed taken own (λ released.
        held (ap (λ (g : Facts). is_released g.state) (sym facts) ∙ released)))

-- ---- the volume of a fuelling under way is what its meter has grown since its start

pub run_is_volume : (nozzles : List Nozzle) (p : ℕ) (f : Facts)
    → (is_under_way f.state ≡ true → f.start + f.volume ≡ reading_of p (nozzle_out f) nozzles)
    → running_at nozzles p f ≡ volume_of f
run_is_volume nozzles p f grown = by_test (is_under_way f.state) refl
  where
    by_test : (b : Bool) → is_under_way f.state ≡ b
        → cond b (reading_of p (nozzle_out f) nozzles - f.start) 0 ≡ cond b f.volume 0
    by_test true is = let since = grown is in omega arith
    by_test false is = refl

pub run_after : (s : SiteState) (e : Event) → Sound s → IsTaken s e → (q : ℕ) (f : Facts)
    → row_of q (points_after s e) ≡ Some f → running_at (nozzles_after s e) q f ≡ volume_of f
run_after s e sound taken q f is = by_row (row_after s.points (own_event s e) q f is)
  where
    by_row : RowAfter s.points (own_event s e) q f
        → running_at (nozzles_after s e) q f ≡ volume_of f
    by_row (kept row away) = run_is_volume (nozzles_after s e) q f (λ under_way.
        (sound.points q f row).flowed under_way ∙ sym (reading_elsewhere s e q (nozzle_out f) away))
    by_row (done event old own row made) =
        let own_is = own_point s e q event sound taken own in
        let whole = whole_accepted event (facts_of s q) own_is.sound.whole own_is.taken in
        let facts : after event (facts_of s q) ≡ f =
        ap (after event) (facts_there s.points q old row) ∙ sym made in
        subst (λ (g : Facts). running_at (nozzles_after s e) q g ≡ volume_of g) facts
        (run_is_volume (nozzles_after s e) q (after event (facts_of s q))
        (flowed_read s e q event (read_of s e taken) own own_is.sound.whole own_is.sound.flowed
        whole))
