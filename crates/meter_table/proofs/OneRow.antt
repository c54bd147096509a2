-- What one row does at a nozzle, told by the readings and the fuelling before and after it.
use Rattle.std.proofs.Common.{◌≡◌, ℕ, ◌+◌, ◌-◌, ◌≤◌, ◌==◌, ◌&&◌, Bool, true, false}
use Rattle.std.proofs.Common.{List, [], ◌∷◌, Option, Some, None, refl, ap, sym, ◌∙◌, arith}
use Rattle.std.specs.Prelude.{if◌then◌else◌, is_none, is_ok, option_map, unwrap_or}
use Rattle.std.proofs.lemmas.Bool.{and_parts, false≢true}
use Rattle.std.proofs.lemmas.Bool.Decides.{nat_tests}
use Rattle.std.proofs.lemmas.Grind.{common_steps}
use Rattle.site_base.specs.declared.actor.Actor.{Actor}
use Rattle.site_base.specs.declared.event.Event.{Event}
use Rattle.site_base.specs.declared.event.Event.TheVariants.{Flow, HangUp, ReplaceMeter}
use Rattle.site_base.specs.declared.refusal.Refusal.{Refusal}
use Rattle.site_base.specs.declared.row.Row.{Row}
use Rattle.site_base.specs.Checks.{reply_or, value_or}
use Rattle.site_base.specs.Events.{point_named}
use Rattle.fuelling_point.specs.declared.event.PointEvent.{PointEvent}
use Rattle.fuelling_point.specs.KeptPoints.{Facts, is_under_way}
use Rattle.fuelling_point.specs.Laws.{drawn_in, sold_in}
use Rattle.fuelling_point.specs.Step.{step_of}
use Rattle.meters.specs.Nozzles.{Nozzle, has_nozzle, nozzle_of, reading_of, replaced_at, read_at}
use Rattle.meters.specs.Nozzles.{times_replaced, with_nozzle}
use Rattle.meters.proofs.Lookups.{KeepsName, nozzle_of-here, nozzle_of-other, there}
use Rattle.written_site.specs.MeterLaws.{is_its, read_said, replace_said}
use Rattle.written_site.specs.SiteChecks.{first_refusal, own_event}
use Rattle.written_site.specs.SiteState.{SiteState, facts_of}
use Rattle.written_site.specs.SiteStep.{accepted_site, nozzles_after, reply_to}
use Rattle.written_site.specs.SiteStep.{site_after, site_answer, step_by}
use Rattle.written_site.specs.Sound.{InRange, Sound}
use Rattle.written_site.specs.Volumes.{nozzle_out, running_at}
use Rattle.written_site.proofs.FuellingMoves.{own_named}
use Rattle.written_site.proofs.PassedChecks.{passed}
use Rattle.written_site.proofs.PointAfter.{FactsAfter, facts_after, moves, stays}
use Rattle.written_site.proofs.SoundMeters.{nozzle_after, read_keeps, replaced_keeps}
use Rattle.written_site.proofs.SoundReports.{reading_elsewhere}
use Rattle.written_site.proofs.SoundTables.{itself, same}
use Rattle.nozzle_figures.specs.Laws.{AddsUp}
use Rattle.nozzle_figures.specs.NozzleMoves.{by_nozzle, drawing, falling, flowing, is_of_nozzle}
use Rattle.nozzle_figures.specs.NozzleMoves.{is_out, of_accepted, rising, running_by_nozzle}
use Rattle.nozzle_figures.specs.NozzleMoves.{selling}
use Rattle.nozzle_figures.proofs.NozzleMoves.{each_nozzle_adds_up, none_of, nothing_by}
use Rattle.row_tally.specs.Readings.{is_of_meter, refusal_told}
use Rattle.meter_table.specs.Counting.{is_of_point}
use Rattle.meter_table.specs.Figures.{refused_in, refused_reading}
use Rattle.meter_table.specs.Figures.{replacing}

-- ---- the reply

pub accepted_told : (s : SiteState) (a : Actor) (e : Event)
    → is_ok (reply_to s a e) ≡ is_none (first_refusal s a e)
accepted_told s a e = by_refusal (first_refusal s a e)
  where
    by_refusal : (o : Option Refusal)
        → is_ok (reply_or o (site_answer s e)) ≡ is_none o
    by_refusal None = refl
    by_refusal (Some refusal) = refl

pub refusal_is : (s : SiteState) (a : Actor) (e : Event)
    → refusal_told (reply_to s a e) ≡ first_refusal s a e
refusal_is s a e = by_refusal (first_refusal s a e)
  where
    by_refusal : (o : Option Refusal) → refusal_told (reply_or o (site_answer s e)) ≡ o
    by_refusal None = refl
    by_refusal (Some refusal) = refl

pub refused_told : (p n : ℕ) (s : SiteState) (r : Row) → r.reply ≡ reply_to s r.actor r.event
    → refused_in p n r ≡ refused_reading p n s r
refused_told p n s r replies =
    ap (λ (o : Option Refusal). if is_of_meter o then read_said p n r.event else None)
    (ap refusal_told replies ∙ refusal_is s r.actor r.event)

-- ---- replacements

-- what a row counts that replaces the meter
record IsReplaced (p n : ℕ) (s : SiteState) (e : Event) (ok : Bool) : Type 0 where
  pub flows : (if ok then flowing p n s e else 0) ≡ 0
  pub begins : ℕ
  pub rises : (if ok then rising p n s e else 0) ≡ begins - reading_of p n s.nozzles
  pub falls : (if ok then falling p n s e else 0) ≡ reading_of p n s.nozzles - begins
  pub counts : (if ok then replacing p n s e else 0) ≡ 1

is_replaced : (p n : ℕ) (s : SiteState) (e : Event) (ok : Bool)
    → (ok && replace_said p n e) ≡ true → IsReplaced p n s e ok
is_replaced p n s (ReplaceMeter q m reading) true its = record {
  flows = nothing_by p n s (ReplaceMeter q m reading);
  begins = reading;
  rises = ap (λ (b : Bool). if b then reading - reading_of p n s.nozzles else 0) its;
  falls = ap (λ (b : Bool). if b then reading_of p n s.nozzles - reading else 0) its;
  counts = ap (λ (b : Bool). if b then 1 else 0) its;
}
is_replaced p n s e true its = absurd (false≢true its)
is_replaced p n s e false its = absurd (false≢true its)

-- any other row counts nothing of it
record IsKept (p n : ℕ) (s : SiteState) (e : Event) (ok : Bool) : Type 0 where
  pub rises : (if ok then rising p n s e else 0) ≡ 0
  pub falls : (if ok then falling p n s e else 0) ≡ 0
  pub counts : (if ok then replacing p n s e else 0) ≡ 0

is_kept : (p n : ℕ) (s : SiteState) (e : Event) (ok : Bool)
    → (ok && replace_said p n e) ≡ false → IsKept p n s e ok
is_kept p n s (ReplaceMeter q m reading) true its = record {
  rises = ap (λ (b : Bool). if b then reading - reading_of p n s.nozzles else 0) its;
  falls = ap (λ (b : Bool). if b then reading_of p n s.nozzles - reading else 0) its;
  counts = ap (λ (b : Bool). if b then 1 else 0) its;
}
is_kept p n s e true its = record { rises = refl; falls = refl; counts = refl }
is_kept p n s e false its = record { rises = refl; falls = refl; counts = refl }

-- ---- tests

sells_no_test : (event : PointEvent) (f : Facts) → f.test ≡ true → sold_in (step_of event f) ≡ 0
sells_no_test event f test = grind (arith, common_steps)

draws_no_sale : (event : PointEvent) (f : Facts) → f.test ≡ false → drawn_in (step_of event f) ≡ 0
draws_no_sale event f test = grind (arith, common_steps)

-- what a point does is of its own facts
told_none : (p n : ℕ) (s : SiteState) (e : Event) (figure : Option (ℕ × PointEvent) → ℕ)
    → ((event : PointEvent) → figure (Some (p, event)) ≡ 0)
    → by_nozzle p n s e (figure (own_event s e)) ≡ 0
told_none p n s e figure none = by_own (own_event s e)
  where
    by_own : (o : Option (ℕ × PointEvent))
        → ◌≡◌ {A = ℕ} (if is_of_nozzle p n s o then figure o else 0) 0
    by_own None = refl
    by_own (Some x) = by_test (x.0 == p) refl
      where
        by_test : (b : Bool) → (x.0 == p) ≡ b
            → ◌≡◌ {A = ℕ} (if b && is_out p n s then figure (Some x) else 0) 0
        by_test false is = refl
        by_test true is =
            ap (λ (v : ℕ). if is_out p n s then v else 0)
            (ap (λ (q : ℕ). figure (Some (q, x.1))) (same x.0 p is) ∙ none x.1)
            ∙ none_of (is_out p n s)

unless_accepted : (ok : Bool) (v : ℕ) → v ≡ 0 → (if ok then v else 0) ≡ 0
unless_accepted true v none = none
unless_accepted false v none = refl

pub test_sells_none : (p n : ℕ) (s : SiteState) (e : Event) (ok : Bool)
    → (facts_of s p).test ≡ true → (if ok then selling p n s e else 0) ≡ 0
test_sells_none p n s e ok test =
    unless_accepted ok (selling p n s e)
    (told_none p n s e (λ o. sold_in (step_by s o))
    (λ event. sells_no_test event (facts_of s p) test))

pub sale_draws_none : (p n : ℕ) (s : SiteState) (e : Event) (ok : Bool)
    → (facts_of s p).test ≡ false → (if ok then drawing p n s e else 0) ≡ 0
sale_draws_none p n s e ok test =
    unless_accepted ok (drawing p n s e)
    (told_none p n s e (λ o. drawn_in (step_by s o))
    (λ event. draws_no_sale event (facts_of s p) test))

-- ---- a row, told by the readings and the fuelling before and after it

-- what a row counts, once the meter was replaced or not, in a test or not
pub record RowMoves (p n : ℕ) (s : SiteState) (r : Row) (replaced test : Bool) : Type 0 where
  pub above : replaced ≡ false
      → reading_of p n s.nozzles ≤ reading_of p n (site_after s r.actor r.event).nozzles
  pub left : running_by_nozzle p n (site_after s r.actor r.event)
      ≤ running_by_nozzle p n s + of_accepted (flowing p n) s r
  pub flows : of_accepted (flowing p n) s r ≡ (if replaced then 0 else
      reading_of p n (site_after s r.actor r.event).nozzles - reading_of p n s.nozzles)
  pub sells : of_accepted (selling p n) s r ≡ (if test then 0 else
      running_by_nozzle p n s + of_accepted (flowing p n) s r
      - running_by_nozzle p n (site_after s r.actor r.event))
  pub draws : of_accepted (drawing p n) s r ≡ (if test then
      running_by_nozzle p n s + of_accepted (flowing p n) s r
      - running_by_nozzle p n (site_after s r.actor r.event) else 0)
  pub counts : of_accepted (replacing p n) s r ≡ (if replaced then 1 else 0)
  pub rises : of_accepted (rising p n) s r ≡ (if replaced then
      reading_of p n (site_after s r.actor r.event).nozzles - reading_of p n s.nozzles else 0)
  pub falls : of_accepted (falling p n) s r ≡ (if replaced then
      reading_of p n s.nozzles - reading_of p n (site_after s r.actor r.event).nozzles else 0)

-- the meter's reading after a row that replaced it
new_reading : (old new flows rises falls begins : ℕ) → flows ≡ 0 → rises ≡ begins - old
    → falls ≡ old - begins → new + (falls + 0) ≡ old + (flows + 0) + (rises + 0) → new ≡ begins
new_reading old new flows rises falls begins none up down counter =
    omega (arith, none, up, down, counter)

pub row_moves : (p n : ℕ) (s : SiteState) (r : Row) (replaced test : Bool) → Sound s
    → InRange r.event → has_nozzle p n s.nozzles ≡ true
    → (is_none (first_refusal s r.actor r.event) && replace_said p n r.event) ≡ replaced
    → (facts_of s p).test ≡ test → RowMoves p n s r replaced test
row_moves p n s r replaced test sound range has told is_test =
    by_replaced replaced test told is_test
  where
    law : AddsUp p n s (r ∷ [])
    law = each_nozzle_adds_up s (r ∷ []) p n sound (range, tt) has

    sold : (t : Bool) → (facts_of s p).test ≡ t
        → of_accepted (selling p n) s r ≡ (if t then 0 else
        running_by_nozzle p n s + of_accepted (flowing p n) s r
        - running_by_nozzle p n (site_after s r.actor r.event))
    sold true is = test_sells_none p n s r.event (is_none (first_refusal s r.actor r.event)) is
    sold false is =
        let draws = sale_draws_none p n s r.event (is_none (first_refusal s r.actor r.event)) is in
        let volumes = law.volumes in
        omega (arith, draws, volumes)

    drawn : (t : Bool) → (facts_of s p).test ≡ t
        → of_accepted (drawing p n) s r ≡ (if t then
        running_by_nozzle p n s + of_accepted (flowing p n) s r
        - running_by_nozzle p n (site_after s r.actor r.event) else 0)
    drawn true is =
        let sells = test_sells_none p n s r.event (is_none (first_refusal s r.actor r.event)) is in
        let volumes = law.volumes in
        omega (arith, sells, volumes)
    drawn false is = sale_draws_none p n s r.event (is_none (first_refusal s r.actor r.event)) is

    by_replaced : (b t : Bool)
        → (is_none (first_refusal s r.actor r.event) && replace_said p n r.event) ≡ b
        → (facts_of s p).test ≡ t → RowMoves p n s r b t
    by_replaced true t told is =
        let jump = is_replaced p n s r.event (is_none (first_refusal s r.actor r.event)) told in
        let volumes = law.volumes in
        let begins : reading_of p n (site_after s r.actor r.event).nozzles ≡ jump.begins =
        new_reading (reading_of p n s.nozzles)
        (reading_of p n (site_after s r.actor r.event).nozzles) (of_accepted (flowing p n) s r)
        (of_accepted (rising p n) s r) (of_accepted (falling p n) s r) jump.begins
        jump.flows jump.rises jump.falls law.counter in
        record {
          above = λ never. cc;
          left = omega (arith, volumes);
          flows = jump.flows;
          sells = sold t is;
          draws = drawn t is;
          counts = jump.counts;
          rises = jump.rises ∙ ap (λ (v : ℕ). v - reading_of p n s.nozzles) (sym begins);
          falls = jump.falls ∙ ap (λ (v : ℕ). reading_of p n s.nozzles - v) (sym begins);
        }
    by_replaced false t told is =
        let kept = is_kept p n s r.event (is_none (first_refusal s r.actor r.event)) told in
        let rises = kept.rises in
        let falls = kept.falls in
        let counter = law.counter in
        let volumes = law.volumes in
        record {
          above = λ is_false. omega (arith, counter, rises, falls);
          left = omega (arith, volumes);
          flows = omega (arith, counter, rises, falls);
          sells = sold t is;
          draws = drawn t is;
          counts = kept.counts;
          rises = rises;
          falls = falls;
        }

-- ---- how often a meter was replaced

times_changed : (p n q m k : ℕ) (change : Nozzle → Nozzle) (xs : List Nozzle)
    → KeepsName change → has_nozzle p n xs ≡ true
    → ((x : Nozzle) → (change x).replaced ≡ x.replaced + k)
    → times_replaced p n (with_nozzle q m change xs)
    ≡ times_replaced p n xs + (if is_its p n q m then k else 0)
times_changed p n q m k change xs keeps has counts = by_test (is_its p n q m) refl
  where
    by_test : (b : Bool) → (q == p && m == n) ≡ b
        → times_replaced p n (with_nozzle q m change xs)
        ≡ times_replaced p n xs + (if b then k else 0)
    by_test true is =
        let names = and_parts (q == p) (m == n) is in
        let x = there (nozzle_of p n xs) has in
        let was : times_replaced p n xs ≡ x.nozzle.replaced =
        ap (λ (o : Option Nozzle). unwrap_or (option_map (λ y. y.replaced) o) 0) x.is in
        let now : times_replaced p n (with_nozzle q m change xs) ≡ (change x.nozzle).replaced =
        ap (λ (r : ℕ). times_replaced p n (with_nozzle r m change xs)) (same q p names.0)
        ∙ ap (λ (r : ℕ). times_replaced p n (with_nozzle p r change xs)) (same m n names.1)
        ∙ ap (λ (o : Option Nozzle). unwrap_or (option_map (λ y. y.replaced) o) 0)
        (nozzle_of-here p n change xs keeps ∙ ap (option_map change) x.is) in
        now ∙ counts x.nozzle ∙ ap (λ (v : ℕ). v + k) (sym was)
    by_test false is =
        let still : times_replaced p n (with_nozzle q m change xs) ≡ times_replaced p n xs =
        ap (λ (o : Option Nozzle). unwrap_or (option_map (λ y. y.replaced) o) 0)
        (nozzle_of-other q m p n change xs is keeps) in
        omega (arith, still)

times_stay : (n : ℕ) (b : Bool) → n ≡ n + (if b then 0 else 0)
times_stay n true = omega arith
times_stay n false = omega arith

times_accepted : (p n : ℕ) (s : SiteState) (e : Event) → has_nozzle p n s.nozzles ≡ true
    → times_replaced p n (nozzles_after s e)
    ≡ times_replaced p n s.nozzles + replacing p n s e
times_accepted p n s (Flow q m reading) has =
    times_changed p n q m 0 (read_at reading) s.nozzles (read_keeps reading) has
    (λ x. omega arith)
    ∙ ap (λ (v : ℕ). times_replaced p n s.nozzles + v) (none_of (is_its p n q m))
times_accepted p n s (HangUp q m reading) has =
    times_changed p n q m 0 (read_at reading) s.nozzles (read_keeps reading) has
    (λ x. omega arith)
    ∙ ap (λ (v : ℕ). times_replaced p n s.nozzles + v) (none_of (is_its p n q m))
times_accepted p n s (ReplaceMeter q m reading) has =
    times_changed p n q m 1 (replaced_at reading) s.nozzles (replaced_keeps reading) has
    (λ x. refl)
times_accepted p n s e has = omega arith

pub times_after : (p n : ℕ) (s : SiteState) (r : Row) → has_nozzle p n s.nozzles ≡ true
    → times_replaced p n (site_after s r.actor r.event).nozzles
    ≡ times_replaced p n s.nozzles + of_accepted (replacing p n) s r
times_after p n s r has = by_refusal (first_refusal s r.actor r.event)
  where
    by_refusal : (o : Option Refusal)
        → times_replaced p n (value_or o (accepted_site s r.actor r.event) s).nozzles
        ≡ times_replaced p n s.nozzles + (if is_none o then replacing p n s r.event else 0)
    by_refusal None = times_accepted p n s r.event has
    by_refusal (Some refusal) = omega arith

-- the nozzle stays there
pub stays_there : (p n : ℕ) (s : SiteState) (r : Row) → has_nozzle p n s.nozzles ≡ true
    → has_nozzle p n (site_after s r.actor r.event).nozzles ≡ true
stays_there p n s r has = by_refusal (first_refusal s r.actor r.event)
  where
    by_refusal : (o : Option Refusal)
        → has_nozzle p n (value_or o (accepted_site s r.actor r.event) s).nozzles ≡ true
    by_refusal None = nozzle_after s r.event p n ∙ has
    by_refusal (Some refusal) = has

-- ---- a row of another point

-- a row of another point leaves the nozzle's reading and fuelling
pub record LeavesNozzle (p n : ℕ) (s : SiteState) (r : Row) : Type 0 where
  pub reading : reading_of p n (site_after s r.actor r.event).nozzles ≡ reading_of p n s.nozzles
  pub running : running_by_nozzle p n (site_after s r.actor r.event) ≡ running_by_nozzle p n s
  pub unsaid : replace_said p n r.event ≡ false
  pub unread : read_said p n r.event ≡ None

away_from : (p : ℕ) (s : SiteState) (e : Event) → is_of_point (point_named e) p ≡ false
    → (event : PointEvent) → own_event s e ≡ Some (p, event) → ⊥
away_from p s e other event own =
    false≢true (sym other ∙ ap (λ (o : Option ℕ). is_of_point o p) (own_named s e p event own)
    ∙ itself p)

unsaid_of : (p n : ℕ) (e : Event) → is_of_point (point_named e) p ≡ false
    → replace_said p n e ≡ false
unsaid_of p n e other = grind (arith, common_steps, nat_tests)

unread_of : (p n : ℕ) (e : Event) → is_of_point (point_named e) p ≡ false → read_said p n e ≡ None
unread_of p n e other = grind (arith, common_steps, nat_tests)

left_alone : (p n : ℕ) (s : SiteState) (a : Actor) (e : Event)
    → first_refusal s a e ≡ None → is_of_point (point_named e) p ≡ false
    → running_by_nozzle p n (accepted_site s a e) ≡ running_by_nozzle p n s
left_alone p n s a e accepted other = by_facts (facts_after s a e (passed s a e accepted) p)
  where
    by_facts : FactsAfter s e p
        → running_by_nozzle p n (accepted_site s a e) ≡ running_by_nozzle p n s
    by_facts (stays facts away) =
        ap (λ (g : Facts). if nozzle_out g == n then running_at (nozzles_after s e) p g else 0)
        facts
        ∙ ap (λ (reading : ℕ). if nozzle_out (facts_of s p) == n
        then (if is_under_way (facts_of s p).state then reading - (facts_of s p).start else 0)
        else 0)
        (reading_elsewhere s e p (nozzle_out (facts_of s p)) away)
    by_facts (moves event own facts takes) = absurd (away_from p s e other event own)

pub leaves_nozzle : (p n : ℕ) (s : SiteState) (r : Row)
    → is_of_point (point_named r.event) p ≡ false → LeavesNozzle p n s r
leaves_nozzle p n s r other = by_refusal (first_refusal s r.actor r.event) refl
  where
    by_refusal : (o : Option Refusal) → first_refusal s r.actor r.event ≡ o → LeavesNozzle p n s r
    by_refusal None is = record {
      reading = rw is (reading_elsewhere s r.event p n (away_from p s r.event other));
      running = rw is (left_alone p n s r.actor r.event is other);
      unsaid = unsaid_of p n r.event other;
      unread = unread_of p n r.event other;
    }
    by_refusal (Some refusal) is = record {
      reading = rw is refl;
      running = rw is refl;
      unsaid = unsaid_of p n r.event other;
      unread = unread_of p n r.event other;
    }
