-- What rows say so far agrees with the site that they led to: the open shift, the tills that are
-- signed on, and how each released point was released.
use Rattle.std.proofs.Common.{◌≡◌, ℕ, ◌==◌, not, ◌&&◌, Bool, true, false, cond, List, [], ◌∷◌, ◌++◌}
use Rattle.std.proofs.Common.{Option, Some, None, is_some, unwrap_or, Ok, Err, refl, sym, ap, subst}
use Rattle.std.proofs.Common.{◌∙◌, if◌then◌else◌, arith}
use Rattle.std.proofs.lemmas.Bool.{false≢true}
use Rattle.std.proofs.lemmas.Grind.{common_steps}
use Rattle.std.specs.Ordering.{nat_cmp}
use Rattle.std.specs.FinMap as finite
use Rattle.std.specs.FinMap.{get-retain_keys, nat_cmp-IsAntisymmetric}
use Rattle.std.specs.FinSet as set
use Rattle.site_base.specs.declared.actor.Actor.{Actor}
use Rattle.site_base.specs.declared.actor.Actor.TheVariants.{Till, Dispenser}
use Rattle.site_base.specs.declared.event.Event.{Event}
use Rattle.site_base.specs.declared.event.Event.TheVariants.{SignOff, Assign, Unassign, Release}
use Rattle.site_base.specs.declared.event.Event.TheVariants.{Prepay, TestRelease, Terminate}
use Rattle.site_base.specs.declared.event.Event.TheVariants.{Offline, HangUp}
use Rattle.site_base.specs.declared.row.Row.{Row}
use Rattle.site_base.specs.declared.state.Preset.{Preset}
use Rattle.site_base.specs.declared.state.Preset.TheVariants.{Money}
use Rattle.site_base.specs.Configured.{Configured}
use Rattle.fuelling_point.specs.declared.event.PointEvent.{PointEvent}
use Rattle.fuelling_point.specs.declared.event.PointEvent.TheVariants as points
use Rattle.fuelling_point.specs.KeptPoints.{Facts}
use Rattle.fuelling_point.specs.PointChecks.{refusal_of}
use Rattle.fuelling_point.specs.Step.{step_of, after}
use Rattle.fuelling_point.specs.Whole.{IsWhole, is_released}
use Rattle.fuelling_point.proofs.Whole.{whole_accepted, stays_whole}
use Rattle.fuelling_point.specs.Holds.{is_held_by}
use Rattle.site_base.specs.Table.{row_of}
use Rattle.written_site.specs.SiteState.{SiteState, opening, facts_in, facts_of, holder_of}
use Rattle.written_site.specs.SiteState.{is_signed_on, is_resting, open_shift}
use Rattle.written_site.specs.SiteChecks.{Passed, own_event, flow_since, release_at}
use Rattle.written_site.specs.SiteChecks.{test_release_at}
use Rattle.written_site.specs.SiteStep.{accepted_site, points_after, holds_after, holds_unless_over}
use Rattle.written_site.specs.SiteStep.{ends_at_sign_off, ends_release, reply_to, site_after}
use Rattle.written_site.specs.SiteStep.{site_answer}
use Rattle.written_site.specs.RowWords.{last_said, latest, signing_of, on_after, closes_shift}
use Rattle.written_site.specs.RowWords.{open_after}
use Rattle.written_site.specs.SaleWords.{ToldRelease, by_till, for_test, release_said, release_of}
use Rattle.written_site.specs.SaleWords.{release_after}
use Rattle.written_site.proofs.PointAfter.{FactsAfter, stays, moves, facts_after, opens_closed}
use Rattle.written_site.proofs.RowWords.{told_row, of_row, said_again, latest_push, total_push}
use Rattle.written_site.proofs.SigningLaws.{signed_row, shift_row}
use Rattle.written_site.proofs.SoundHolds.{taken_hold, ended_hold, goes_on_released, offline_ends}
use Rattle.written_site.proofs.SoundHolds.{unassigned_rests, doesn't_rest}
use Rattle.written_site.proofs.SoundMachine.{is_release, released_after}
use Rattle.written_site.proofs.SoundTables.{same, turned, itself, told_once}

-- ---- a point that is released, and isn't released anew

assigned_rests : (f : Facts) → refusal_of points.Assign f ≡ None
    → is_released (after points.Assign f).state ≡ false
assigned_rests f taken = grind (arith, common_steps)

-- its prepaid cents stay
prepaid_stays : (event : PointEvent) (f : Facts) → is_release event ≡ false
    → is_released (after event f).state ≡ true → (after event f).prepaid ≡ f.prepaid
prepaid_stays event f other is = grind (arith, common_steps)

-- and whether it is a test
test_stays : (event : PointEvent) (f : Facts) → is_release event ≡ false
    → is_released (after event f).state ≡ true → (after event f).test ≡ f.test
test_stays event f other is = grind (arith, common_steps)

-- the event's own point, once the event is done
pub own_after : (s : SiteState) (a : Actor) (e : Event) (p : ℕ) (event : PointEvent) → Passed s a e
    → own_event s e ≡ Some (p, event)
    → (facts_in (points_after s e) p ≡ after event (facts_of s p))
    × (refusal_of event (facts_of s p) ≡ None)
own_after s a e p event passes own = by_after (facts_after s a e passes p)
  where
    by_after : FactsAfter s e p
        → (facts_in (points_after s e) p ≡ after event (facts_of s p))
        × (refusal_of event (facts_of s p) ≡ None)
    by_after (stays is away) = absurd (away event own)
    by_after (moves other own' is taken) =
        let one : other ≡ event = ap (λ (x : ℕ × PointEvent). x.1)
        (told_once (p, other) (p, event) (sym own' ∙ own)) in (
          is ∙ ap (λ (x : PointEvent). after x (facts_of s p)) one,
          ap (λ (x : PointEvent). refusal_of x (facts_of s p)) (sym one) ∙ taken,
        )

-- a point that isn't released after the event isn't this one
not_this : (s : SiteState) (a : Actor) (e : Event) (p q : ℕ) (event : PointEvent) → Passed s a e
    → own_event s e ≡ Some (q, event)
    → (refusal_of event (facts_of s q) ≡ None → is_released (after event (facts_of s q)).state
    ≡ false)
    → is_released (facts_in (points_after s e) p).state ≡ true → (p == q) ≡ false
not_this s a e p q event passes own rests is = by_test (p == q) refl
  where
    by_test : (b : Bool) → (p == q) ≡ b → b ≡ false
    by_test true at =
        let its = own_after s a e q event passes own in
        let here : facts_in (points_after s e) p ≡ after event (facts_of s q) =
        ap (facts_in (points_after s e)) (same p q at) ∙ its.0 in
        absurd (false≢true (sym (rests its.1) ∙ ap (λ (f : Facts). is_released f.state) (sym here)
        ∙ is))
    by_test false at = refl

-- a release of another point leaves the hold of this one
untaken : (holder : Option ℕ) (t p q : ℕ) (release : ToldRelease)
    → ◌≡◌ {A = Option ToldRelease} (if q == p then Some (release) else None) None
    → cond (p == q) (Some t) holder ≡ holder
untaken holder t p q release none =
    ap (λ (b : Bool). cond b (Some t) holder) (turned p q) ∙ by_test (q == p) none
  where
    by_test : (b : Bool)
        → ◌≡◌ {A = Option ToldRelease} (if b then Some (release) else None) None
        → cond b (Some t) holder ≡ holder
    by_test true none = cc
    by_test false none = refl

-- an event that ends the hold where it ends the release
unless_over : (s : SiteState) (a : Actor) (e : Event) (p q : ℕ) (event : PointEvent) → Passed s a e
    → own_event s e ≡ Some (q, event)
    → is_released (facts_in (points_after s e) p).state ≡ true
    → finite.get (holds_unless_over q (step_of event (facts_of s q)) s.holds) p ≡ holder_of s p
unless_over s a e p q event passes own is =
    by_test (p == q) refl (ends_release (step_of event (facts_of s q))) refl
  where
    by_test : (b : Bool) → (p == q) ≡ b → (over : Bool)
        → ends_release (step_of event (facts_of s q)) ≡ over
        → finite.get (cond over (finite.remove s.holds q) s.holds) p ≡ holder_of s p
    by_test b at false goes_on = refl
    by_test false at true over =
        ended_hold s.holds q p ∙ ap (λ (b : Bool). cond b None (holder_of s p)) at
    by_test true at true over =
        let its = own_after s a e q event passes own in
        let here : facts_in (points_after s e) p ≡ after event (facts_of s q) =
        ap (facts_in (points_after s e)) (same p q at) ∙ its.0 in
        absurd (false≢true (sym (goes_on_released event (facts_of s q)
        (ap (λ (f : Facts). is_released f.state) (sym here) ∙ is)) ∙ over))

-- its holder stays
holder_stays : (s : SiteState) (a : Actor) (e : Event) (p : ℕ) → Passed s a e
    → is_released (facts_in (points_after s e) p).state ≡ true → release_said p a e ≡ None
    → holder_of (accepted_site s a e) p ≡ holder_of s p
holder_stays s (Till t) SignOff p passes is none =
    let resting : is_resting (facts_of s p).state ≡ false = doesn't_rest (facts_of s p).state is in
    get-retain_keys s.holds (λ q. not (ends_at_sign_off s.points s.holds t q)) p
    (λ x tied. ap (λ (y : ℕ). not (ends_at_sign_off s.points s.holds t y))
    (sym (nat_cmp-IsAntisymmetric p x tied)))
    ∙ by_parts (is_some (row_of p s.points)) (is_resting (facts_of s p).state) resting
  where
    by_parts : (there resting : Bool) → resting ≡ false
        → cond (not ((there && resting) && is_held_by t (holder_of s p))) (holder_of s p) None
        ≡ holder_of s p
    by_parts true true rests = cc
    by_parts false true rests = cc
    by_parts true false rests = refl
    by_parts false false rests = refl
holder_stays s (Till t) (Assign q) p passes is none =
    taken_hold s.holds q t p
    ∙ ap (λ (b : Bool). cond b (Some t) (holder_of s p))
    (not_this s (Till t) (Assign q) p q points.Assign passes refl
    (assigned_rests (facts_of s q)) is)
holder_stays s (Till t) (Release q preset) p passes is none =
    taken_hold s.holds q t p ∙ untaken (holder_of s p) t p q (by_till t None) none
holder_stays s (Till t) (Prepay q cents) p passes is none =
    taken_hold s.holds q t p ∙ untaken (holder_of s p) t p q (by_till t (Some cents)) none
holder_stays s (Till t) (TestRelease q) p passes is none =
    taken_hold s.holds q t p ∙ untaken (holder_of s p) t p q (for_test t) none
holder_stays s (Till t) (Unassign q) p passes is none =
    ended_hold s.holds q p
    ∙ ap (λ (b : Bool). cond b None (holder_of s p))
    (not_this s (Till t) (Unassign q) p q points.Unassign passes refl
    (unassigned_rests (facts_of s q)) is)
holder_stays s a (Offline q) p passes is none =
    ended_hold s.holds q p
    ∙ ap (λ (b : Bool). cond b None (holder_of s p))
    (not_this s a (Offline q) p q points.Offline passes refl (offline_ends (facts_of s q)) is)
holder_stays s a (HangUp q n reading) p passes is none =
    unless_over s a (HangUp q n reading) p q (points.HangUp n (flow_since s q n reading)) passes
    refl is
holder_stays s a (Terminate q) p passes is none =
    unless_over s a (Terminate q) p q points.Terminate passes refl is
holder_stays s a e p passes is none = refl

-- ---- a point that is released by the event

release_pays : (preset : Preset) (prepaid : Option ℕ) (last price : ℕ) (f : Facts)
    → refusal_of (points.Release preset prepaid last price) f ≡ None
    → (after (points.Release preset prepaid last price) f).prepaid ≡ prepaid
release_pays preset prepaid last price f taken = grind (arith, common_steps)

test_pays : (last price : ℕ) (f : Facts) → refusal_of (points.TestRelease last price) f ≡ None
    → (after (points.TestRelease last price) f).prepaid ≡ None
test_pays last price f taken = grind (arith, common_steps)

release_isn't_test : (preset : Preset) (prepaid : Option ℕ) (last price : ℕ) (f : Facts) → IsWhole f
    → refusal_of (points.Release preset prepaid last price) f ≡ None
    → (after (points.Release preset prepaid last price) f).test ≡ false
release_isn't_test preset prepaid last price f whole taken =
    let test = whole.test in grind (arith, common_steps)

test_is_test : (last price : ℕ) (f : Facts) → refusal_of (points.TestRelease last price) f ≡ None
    → (after (points.TestRelease last price) f).test ≡ true
test_is_test last price f taken = grind (arith, common_steps)

-- such a till holds it, these are its prepaid cents, and it is for a test or not
record IsSo (s : SiteState) (p : ℕ) (told : ToldRelease) : Type 0 where
  holder : holder_of s p ≡ Some told.till
  prepaid : (facts_of s p).prepaid ≡ told.prepaid
  test : (facts_of s p).test ≡ told.test

-- what a release leaves of its point
record Leaves (f : Facts) (release : ToldRelease) : Type 0 where
  prepaid : f.prepaid ≡ release.prepaid
  test : f.test ≡ release.test

taken_so : (s : SiteState) (e : Event) (p q : ℕ) (release : ToldRelease) (event : PointEvent)
    (told : ToldRelease) → Passed s (Till release.till) e → own_event s e ≡ Some (q, event)
    → holds_after s (Till release.till) e ≡ finite.insert s.holds q release.till
    → (refusal_of event (facts_of s q) ≡ None → Leaves (after event (facts_of s q)) release)
    → ◌≡◌ {A = Option ToldRelease} (if q == p then Some release else None) (Some told)
    → IsSo (accepted_site s (Till release.till) e) p told
taken_so s e p q release event told passes own holds leaves = by_test (q == p) refl
  where
    by_test : (b : Bool) → (q == p) ≡ b
        → ◌≡◌ {A = Option ToldRelease} (if b then Some release else None) (Some told)
        → IsSo (accepted_site s (Till release.till) e) p told
    by_test false at is = cc
    by_test true at is =
        let its = own_after s (Till release.till) e q event passes own in
        let one : q ≡ p = same q p at in
        let left = leaves its.1 in
        subst (IsSo (accepted_site s (Till release.till) e) p) (told_once release told is)
        (record {
          holder = ap (λ (m : finite.FinMap nat_cmp ℕ). finite.get m p) holds
              ∙ taken_hold s.holds q release.till p
              ∙ ap (λ (b : Bool). cond b (Some release.till) (holder_of s p)) (turned p q ∙ at);
          prepaid = ap (λ (r : ℕ). (facts_in (points_after s e) r).prepaid) (sym one)
              ∙ ap (λ (f : Facts). f.prepaid) its.0 ∙ left.prepaid;
          test = ap (λ (r : ℕ). (facts_in (points_after s e) r).test) (sym one)
              ∙ ap (λ (f : Facts). f.test) its.0 ∙ left.test;
        })

released_so : (s : SiteState) (a : Actor) (e : Event) (p : ℕ) (told : ToldRelease)
    → ((q : ℕ) → IsWhole (facts_of s q)) → Passed s a e
    → release_said p a e ≡ Some told → IsSo (accepted_site s a e) p told
released_so s (Till t) (Release q preset) p told whole passes is =
    taken_so s (Release q preset) p q (by_till t None) (release_at s q preset None) told passes refl
    refl
    (λ taken. record {
      prepaid = release_pays preset None _ _ (facts_of s q) taken;
      test = release_isn't_test preset None _ _ (facts_of s q) (whole q) taken;
    }) is
released_so s (Till t) (Prepay q cents) p told whole passes is =
    taken_so s (Prepay q cents) p q (by_till t (Some cents))
    (release_at s q (Money cents) (Some cents)) told passes refl refl
    (λ taken. record {
      prepaid = release_pays (Money cents) (Some cents) _ _ (facts_of s q) taken;
      test = release_isn't_test (Money cents) (Some cents) _ _ (facts_of s q) (whole q) taken;
    }) is
released_so s (Till t) (TestRelease q) p told whole passes is =
    taken_so s (TestRelease q) p q (for_test t) (test_release_at s q) told passes refl refl
    (λ taken. record {
      prepaid = test_pays _ _ (facts_of s q) taken;
      test = test_is_test _ _ (facts_of s q) taken;
    }) is
released_so s a e p told whole passes is = absurd cc

-- what an event is to its point releases it
abbrev releases_by : Option (ℕ × PointEvent) → Bool
releases_by None = false
releases_by (Some e) = is_release e.1

-- a release that isn't of this point isn't its own event
not_its : (p q : ℕ) (release : ToldRelease) (event other : PointEvent)
    → ◌≡◌ {A = Option (ℕ × PointEvent)} (Some (q, other)) (Some (p, event))
    → ◌≡◌ {A = Option ToldRelease} (if q == p then Some (release) else None) None
    → is_release event ≡ false
not_its p q release event other own none =
    let one : q ≡ p = ap (λ (x : ℕ × PointEvent). x.0) (told_once (q, other) (p, event) own) in
    let is : (q == p) ≡ true = ap (λ (r : ℕ). r == p) one ∙ itself p in
    let some : Some (release) ≡ None =
    ap (λ (b : Bool). if b then Some (release) else None) (sym is) ∙ none in
    absurd cc

-- what an event is to a point that it doesn't release isn't a release
no_release : (s : SiteState) (a : Actor) (e : Event) (p : ℕ) (event : PointEvent) → Passed s a e
    → own_event s e ≡ Some (p, event) → release_said p a e ≡ None → is_release event ≡ false
no_release s (Till t) (Release q preset) p event passes own none =
    not_its p q (by_till t None) event (release_at s q preset None) own none
no_release s (Till t) (Prepay q cents) p event passes own none =
    not_its p q (by_till t (Some cents)) event (release_at s q (Money cents) (Some cents)) own none
no_release s (Till t) (TestRelease q) p event passes own none =
    not_its p q (for_test t) event (test_release_at s q) own none
no_release s (Dispenser d) (Release q preset) p event passes own none =
    (let asks = passes.asks in absurd cc)
no_release s (Dispenser d) (Prepay q cents) p event passes own none =
    (let asks = passes.asks in absurd cc)
no_release s (Dispenser d) (TestRelease q) p event passes own none =
    (let asks = passes.asks in absurd cc)
no_release s a e p event passes own none = sym (ap releases_by own)

-- ---- rows and site

-- the point's last release, by these rows, is by its holder; its prepaid cents, and whether it is a
-- test, are the point's
pub record IsReleasedSo (earlier : List Row) (s : SiteState) (p : ℕ) : Type 0 where
  pub told : ToldRelease
  pub is : release_after p earlier ≡ Some told
  pub holder : holder_of s p ≡ Some told.till
  pub prepaid : (facts_of s p).prepaid ≡ told.prepaid
  pub test : (facts_of s p).test ≡ told.test

-- what the rows so far say of the site that they led to
pub record Known (earlier : List Row) (s : SiteState) : Type 0 where
  pub shift : open_shift s ≡ open_after earlier
  pub signed : (t : ℕ) → is_signed_on s t ≡ on_after t earlier
  pub whole : (p : ℕ) → IsWhole (facts_of s p)
  pub released : (p : ℕ) → is_released (facts_of s p).state ≡ true → IsReleasedSo earlier s p

signed_more : (t : ℕ) (earlier : List Row) (s : SiteState) (r : Row)
    → is_signed_on s t ≡ on_after t earlier → r.reply ≡ reply_to s r.actor r.event
    → is_signed_on (site_after s r.actor r.event) t ≡ on_after t (earlier ++ r ∷ [])
signed_more t earlier s r known replies =
    signed_row t s r replies
    ∙ ap (unwrap_or (signing_of t r)) known
    ∙ sym (said_again (latest (signing_of t) earlier) (signing_of t r) false)
    ∙ ap (λ (o : Option Bool). unwrap_or o false) (sym (latest_push (signing_of t) earlier r))

whole_more : (s : SiteState) (r : Row) → ((p : ℕ) → IsWhole (facts_of s p))
    → r.reply ≡ reply_to s r.actor r.event
    → (p : ℕ) → IsWhole (facts_of (site_after s r.actor r.event) p)
whole_more s r known replies =
    of_row (λ row new. (p : ℕ) → IsWhole (facts_of new p)) s r replies (λ refusal. known)
    (λ passes p. by_after p (facts_after s r.actor r.event passes p))
  where
    by_after : (p : ℕ) → FactsAfter s r.event p → IsWhole (facts_in (points_after s r.event) p)
    by_after p (stays is away) = subst IsWhole (sym is) (known p)
    by_after p (moves event own is taken) =
        subst IsWhole (sym is) (whole_accepted event (facts_of s p) (known p) taken)

released_more : (earlier : List Row) (s : SiteState) (r : Row)
    → ((p : ℕ) → IsWhole (facts_of s p))
    → ((p : ℕ) → is_released (facts_of s p).state ≡ true → IsReleasedSo earlier s p)
    → r.reply ≡ reply_to s r.actor r.event
    → (p : ℕ) → is_released (facts_of (site_after s r.actor r.event) p).state ≡ true
    → IsReleasedSo (earlier ++ r ∷ []) (site_after s r.actor r.event) p
released_more earlier s r whole known replies =
    of_row (λ row new. (p : ℕ) → is_released (facts_of new p).state ≡ true
    → IsReleasedSo (earlier ++ row ∷ []) new p) s r replies
    (λ refusal p is. let was = known p is in record {
      told = was.told;
      is = latest_push (release_of p) earlier (told_row r.actor r.event (Err refusal)) ∙ was.is;
      holder = was.holder;
      prepaid = was.prepaid;
      test = was.test;
    })
    (λ passes p is. by_said passes p is (release_said p r.actor r.event) refl)
  where
    row : Row
    row = told_row r.actor r.event (Ok (site_answer s r.event))

    new : SiteState
    new = accepted_site s r.actor r.event

    was_so : (p : ℕ) → Passed s r.actor r.event → release_said p r.actor r.event ≡ None
        → is_released (facts_of new p).state ≡ true → FactsAfter s r.event p
        → (is_released (facts_of s p).state ≡ true)
        × (((facts_of new p).prepaid ≡ (facts_of s p).prepaid)
        × ((facts_of new p).test ≡ (facts_of s p).test))
    was_so p passes none is (stays same_facts away) = (
      ap (λ (f : Facts). is_released f.state) (sym same_facts) ∙ is,
      (ap (λ (f : Facts). f.prepaid) same_facts, ap (λ (f : Facts). f.test) same_facts),
    )
    was_so p passes none is (moves event own done taken) =
        let other = no_release s r.actor r.event p event passes own none in
        let now = ap (λ (f : Facts). is_released f.state) (sym done) ∙ is in (
          released_after event (facts_of s p) other now,
          (
            ap (λ (f : Facts). f.prepaid) done ∙ prepaid_stays event (facts_of s p) other now,
            ap (λ (f : Facts). f.test) done ∙ test_stays event (facts_of s p) other now,
          ),
        )

    by_said : Passed s r.actor r.event → (p : ℕ) → is_released (facts_of new p).state ≡ true
        → (o : Option ToldRelease) → release_said p r.actor r.event ≡ o
        → IsReleasedSo (earlier ++ row ∷ []) new p
    by_said passes p is (Some told) said =
        let so = released_so s r.actor r.event p told whole passes said in
        record {
          told = told;
          is = latest_push (release_of p) earlier row
              ∙ ap (last_said (latest (release_of p) earlier)) said;
          holder = so.holder;
          prepaid = so.prepaid;
          test = so.test;
        }
    by_said passes p is None said =
        let before = was_so p passes said is (facts_after s r.actor r.event passes p) in
        let was = known p before.0 in
        record {
          told = was.told;
          is = latest_push (release_of p) earlier row
              ∙ ap (last_said (latest (release_of p) earlier)) said ∙ was.is;
          holder = holder_stays s r.actor r.event p passes is said ∙ was.holder;
          prepaid = before.1.0 ∙ was.prepaid;
          test = before.1.1 ∙ was.test;
        }

-- one row more may close the shift
shift_more : (earlier : List Row) (s : SiteState) (r : Row) → open_shift s ≡ open_after earlier
    → r.reply ≡ reply_to s r.actor r.event
    → open_shift (site_after s r.actor r.event) ≡ open_after (earlier ++ r ∷ [])
shift_more earlier s r known replies =
    let now = shift_row s r replies in
    let more = total_push (λ x. if closes_shift x then 1 else 0) earlier r in
    omega (arith, known, now, more)

pub known_more : (earlier : List Row) (s : SiteState) (r : Row) → Known earlier s
    → r.reply ≡ reply_to s r.actor r.event
    → Known (earlier ++ r ∷ []) (site_after s r.actor r.event)
known_more earlier s r known replies =
    record {
      shift = shift_more earlier s r known.shift replies;
      signed = λ t. signed_more t earlier s r (known.signed t) replies;
      whole = whole_more s r known.whole replies;
      released = released_more earlier s r known.whole known.released replies;
    }

pub known_first : (c : Configured) → Known [] (opening c)
known_first c = record {
  shift = refl;
  signed = λ t. set.contains-empty nat_cmp t;
  whole = λ p. subst IsWhole (sym (opens_closed c p)) stays_whole.begins;
  released = λ p is.
      let none : false ≡ true =
      ap (λ (f : Facts). is_released f.state) (sym (opens_closed c p)) ∙ is in
      absurd (false≢true none);
}
