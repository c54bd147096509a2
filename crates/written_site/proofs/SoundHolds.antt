-- A released point stays held.
use Rattle.std.proofs.Common.{◌≡◌, ℕ, ◌==◌, not, Bool, true, false, cond, Option, Some, None}
use Rattle.std.proofs.Common.{is_some, refl, sym, ap, ◌∙◌, arith}
use Rattle.std.proofs.lemmas.Bool.{false≢true}
use Rattle.std.proofs.lemmas.Grind.{common_steps}
use Rattle.std.specs.Ordering.{nat_cmp}
use Rattle.std.specs.Cmp.{nat_cmp_total, unsigned_tied}
use Rattle.std.specs.FinMap as finite
use Rattle.std.specs.FinMap.{FinMap, get-insert, get-remove, get-retain_keys}
use Rattle.std.specs.FinMap.{nat_cmp-IsAntisymmetric}
use Rattle.site_base.specs.declared.actor.Actor.{Actor}
use Rattle.site_base.specs.declared.actor.Actor.TheVariants.{Till, Dispenser}
use Rattle.site_base.specs.declared.event.Event.{Event}
use Rattle.site_base.specs.declared.event.Event.TheVariants.{SignOff, Assign, Unassign, Release}
use Rattle.site_base.specs.declared.event.Event.TheVariants.{Prepay, TestRelease, Terminate}
use Rattle.site_base.specs.declared.event.Event.TheVariants.{Offline, HangUp}
use Rattle.site_base.specs.declared.state.PointState.{PointState}
use Rattle.site_base.specs.declared.state.Preset.TheVariants.{Money}
use Rattle.site_base.specs.Table.{row_of}
use Rattle.fuelling_point.specs.declared.event.PointEvent.{PointEvent}
use Rattle.fuelling_point.specs.declared.event.PointEvent.TheVariants as points
use Rattle.fuelling_point.specs.KeptPoints.{Facts}
use Rattle.fuelling_point.specs.PointChecks.{refusal_of}
use Rattle.fuelling_point.specs.Step.{step_of, after}
use Rattle.fuelling_point.specs.Whole.{is_released}
use Rattle.written_site.specs.SiteState.{SiteState, facts_of, holder_of, is_resting}
use Rattle.written_site.specs.SiteChecks.{Passed, own_event, flow_since, release_at}
use Rattle.written_site.specs.SiteChecks.{test_release_at}
use Rattle.written_site.specs.SiteStep.{with_event, points_after, holds_after, holds_unless_over}
use Rattle.written_site.specs.SiteStep.{ends_at_sign_off, holds_without, ends_release}
use Rattle.written_site.proofs.SoundTables.{same, told_once, facts_there, row_of-other, RowAfter}
use Rattle.written_site.proofs.SoundTables.{kept, done, row_after}
use Rattle.written_site.proofs.SoundMachine.{is_release, released_after}

-- ---- one hold

-- the hold of a point, once one is taken or ended
pub taken_hold : (holds : FinMap nat_cmp ℕ) (p t q : ℕ)
    → finite.get (finite.insert holds p t) q ≡ cond (q == p) (Some t) (finite.get holds q)
taken_hold holds p t q =
    get-insert nat_cmp_total holds p t q
    ∙ ap (λ (b : Bool). cond b (Some t) (finite.get holds q)) (unsigned_tied q p)

pub ended_hold : (holds : FinMap nat_cmp ℕ) (p q : ℕ)
    → finite.get (finite.remove holds p) q ≡ cond (q == p) None (finite.get holds q)
ended_hold holds p q =
    get-remove nat_cmp_total holds p q
    ∙ ap (λ (b : Bool). cond b None (finite.get holds q)) (unsigned_tied q p)

-- ---- what the step of a point says of its release

-- a point that is released afterwards didn't end what it was released for
pub goes_on_released : (event : PointEvent) (f : Facts) → is_released (after event f).state ≡ true
    → ends_release (step_of event f) ≡ false
goes_on_released event f is = grind (arith, common_steps)

pub offline_ends : (f : Facts) → refusal_of points.Offline f ≡ None
    → is_released (after points.Offline f).state ≡ false
offline_ends f taken = grind (arith, common_steps)

pub unassigned_rests : (f : Facts) → refusal_of points.Unassign f ≡ None
    → is_released (after points.Unassign f).state ≡ false
unassigned_rests f taken = grind (arith, common_steps)

pub doesn't_rest : (state : PointState) → is_released state ≡ true → is_resting state ≡ false
doesn't_rest state is = grind (arith, common_steps)

-- ---- the holds after an event

-- released points are held
abbrev AreHeld : SiteState → Type 0
AreHeld s = (q : ℕ) (f : Facts) → row_of q s.points ≡ Some f → is_released f.state ≡ true
    → is_some (holder_of s q) ≡ true

-- what an event is to its point isn't a release
abbrev releases_by : Option (ℕ × PointEvent) → Bool
releases_by None = false
releases_by (Some e) = is_release e.1

-- an event that neither releases a point nor changes a hold
stays : (s : SiteState) (own : Option (ℕ × PointEvent)) → releases_by own ≡ false → AreHeld s
    → (q : ℕ) (f : Facts) → row_of q (with_event s.points own) ≡ Some f
    → is_released f.state ≡ true → is_some (holder_of s q) ≡ true
stays s own other held q f is released = by_row (row_after s.points own q f is)
  where
    by_row : RowAfter s.points own q f → is_some (holder_of s q) ≡ true
    by_row (kept row away) = held q f row released
    by_row (done event old at row made) =
        let before : is_release event ≡ false = ap releases_by (sym at) ∙ other in
        held q old row (released_after event old before
        (ap (λ (g : Facts). is_released g.state) (sym made) ∙ released))

-- an event of a point, at another point
elsewhere : (s : SiteState) (p q : ℕ) (event : PointEvent) (f : Facts) → (q == p) ≡ false
    → row_of q (with_event s.points (Some (p, event))) ≡ Some f → row_of q s.points ≡ Some f
elsewhere s p q event f other is =
    sym (row_of-other p q (after event (facts_of s p)) s.points other) ∙ is

-- at its own
here : (s : SiteState) (p q : ℕ) (event : PointEvent) (f : Facts) → (q == p) ≡ true
    → row_of q (with_event s.points (Some (p, event))) ≡ Some f → f ≡ after event (facts_of s p)
here s p q event f at is = by_row (row_after s.points (Some (p, event)) q f is)
  where
    by_row : RowAfter s.points (Some (p, event)) q f → f ≡ after event (facts_of s p)
    by_row (kept row away) =
        absurd (away event (ap (λ (r : ℕ). Some (r, event)) (sym (same q p at))))
    by_row (done other old own row made) =
        let pair = told_once (p, event) (q, other) own in
        let event_is : other ≡ event = sym (ap (λ (x : ℕ × PointEvent). x.1) pair) in
        let point_is : p ≡ q = ap (λ (x : ℕ × PointEvent). x.0) pair in
        let facts : facts_of s p ≡ old = ap (facts_of s) point_is
        ∙ facts_there s.points q old row in
        made ∙ ap (λ (x : PointEvent). after x old) event_is ∙ ap (after event) (sym facts)

takes : (s : SiteState) (p t : ℕ) (event : PointEvent) → AreHeld s → (q : ℕ) (f : Facts)
    → row_of q (with_event s.points (Some (p, event))) ≡ Some f → is_released f.state ≡ true
    → is_some (finite.get (finite.insert s.holds p t) q) ≡ true
takes s p t event held q f is released = rw (taken_hold s.holds p t q) (by_test (q == p) refl)
  where
    by_test : (b : Bool) → (q == p) ≡ b → is_some (cond b (Some t) (holder_of s q)) ≡ true
    by_test true at = refl
    by_test false other = held q f (elsewhere s p q event f other is) released

ends : (s : SiteState) (p : ℕ) (event : PointEvent)
    → is_released (after event (facts_of s p)).state ≡ false → AreHeld s → (q : ℕ) (f : Facts)
    → row_of q (with_event s.points (Some (p, event))) ≡ Some f → is_released f.state ≡ true
    → is_some (finite.get (finite.remove s.holds p) q) ≡ true
ends s p event rest held q f is released = rw (ended_hold s.holds p q) (by_test (q == p) refl)
  where
    by_test : (b : Bool) → (q == p) ≡ b → is_some (cond b None (holder_of s q)) ≡ true
    by_test true at =
        let made : f ≡ after event (facts_of s p) = here s p q event f at is in
        absurd (false≢true
        (sym rest ∙ ap (λ (g : Facts). is_released g.state) (sym made) ∙ released))
    by_test false other = held q f (elsewhere s p q event f other is) released

unless_over : (s : SiteState) (p : ℕ) (event : PointEvent) → is_release event ≡ false → AreHeld s
    → (q : ℕ) (f : Facts) → row_of q (with_event s.points (Some (p, event))) ≡ Some f
    → is_released f.state ≡ true
    → is_some (finite.get (holds_unless_over p (step_of event (facts_of s p)) s.holds) q) ≡ true
unless_over s p event other held q f is released =
    by_test (q == p) refl (ends_release (step_of event (facts_of s p))) refl
  where
    by_test : (b : Bool) → (q == p) ≡ b → (over : Bool)
        → ends_release (step_of event (facts_of s p)) ≡ over
        → is_some (finite.get (cond over (finite.remove s.holds p) s.holds) q) ≡ true
    by_test b at false goes_on = stays s (Some (p, event)) other held q f is released
    by_test true at true over =
        let made : f ≡ after event (facts_of s p) = here s p q event f at is in
        absurd (false≢true (sym (goes_on_released event (facts_of s p)
        (ap (λ (g : Facts). is_released g.state) (sym made) ∙ released)) ∙ over))
    by_test false at true over =
        rw (ended_hold s.holds p q, at) (held q f (elsewhere s p q event f at is) released)

signed_off : (s : SiteState) (t : ℕ) → AreHeld s → (q : ℕ) (f : Facts)
    → row_of q s.points ≡ Some f → is_released f.state ≡ true
    → is_some (finite.get (holds_without s.points s.holds t) q) ≡ true
signed_off s t held q f is released =
    let resting : is_resting f.state ≡ false = doesn't_rest f.state released in
    let stays_there : not (ends_at_sign_off s.points s.holds t q) ≡ true =
    rw is (rw resting refl) in
    rw (
      get-retain_keys s.holds (λ p. not (ends_at_sign_off s.points s.holds t p)) q
          (λ x tied. ap (λ (y : ℕ). not (ends_at_sign_off s.points s.holds t y))
          (sym (nat_cmp-IsAntisymmetric q x tied))),
      stays_there,
    ) (held q f is released)

-- a point that is released after an accepted event is held
pub held_after : (s : SiteState) (a : Actor) (e : Event) → Passed s a e → AreHeld s
    → (q : ℕ) (f : Facts) → row_of q (points_after s e) ≡ Some f → is_released f.state ≡ true
    → is_some (finite.get (holds_after s a e) q) ≡ true
held_after s (Till t) SignOff passed held = signed_off s t held
held_after s (Till t) (Assign p) passed held = takes s p t points.Assign held
held_after s (Till t) (Release p preset) passed held = takes s p t (release_at s p preset None) held
held_after s (Till t) (Prepay p cents) passed held =
    takes s p t (release_at s p (Money cents) (Some cents)) held
held_after s (Till t) (TestRelease p) passed held = takes s p t (test_release_at s p) held
held_after s (Till t) (Unassign p) passed held =
    ends s p points.Unassign (unassigned_rests (facts_of s p) passed.takes) held
held_after s a (Offline p) passed held =
    ends s p points.Offline (offline_ends (facts_of s p) passed.takes) held
held_after s a (HangUp p n reading) passed held =
    unless_over s p (points.HangUp n (flow_since s p n reading)) refl held
held_after s a (Terminate p) passed held = unless_over s p points.Terminate refl held
held_after s (Dispenser d) (Release p preset) passed held = (let asks = passed.asks in absurd cc)
held_after s (Dispenser d) (Prepay p cents) passed held = (let asks = passed.asks in absurd cc)
held_after s (Dispenser d) (TestRelease p) passed held = (let asks = passed.asks in absurd cc)
held_after s a e passed held = stays s (own_event s e) refl held
