-- The lockers of sales stay signed on, and no sale is cleared in a shift to come.
use Rattle.std.proofs.Common.{◌≡◌, ℕ, ◌≤◌, ◌==◌, ◌&&◌, ◌||◌, not, Bool, true, false, cond, List}
use Rattle.std.proofs.Common.{Option, Some, None, refl, sym, ap, subst, ◌∙◌, arith}
use Rattle.std.specs.Ordering.{nat_cmp}
use Rattle.std.specs.Cmp.{nat_cmp_total, unsigned_tied}
use Rattle.std.specs.Ordering.{eq_by_cmp}
use Rattle.std.specs.FinSet as set
use Rattle.site_base.specs.declared.actor.Actor.{Actor}
use Rattle.site_base.specs.declared.actor.Actor.TheVariants.{Till}
use Rattle.site_base.specs.declared.event.Event.{Event}
use Rattle.site_base.specs.declared.event.Event.TheVariants.{SignOn, SignOff, Lock, Unlock, Clear}
use Rattle.site_base.specs.declared.event.Event.TheVariants.{Offline, HangUp}
use Rattle.site_base.specs.declared.refusal.Refusal.TheVariants.{NotSignedOn}
use Rattle.fuelling_point.specs.declared.step.PointStep.{PointStep}
use Rattle.fuelling_point.specs.declared.step.PointStep.TheVariants.{Sold}
use Rattle.meters.specs.Nozzles.{Nozzle}
use Rattle.transaction_buffer.specs.declared.request.Request.{Request}
use Rattle.transaction_buffer.specs.declared.request.Request.TheVariants as requests
use Rattle.transaction_buffer.specs.declared.standing.Standing.{Standing}
use Rattle.transaction_buffer.specs.declared.standing.Standing.TheVariants.{Payable, LockedBy}
use Rattle.transaction_buffer.specs.declared.standing.Standing.TheVariants.{ClearedBy}
use Rattle.transaction_buffer.specs.Sales.{Sale, new_standing}
use Rattle.transaction_buffer.specs.TransactionTable.{Seen, payable, locked_by_it, locked_by_other}
use Rattle.transaction_buffer.specs.TransactionTable.{cleared_by, line, seen_by, sale_after}
use Rattle.transaction_buffer.specs.TransactionTable.{sale_after_request, is_locked_by}
use Rattle.transaction_buffer.specs.TransactionTable.{unlock_all_of}
use Rattle.written_site.specs.SiteState.{SiteState, facts_of, holder_of, is_signed_on, key_named}
use Rattle.written_site.specs.SiteState.{open_shift}
use Rattle.written_site.specs.SiteChecks.{Passed}
use Rattle.written_site.specs.SiteStep.{accepted_site, step_at, nozzles_after, sales_after}
use Rattle.written_site.specs.SiteStep.{sales_by, sale_made, first_locker, if_signed_on}
use Rattle.written_site.specs.Sound.{IsStanding, Sound}
use Rattle.written_site.proofs.EachSale.{Each, each_let_go, each_asked, each_sold}
use Rattle.written_site.proofs.SoundDraws.{shifts_kept}
use Rattle.written_site.proofs.SoundPrices.{holds_unless}

abbrev StandsIn : SiteState → Sale → Type 0
StandsIn s x = IsStanding s x.standing

-- a site at which no till has signed off since, and no shift is lost
record IsLater (old new : SiteState) : Type 0 where
  tills : (t : ℕ) → is_signed_on old t ≡ true → is_signed_on new t ≡ true
  shifts : open_shift old ≤ open_shift new

stands_later : (old new : SiteState) → IsLater old new → (y : Standing) → IsStanding old y
    → IsStanding new y
stands_later old new later Payable is = tt
stands_later old new later (LockedBy t) is = later.tills t is
stands_later old new later (ClearedBy t h) is = omega (arith, later.shifts, is)

-- ---- what a till asks

-- how a request leaves a sale: as it was, payable, locked by its till, or cleared by it in its
-- shift
leaves : (P : Standing → Type 0) (request : Request) (t cents : ℕ) (v : Seen) (x : Sale)
    → P x.standing → P Payable → P (LockedBy t)
    → ((h : ℕ) → request ≡ requests.Clear h → P (ClearedBy t h))
    → P (sale_after (line request t cents v) x).standing
leaves P requests.Lock t cents payable x was free locked clears = locked
leaves P requests.Lock t cents locked_by_it x was free locked clears = locked
leaves P requests.Lock t cents (locked_by_other u) x was free locked clears = was
leaves P requests.Lock t cents (cleared_by u) x was free locked clears = was
leaves P requests.Unlock t cents payable x was free locked clears = was
leaves P requests.Unlock t cents locked_by_it x was free locked clears = free
leaves P requests.Unlock t cents (locked_by_other u) x was free locked clears = was
leaves P requests.Unlock t cents (cleared_by u) x was free locked clears = was
leaves P (requests.Clear h) t cents payable x was free locked clears = was
leaves P (requests.Clear h) t cents locked_by_it x was free locked clears = clears h refl
leaves P (requests.Clear h) t cents (locked_by_other u) x was free locked clears = was
leaves P (requests.Clear h) t cents (cleared_by u) x was free locked clears = was

asked_stands : (s : SiteState) (request : Request) (t : ℕ) → is_signed_on s t ≡ true
    → ((h : ℕ) → request ≡ requests.Clear h → h ≤ open_shift s)
    → (x : Sale) → StandsIn s x → StandsIn s (sale_after_request request t x)
asked_stands s request t on shift x is =
    leaves (IsStanding s) request t x.cents (seen_by t x.standing) x is tt on shift

lock_isn't_clear : (h n : ℕ) → requests.Lock ≡ requests.Clear h → h ≤ n
lock_isn't_clear h n is = cc

unlock_isn't_clear : (h n : ℕ) → requests.Unlock ≡ requests.Clear h → h ≤ n
unlock_isn't_clear h n is = cc

clear_in : (h n : ℕ) → requests.Clear n ≡ requests.Clear h → h ≤ n
clear_in h n is = let same_shift : n ≡ h = cc in omega (arith, same_shift)

-- ---- a sign-off

other_signed_on : (s : SiteState) (t u : ℕ) → (u == t) ≡ false → is_signed_on s u ≡ true
    → is_signed_on (accepted_site s (Till t) SignOff) u ≡ true
other_signed_on s t u other on =
    set.contains-remove nat_cmp_total s.signed_on t u
    ∙ ap (λ (b : Bool). not b && is_signed_on s u) (unsigned_tied u t ∙ other) ∙ on

let_go_stands : (s : SiteState) (t : ℕ) (x : Sale) → StandsIn s x
    → StandsIn (accepted_site s (Till t) SignOff) (unlock_all_of t x)
let_go_stands s t x is = by_standing x.standing refl is
  where
    new : SiteState
    new = accepted_site s (Till t) SignOff

    by_standing : (y : Standing) → x.standing ≡ y → IsStanding s y
        → IsStanding new (cond (is_locked_by t y) (record x { standing = Payable }) x).standing
    by_standing Payable at is = subst (IsStanding new) (sym at) tt
    by_standing (LockedBy u) at is = by_test (u == t) refl
      where
        by_test : (b : Bool) → (u == t) ≡ b
            → IsStanding new (cond b (record x { standing = Payable }) x).standing
        by_test true own = tt
        by_test false other = subst (IsStanding new) (sym at) (other_signed_on s t u other is)
    by_standing (ClearedBy u h) at is = subst (IsStanding new) (sym at) is

-- ---- a sale

first_stands : (s : SiteState) (p : ℕ) (prepaid : Option ℕ)
    → IsStanding s (new_standing (first_locker s p prepaid))
first_stands s p None = tt
first_stands s p (Some cents) = by_holder (holder_of s p)
  where
    by_test : (t : ℕ) (b : Bool) → is_signed_on s t ≡ b
        → IsStanding s (new_standing (cond b (Some t) None))
    by_test t true on = on
    by_test t false off = tt

    by_holder : (o : Option ℕ) → IsStanding s (new_standing (if_signed_on s o))
    by_holder None = tt
    by_holder (Some t) = by_test t (is_signed_on s t) refl

sold_stands : (s new : SiteState) (nozzles : List Nozzle) (p : ℕ) (step : PointStep)
    → IsLater s new → Each (StandsIn s) s.sales → Each (StandsIn new) (sales_by s nozzles p step)
sold_stands s new nozzles p (Sold nozzle volume price prepaid) later =
    each_sold (StandsIn s) (StandsIn new) p (sale_made s nozzles p) s.sales
    (λ x. stands_later s new later x.standing)
    (stands_later s new later (sale_made s nozzles p).standing
    (first_stands s p (facts_of s p).prepaid))
sold_stands s new nozzles p step later = λ all k x is.
    stands_later s new later x.standing (all k x is)

-- ---- every event

signs_on : (s : SiteState) (t : ℕ) → IsLater s (accepted_site s (Till t) SignOn)
signs_on s t = record {
  tills = λ u on. set.contains-insert nat_cmp_total s.signed_on t u
      ∙ by_test (eq_by_cmp nat_cmp u t) (is_signed_on s u) on;
  shifts = omega arith;
}
  where
    by_test : (b c : Bool) → c ≡ true → (b || c) ≡ true
    by_test true c is = refl
    by_test false c is = is

same_tills : (s new : SiteState) → open_shift s ≤ open_shift new → new.signed_on ≡ s.signed_on
    → IsLater s new
same_tills s new shifts tills = record {
  tills = λ t on. ap (λ (on_site : set.FinSet nat_cmp). set.contains on_site t) tills ∙ on;
  shifts = shifts;
}

pub standing_after : (s : SiteState) (a : Actor) (e : Event) → Sound s → Passed s a e
    → Each (StandsIn (accepted_site s a e)) (sales_after s a e)
standing_after s (Till t) SignOn sound passes = λ k x is.
    stands_later s (accepted_site s (Till t) SignOn) (signs_on s t) x.standing
    (sound.standings k x is)
standing_after s (Till t) SignOff sound passes =
    each_let_go (StandsIn s) (StandsIn (accepted_site s (Till t) SignOff)) t s.sales
    (let_go_stands s t) sound.standings
standing_after s (Till t) (Lock p id) sound passes =
    each_asked (StandsIn s) (StandsIn s) requests.Lock t (key_named s p id) s.sales (λ x is. is)
    (asked_stands s requests.Lock t (holds_unless (is_signed_on s t) NotSignedOn passes.signs)
    (λ h. lock_isn't_clear h (open_shift s)))
    sound.standings
standing_after s (Till t) (Unlock p id) sound passes =
    each_asked (StandsIn s) (StandsIn s) requests.Unlock t (key_named s p id) s.sales (λ x is. is)
    (asked_stands s requests.Unlock t (holds_unless (is_signed_on s t) NotSignedOn passes.signs)
    (λ h. unlock_isn't_clear h (open_shift s)))
    sound.standings
standing_after s (Till t) (Clear p id) sound passes =
    each_asked (StandsIn s) (StandsIn s) (requests.Clear (open_shift s)) t (key_named s p id)
    s.sales
    (λ x is. is)
    (asked_stands s (requests.Clear (open_shift s)) t
    (holds_unless (is_signed_on s t) NotSignedOn passes.signs) (λ h. clear_in h (open_shift s)))
    sound.standings
standing_after s a (Offline p) sound passes =
    let new : SiteState = accepted_site s a (Offline p) in
    sold_stands s new s.nozzles p (step_at s (Offline p))
    (same_tills s new (shifts_kept s (Offline p)) refl) sound.standings
standing_after s a (HangUp p n reading) sound passes =
    let new : SiteState = accepted_site s a (HangUp p n reading) in
    sold_stands s new (nozzles_after s (HangUp p n reading)) p (step_at s (HangUp p n reading))
    (same_tills s new (shifts_kept s (HangUp p n reading)) refl) sound.standings
standing_after s a e sound passes = λ k x is.
    let new : SiteState = accepted_site s a e in
    stands_later s new (same_tills s new (shifts_kept s e) refl) x.standing (sound.standings k x is)
