-- The meter of the nozzle that is out, and the point that its reports are of.
use Rattle.std.proofs.Common.{◌≡◌, ℕ, ◌+◌, ◌≤◌, ◌<◌, ◌==◌, Bool, true, false, List, Option, Some}
use Rattle.std.proofs.Common.{None, refl, ap, subst, arith}
use Rattle.std.proofs.lemmas.Bool.Decides.{nat_tests}
use Rattle.std.proofs.lemmas.Grind.{common_steps}
use Rattle.site_base.specs.declared.event.Event.{Event}
use Rattle.site_base.specs.declared.event.Event.TheVariants.{SignOn, SignOff, ReplaceMeter}
use Rattle.site_base.specs.declared.event.Event.TheVariants.{ReadPoint, Lock, Unlock, Clear}
use Rattle.site_base.specs.declared.event.Event.TheVariants.{ReadTransaction, SetPrice, ReadProduct}
use Rattle.site_base.specs.declared.event.Event.TheVariants.{CloseShift, ReadSite, Flow, HangUp}
use Rattle.meters.specs.declared.meter.TheConstants.{REPLACEMENT_LIMIT}
use Rattle.site_base.specs.declared.amounts.TheConstants.{GREATEST_READING}
use Rattle.fuelling_point.specs.declared.event.PointEvent.{PointEvent}
use Rattle.fuelling_point.specs.declared.event.PointEvent.TheVariants as points
use Rattle.fuelling_point.specs.KeptPoints.{Facts, growth_of, is_under_way}
use Rattle.fuelling_point.specs.PointChecks.{refusal_of}
use Rattle.fuelling_point.specs.Whole.{IsWhole}
use Rattle.meters.specs.Nozzles.{Nozzle, reading_of, has_nozzle, times_replaced, with_nozzle}
use Rattle.meters.specs.Nozzles.{with_last, read_at, replaced_at, AreNozzles, EachMetered}
use Rattle.meters.specs.declared.report.Report.TheVariants.{Growing}
use Rattle.meters.proofs.Bounds.{reads, replaces}
use Rattle.meters.proofs.Lookups.{length-with_nozzle, read_there}
use Rattle.meters.proofs.Weights.{accepted_above}
use Rattle.written_site.specs.SiteState.{SiteState, facts_of}
use Rattle.written_site.specs.SiteChecks.{own_event, numbers, at_point, metering, flow_since}
use Rattle.written_site.specs.SiteChecks.{put_back_at}
use Rattle.written_site.specs.SiteStep.{nozzles_after}
use Rattle.written_site.specs.SoundSteps.{IsTaken, growth_at, growth_by}
use Rattle.written_site.specs.Volumes.{nozzle_out}
use Rattle.written_site.proofs.SoundTables.{same}
use Rattle.written_site.proofs.SoundMeters.{read_keeps, replaced_keeps, reading_taken}
use Rattle.written_site.proofs.SoundMeters.{reading_other}

-- ---- the event that an event is to a point

pub own_growth : (s : SiteState) (e : Event) (q : ℕ) (event : PointEvent)
    → own_event s e ≡ Some (q, event) → growth_at s e ≡ growth_of event
own_growth s e q event own = ap growth_by own

-- the nozzle that flows, or is put back, is the one that is out
pub flow_is_out : (n growth : ℕ) (f : Facts) → IsWhole f
    → refusal_of (points.Flow n growth) f ≡ None
    → nozzle_out f ≡ n
flow_is_out n growth f w taken =
    let nozzle = w.nozzle in grind (arith, common_steps, nat_tests)

pub hung_up_is_out : (n growth : ℕ) (f : Facts) → IsWhole f
    → refusal_of (points.HangUp n growth) f ≡ None → nozzle_out f ≡ n
hung_up_is_out n growth f w taken =
    let nozzle = w.nozzle in grind (arith, common_steps, nat_tests)

-- ---- the reading after a report

-- what a report names is there
pub flow_nozzle : (s : SiteState) (p n reading : ℕ) → numbers s (Flow p n reading) ≡ None
    → has_nozzle p n s.nozzles ≡ true
flow_nozzle s p n reading names = grind (arith, common_steps)

pub hung_up_nozzle : (s : SiteState) (p n reading : ℕ) → numbers s (HangUp p n reading) ≡ None
    → has_nozzle p n s.nozzles ≡ true
hung_up_nozzle s p n reading names = grind (arith, common_steps)

grown : (s : SiteState) (p n reading : ℕ) → has_nozzle p n s.nozzles ≡ true
    → reading_of p n s.nozzles ≤ reading
    → reading_of p n (with_last p n reading s.nozzles)
    ≡ reading_of p n s.nozzles + flow_since s p n reading
grown s p n reading there above =
    let taken : reading_of p n (with_last p n reading s.nozzles) ≡ reading =
    reading_taken p n reading s.nozzles there in
    omega arith

-- the event names what is there, its point takes it, and its meter agrees
pub record IsRead (s : SiteState) (e : Event) : Type 0 where
  pub names : numbers s e ≡ None
  pub takes : at_point s e ≡ None
  pub reads : metering s e ≡ None

pub read_of : (s : SiteState) (e : Event) → IsTaken s e → IsRead s e
read_of s e taken = record { names = taken.names; takes = taken.takes; reads = taken.reads }

-- a report's nozzle reads what flowed above what it read
pub flow_grows : (s : SiteState) (p n reading : ℕ) → IsRead s (Flow p n reading)
    → reading_of p n (with_last p n reading s.nozzles)
    ≡ reading_of p n s.nozzles + flow_since s p n reading
flow_grows s p n reading taken =
    grown s p n reading (flow_nozzle s p n reading taken.names)
    (accepted_above Growing (reading_of p n s.nozzles) reading taken.reads)

pub hung_up_grows : (s : SiteState) (p n reading : ℕ) → IsRead s (HangUp p n reading)
    → reading_of p n (with_last p n reading s.nozzles)
    ≡ reading_of p n s.nozzles + flow_since s p n reading
hung_up_grows s p n reading taken =
    grown s p n reading (hung_up_nozzle s p n reading taken.names)
    (accepted_above (put_back_at (facts_of s p).state) (reading_of p n s.nozzles) reading
    taken.reads)

-- ---- after any event

-- a point that isn't the event's
pub apart : (p q : ℕ) (event : PointEvent)
    → ((other : PointEvent) → ◌≡◌ {A = Option (ℕ × PointEvent)} (Some (p, event)) (Some (q, other))
    → ⊥) → (p == q) ≡ false
apart p q event away = by_test (p == q) refl
  where
    by_test : (b : Bool) → (p == q) ≡ b → (p == q) ≡ false
    by_test true is = absurd (away event (ap (λ (r : ℕ). Some (r, event)) (same p q is)))
    by_test false is = is

-- a point that the event isn't of
pub reading_elsewhere : (s : SiteState) (e : Event) (q m : ℕ)
    → ((event : PointEvent) → own_event s e ≡ Some (q, event) → ⊥)
    → reading_of q m (nozzles_after s e) ≡ reading_of q m s.nozzles
reading_elsewhere s (Flow p n reading) q m away =
    reading_other p n q m (read_at reading) s.nozzles
    (apart p q (points.Flow n (flow_since s p n reading)) away) (read_keeps reading)
reading_elsewhere s (HangUp p n reading) q m away =
    reading_other p n q m (read_at reading) s.nozzles
    (apart p q (points.HangUp n (flow_since s p n reading)) away) (read_keeps reading)
reading_elsewhere s (ReplaceMeter p n reading) q m away =
    reading_other p n q m (replaced_at reading) s.nozzles
    (apart p q points.ReplaceMeter away) (replaced_keeps reading)
reading_elsewhere s e q m away = refl

-- the nozzle that is out at a point, where a fuelling is under way, once the point's event has let
-- so much flow
abbrev ReadsOwn : SiteState → List Nozzle → Option (ℕ × PointEvent) → Type 0
ReadsOwn s nozzles None = Unit {0}
ReadsOwn s nozzles (Some x) =
    IsWhole (facts_of s x.0) → is_under_way (facts_of s x.0).state ≡ true
    → reading_of x.0 (nozzle_out (facts_of s x.0)) nozzles
    ≡ reading_of x.0 (nozzle_out (facts_of s x.0)) s.nozzles + growth_of x.1

none_flows : (reading : ℕ) → reading ≡ reading + 0
none_flows reading = omega arith

-- no fuelling is under way where a meter is replaced
replaced_at_rest : (f : Facts) → refusal_of points.ReplaceMeter f ≡ None
    → is_under_way f.state ≡ true → ⊥
replaced_at_rest f taken under_way = grind (arith, common_steps)

reads_own : (s : SiteState) (e : Event) → IsRead s e
    → ReadsOwn s (nozzles_after s e) (own_event s e)
reads_own s (Flow p n reading) taken = λ w under_way.
    let out : nozzle_out (facts_of s p) ≡ n =
    flow_is_out n (flow_since s p n reading) (facts_of s p) w taken.takes in
    rw out (flow_grows s p n reading taken)
reads_own s (HangUp p n reading) taken = λ w under_way.
    let out : nozzle_out (facts_of s p) ≡ n =
    hung_up_is_out n (flow_since s p n reading) (facts_of s p) w taken.takes in
    rw out (hung_up_grows s p n reading taken)
reads_own s (ReplaceMeter p n reading) taken = λ w under_way.
    absurd (replaced_at_rest (facts_of s p) taken.takes under_way)
reads_own s SignOn taken = tt
reads_own s SignOff taken = tt
reads_own s (ReadPoint p) taken = tt
reads_own s (Lock p id) taken = tt
reads_own s (Unlock p id) taken = tt
reads_own s (Clear p id) taken = tt
reads_own s (ReadTransaction p id) taken = tt
reads_own s (SetPrice q price) taken = tt
reads_own s (ReadProduct q) taken = tt
reads_own s CloseShift taken = tt
reads_own s ReadSite taken = tt
reads_own s e taken = λ w under_way. none_flows _

-- the fuelling under way at the event's point: its nozzle reads what flowed above what it read
pub reading_read : (s : SiteState) (e : Event) (q : ℕ) (event : PointEvent) → IsRead s e
    → own_event s e ≡ Some (q, event) → IsWhole (facts_of s q)
    → is_under_way (facts_of s q).state ≡ true
    → reading_of q (nozzle_out (facts_of s q)) (nozzles_after s e)
    ≡ reading_of q (nozzle_out (facts_of s q)) s.nozzles + growth_of event
reading_read s e q event taken own =
    subst (ReadsOwn s (nozzles_after s e)) own (reads_own s e taken)

pub reading_own : (s : SiteState) (e : Event) (q : ℕ) (event : PointEvent) → IsTaken s e
    → own_event s e ≡ Some (q, event) → IsWhole (facts_of s q)
    → is_under_way (facts_of s q).state ≡ true
    → reading_of q (nozzle_out (facts_of s q)) (nozzles_after s e)
    ≡ reading_of q (nozzle_out (facts_of s q)) s.nozzles + growth_of event
reading_own s e q event taken own = reading_read s e q event (read_of s e taken) own

-- ---- the nozzles after an event are such as a site has

few_replaced : (s : SiteState) (p n reading : ℕ) → metering s (ReplaceMeter p n reading) ≡ None
    → times_replaced p n s.nozzles < REPLACEMENT_LIMIT
few_replaced s p n reading reads = grind (arith, common_steps, nat_tests)

changed_nozzles : (p n : ℕ) (change : Nozzle → Nozzle) (xs : List Nozzle) → AreNozzles xs
    → EachMetered (with_nozzle p n change xs) → AreNozzles (with_nozzle p n change xs)
changed_nozzles p n change xs are each =
    record { few = omega (arith, length-with_nozzle p n change xs, are.few); each = each }

read_nozzles : (p n reading : ℕ) (xs : List Nozzle) → AreNozzles xs → has_nozzle p n xs ≡ true
    → reading_of p n xs ≤ reading → reading ≤ GREATEST_READING
    → AreNozzles (with_last p n reading xs)
read_nozzles p n reading xs are there above high =
    changed_nozzles p n (read_at reading) xs are
    (reads xs p n reading (reading_of p n xs) are.each (read_there p n xs there) above high)

pub nozzles_stay : (s : SiteState) (e : Event) → IsTaken s e → AreNozzles s.nozzles
    → AreNozzles (nozzles_after s e)
nozzles_stay s (Flow p n reading) taken are =
    read_nozzles p n reading s.nozzles are (flow_nozzle s p n reading taken.names)
    (accepted_above Growing (reading_of p n s.nozzles) reading taken.reads) taken.range
nozzles_stay s (HangUp p n reading) taken are =
    read_nozzles p n reading s.nozzles are (hung_up_nozzle s p n reading taken.names)
    (accepted_above (put_back_at (facts_of s p).state) (reading_of p n s.nozzles) reading
    taken.reads)
    taken.range
nozzles_stay s (ReplaceMeter p n reading) taken are =
    changed_nozzles p n (replaced_at reading) s.nozzles are
    (replaces s.nozzles p n reading are.each (few_replaced s p n reading taken.reads) taken.range)
nozzles_stay s e taken are = are
