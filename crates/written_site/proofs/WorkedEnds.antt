-- Worked takes and ends of the hold of a point, by every event that takes it and every reply that
-- tells an end.
use Rattle.std.proofs.Common.{◌≡◌, ℕ, Bool, false, true, List, [], ◌∷◌, ◌++◌, map, Option, Some}
use Rattle.std.proofs.Common.{None, Ok, Err, refl, sym, ap, ◌∙◌}
use Rattle.site_base.specs.declared.answer.Answer.TheVariants.{Done, Start, Flowed, NoSale, Sold}
use Rattle.site_base.specs.declared.answer.Answer.TheVariants.{Stopped, Drawn, Ending}
use Rattle.site_base.specs.declared.event.Event.TheVariants.{SignOn, SignOff, Open, Assign}
use Rattle.site_base.specs.declared.event.Event.TheVariants.{Unassign, Release, Prepay, TestRelease}
use Rattle.site_base.specs.declared.event.Event.TheVariants.{Terminate, Online, Offline, Lift, Flow}
use Rattle.site_base.specs.declared.event.Event.TheVariants.{HangUp}
use Rattle.site_base.specs.declared.refusal.Refusal.TheVariants.{AssignedToOther, WrongState}
use Rattle.site_base.specs.declared.row.Row.{Row}
use Rattle.site_base.specs.declared.state.PointState.TheVariants.{Closed}
use Rattle.site_base.specs.declared.state.Preset.TheVariants.{Unset, Money}
use Rattle.site_base.specs.Configured.{Configured}
use Rattle.written_site.specs.SiteState.{SiteState, opening, holder_of}
use Rattle.written_site.specs.SiteStep.{reply_to, site_after}
use Rattle.written_site.specs.SiteRun.{replies_of}
use Rattle.written_site.specs.Histories.{Moment, moments_after, moments_of}
use Rattle.written_site.specs.Holders.{takes_hold, ends_hold}
use Rattle.written_site.proofs.WorkedRows.{known_site, t1, t2, d1, d2, AreAnswered}
use Rattle.written_site.proofs.WorkedReplies.{site_told, replies_on, leads, answered, kit}

-- what a row is to the hold of a point: the till that takes it, whether it ends the hold of the
-- till that is looked at, and the till that holds the point then
record Effect : Type 0 where
  take : Option ℕ
  ends : Bool
  holder : Option ℕ

-- the row neither takes nor ends the hold: its holder stays
abbrev holder_stays : Option ℕ → Effect
holder_stays holder = record { take = None; ends = false; holder = holder }

-- till t takes the hold
abbrev taken_by : ℕ → Effect
taken_by t = record { take = Some t; ends = false; holder = Some t }

-- the hold ends
abbrev ended : Effect
ended = record { take = None; ends = true; holder = None }

-- what a moment is to the hold that till t may have of point p
abbrev effect : ℕ → ℕ → Moment → Effect
effect p t m = record {
  take = takes_hold p m;
  ends = ends_hold p t m;
  holder = holder_of (site_after m.before m.row.actor m.row.event) p;
}

-- the same of rows that are told the site's replies
abbrev effects_on : ℕ → ℕ → SiteState → List Row → List Effect
effects_on p t s [] = []
effects_on p t s (r ∷ rs) = record {
  take = takes_hold p (record { earlier = []; before = s; row = r });
  ends = ends_hold p t (record { earlier = []; before = s; row = r });
  holder = holder_of (site_told s r.actor r.event r.reply) p;
} ∷ effects_on p t (site_told s r.actor r.event r.reply) rs

-- rows that are told the site's replies are this to the hold
effects_are : (p t : ℕ) (earlier : List Row) (s : SiteState) (rows : List Row)
    → replies_on s rows ≡ replies_of rows
    → map (effect p t) (moments_after earlier s rows) ≡ effects_on p t s rows
effects_are p t earlier s [] all = refl
effects_are p t earlier s (r ∷ rs) all =
    let here : r.reply ≡ reply_to s r.actor r.event = cc in
    let rest : replies_on (site_told s r.actor r.event r.reply) rs ≡ replies_of rs = cc in
    let first : Moment = record { earlier = earlier; before = s; row = r } in
    ap (λ x. record {
      take = takes_hold p first;
      ends = ends_hold p t first;
      holder = holder_of x p;
    } ∷ map (effect p t) (moments_after (earlier ++ r ∷ []) x rs)) (sym (leads s r here))
    ∙ ap (λ (es : List Effect). record {
      take = takes_hold p first;
      ends = ends_hold p t first;
      holder = holder_of (site_told s r.actor r.event r.reply) p;
    } ∷ es) (effects_are p t (earlier ++ r ∷ []) (site_told s r.actor r.event r.reply) rs rest)

-- from the opening site of this configuration these are the replies, and each row is this to the
-- hold that till t may have of point p
record AreHolds (c : Configured) (p t : ℕ) (rows : List (Row × Effect)) : Type 0 where
  answered : AreAnswered c (map (λ r. r.0) rows)
  effects : map (effect p t) (moments_of c (map (λ r. r.0) rows)) ≡ map (λ r. r.1) rows

-- both are computed
held : {c : Configured} {p t : ℕ} {rows : List (Row × Effect)}
    → replies_on (opening c) (map (λ r. r.0) rows) ≡ replies_of (map (λ r. r.0) rows)
    → effects_on p t (opening c) (map (λ r. r.0) rows) ≡ map (λ r. r.1) rows
    → AreHolds c p t rows
held {c} {p} {t} {rows} told effects = record {
  answered = answered told;
  effects = effects_are p t [] (opening c) (map (λ r. r.0) rows) told ∙ effects;
}

-- a release, a prepaid one and one for a test take the hold; where they are taken back, it ends
taken_back : AreHolds known_site 1 1
    ((t1 SignOn (Ok Done), holder_stays None)
    ∷ (t1 (Open 1) (Ok Done), holder_stays None)
    ∷ (t1 (Release 1 Unset) (Ok Done), taken_by 1)
    ∷ (t1 (Terminate 1) (Ok Stopped), ended)
    ∷ (t1 (Prepay 1 2000) (Ok Done), taken_by 1)
    ∷ (t1 (Terminate 1) (Ok Stopped), ended)
    ∷ (t1 (TestRelease 1) (Ok Done), taken_by 1)
    ∷ (t1 (Terminate 1) (Ok Stopped), ended)
    ∷ [])
taken_back = held (simp kit) (simp kit)

-- it outlives the till's sign-off, and the fuelling ends it: without fuel, with a sale, with a draw
hung_up : AreHolds known_site 1 1
    ((t1 SignOn (Ok Done), holder_stays None)
    ∷ (t1 (Open 1) (Ok Done), holder_stays None)
    ∷ (t1 (Prepay 1 2000) (Ok Done), taken_by 1)
    ∷ (t1 SignOff (Ok Done), holder_stays (Some 1))
    ∷ (d1 (Lift 1 1 0) (Ok (Start (Money 2000) 1500)), holder_stays (Some 1))
    ∷ (d1 (HangUp 1 1 0) (Ok NoSale), ended)
    ∷ (t1 SignOn (Ok Done), holder_stays None)
    ∷ (t1 (Release 1 Unset) (Ok Done), taken_by 1)
    ∷ (d1 (Lift 1 1 0) (Ok (Start Unset 1500)), holder_stays (Some 1))
    ∷ (d1 (Flow 1 1 5000) (Ok (Flowed 5000)), holder_stays (Some 1))
    ∷ (t1 (Terminate 1) (Ok Ending), holder_stays (Some 1))
    ∷ (d1 (HangUp 1 1 5040) (Ok (Sold 1 40)), ended)
    ∷ (t1 (TestRelease 1) (Ok Done), taken_by 1)
    ∷ (d1 (Lift 1 1 5040) (Ok (Start Unset 1500)), holder_stays (Some 1))
    ∷ (d1 (HangUp 1 1 25040) (Ok (Drawn 20000)), ended)
    ∷ [])
hung_up = held (simp kit) (simp kit)

-- a dispenser that goes offline ends the hold: of a closed point, in a fuelling, and in a test
gone : AreHolds known_site 1 1
    ((t1 SignOn (Ok Done), holder_stays None)
    ∷ (t1 (Assign 1) (Ok Done), taken_by 1)
    ∷ (d1 (Offline 1) (Ok Done), ended)
    ∷ (d1 (Online 1) (Ok Done), holder_stays None)
    ∷ (t1 (Open 1) (Ok Done), holder_stays None)
    ∷ (t1 (Release 1 Unset) (Ok Done), taken_by 1)
    ∷ (d1 (Lift 1 1 0) (Ok (Start Unset 1500)), holder_stays (Some 1))
    ∷ (d1 (Flow 1 1 5000) (Ok (Flowed 5000)), holder_stays (Some 1))
    ∷ (d1 (Offline 1) (Ok (Sold 1 0)), ended)
    ∷ (d1 (Online 1) (Ok Done), holder_stays None)
    ∷ (t1 (Open 1) (Ok Done), holder_stays None)
    ∷ (t1 (TestRelease 1) (Ok Done), taken_by 1)
    ∷ (d1 (Lift 1 1 5000) (Ok (Start Unset 1500)), holder_stays (Some 1))
    ∷ (d1 (Flow 1 1 5040) (Ok (Flowed 40)), holder_stays (Some 1))
    ∷ (d1 (Offline 1) (Ok (Drawn 0)), ended)
    ∷ [])
gone = held (simp kit) (simp kit)

-- what is refused is nothing to the hold; nor is what befalls another point, or the sign-off of
-- another till
untouched : AreHolds known_site 1 1
    ((t1 SignOn (Ok Done), holder_stays None)
    ∷ (t2 SignOn (Ok Done), holder_stays None)
    ∷ (t1 (Assign 1) (Ok Done), taken_by 1)
    ∷ (t2 (Assign 1) (Err (AssignedToOther 1)), holder_stays (Some 1))
    ∷ (t2 (Unassign 1) (Err (AssignedToOther 1)), holder_stays (Some 1))
    ∷ (t1 (Release 1 Unset) (Err (WrongState Closed)), holder_stays (Some 1))
    ∷ (t2 (Assign 2) (Ok Done), holder_stays (Some 1))
    ∷ (t2 (Unassign 2) (Ok Done), holder_stays (Some 1))
    ∷ (d2 (Offline 2) (Ok Done), holder_stays (Some 1))
    ∷ (t2 SignOff (Ok Done), holder_stays (Some 1))
    ∷ (t1 SignOff (Ok Done), ended)
    ∷ [])
untouched = held (simp kit) (simp kit)
