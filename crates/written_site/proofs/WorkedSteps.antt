-- Worked events, by computing the definitions on a site of the points 2 and 3.
use Rattle.std.proofs.Common.{◌≡◌, [], ◌∷◌, Some, None, Ok, Err, false, true, refl, ◌∙◌, nat_cmp}
use Rattle.std.specs.Cmp.{nat_cmp_total}
use Rattle.std.specs.FinSet as set
use Rattle.std.specs.FinMap as finite
use Rattle.std.specs.FinMap.{get-empty, get-insert}
use Rattle.site_base.specs.declared.actor.Actor.TheVariants.{Till, Dispenser}
use Rattle.site_base.specs.declared.answer.Answer.TheVariants.{Done, PointIs}
use Rattle.site_base.specs.declared.event.Event.TheVariants.{SignOn, SignOff, Open, Close, Assign}
use Rattle.site_base.specs.declared.event.Event.TheVariants.{Unassign, ReadPoint}
use Rattle.site_base.specs.declared.refusal.Refusal.TheVariants.{NotSignedOn, SignedOn, NoSuchPoint}
use Rattle.site_base.specs.declared.refusal.Refusal.TheVariants.{AssignedToOther, NotYours}
use Rattle.site_base.specs.declared.refusal.Refusal.TheVariants.{NotYourPoint, WrongState}
use Rattle.site_base.specs.declared.state.PointState.TheVariants.{Closed, Idle}
use Rattle.site_base.specs.Configured.{Configured}
use Rattle.fuelling_point.specs.KeptPoints.{empty_point, point_view}
use Rattle.written_site.specs.SiteState.{SiteState, opening, holder_of}
use Rattle.written_site.specs.SiteStep.{reply_to, site_after}

abbrev pub two_points : Configured
two_points = record {
  rows = 10;
  managers = [];
  products = [];
  points = record { number = 2; nozzles = [] } ∷ record { number = 3; nozzles = [] } ∷ [];
}

-- the opening site, and the site after till 1 has signed on
abbrev pub first : SiteState
first = opening two_points

abbrev pub second : SiteState
second = record first { signed_on = set.insert set.empty 1 }

nobody : set.contains {R = nat_cmp} set.empty 1 ≡ false
nobody = set.contains-empty nat_cmp 1

pub till_1 : set.contains {R = nat_cmp} (set.insert set.empty 1) 1 ≡ true
till_1 = set.contains-insert nat_cmp_total set.empty 1 1

pub till_2 : set.contains {R = nat_cmp} (set.insert set.empty 1) 2 ≡ false
till_2 = set.contains-insert nat_cmp_total set.empty 1 2 ∙ set.contains-empty nat_cmp 2

not_signed_on : reply_to first (Till 1) (Open 9) ≡ Err NotSignedOn
not_signed_on = rw nobody refl

signs_on : reply_to first (Till 1) SignOn ≡ Ok Done
signs_on = rw nobody refl

pub leads_to_second : site_after first (Till 1) SignOn ≡ second
leads_to_second = rw nobody refl

signs_on_twice : reply_to second (Till 1) SignOn ≡ Err SignedOn
signs_on_twice = rw till_1 refl

no_point : reply_to second (Till 1) (Open 9) ≡ Err NoSuchPoint
no_point = rw till_1 refl

free_3 : holder_of second 3 ≡ None
free_3 = get-empty nat_cmp 3

opens : reply_to second (Till 1) (Open 3) ≡ Ok Done
opens = rw (till_1, free_3) refl

opens_it_alone : (site_after second (Till 1) (Open 3)).points
    ≡ (2, empty_point Closed) ∷ (3, empty_point Idle)
    ∷ []
opens_it_alone = rw (till_1, free_3) refl

pub free_2 : holder_of second 2 ≡ None
free_2 = get-empty nat_cmp 2

isn't_idle : reply_to second (Till 1) (Close 2) ≡ Err (WrongState Closed)
isn't_idle = rw (till_1, free_2) refl

another_till : reply_to second (Till 2) (Open 3) ≡ Err NotSignedOn
another_till = rw till_2 refl

-- a number comes before the kind of actor
strange : reply_to second (Dispenser 2) (Open 2) ≡ Err NotYourPoint
strange = refl

strange_number : reply_to second (Dispenser 2) (Open 9) ≡ Err NoSuchPoint
strange_number = refl

shows : reply_to second (Till 1) (ReadPoint 3) ≡ Ok (PointIs (point_view (empty_point Closed) None))
shows = rw (till_1, get-empty nat_cmp 3) refl

-- the tills 1 and 2 signed on, and point 2 held by till 1
abbrev pub third : SiteState
third = record first {
  holds = finite.insert finite.empty 2 1;
  signed_on = set.insert (set.insert set.empty 1) 2;
}

pub held : holder_of third 2 ≡ Some 1
held = get-insert nat_cmp_total finite.empty 2 1 2

pub one_of_two : set.contains {R = nat_cmp} (set.insert (set.insert set.empty 1) 2) 1 ≡ true
one_of_two = set.contains-insert nat_cmp_total (set.insert set.empty 1) 2 1 ∙ till_1

pub two_of_two : set.contains {R = nat_cmp} (set.insert (set.insert set.empty 1) 2) 2 ≡ true
two_of_two = set.contains-insert nat_cmp_total (set.insert set.empty 1) 2 2

takes_the_hold : reply_to second (Till 1) (Assign 2) ≡ Ok Done
takes_the_hold = rw (till_1, free_2) refl

held_by_another : reply_to third (Till 2) (Assign 2) ≡ Err (AssignedToOther 1)
held_by_another = rw (two_of_two, held) refl

opened_by_another : reply_to third (Till 2) (Open 2) ≡ Err (AssignedToOther 1)
opened_by_another = rw (two_of_two, held) refl

taken_again : reply_to third (Till 1) (Assign 2) ≡ Ok Done
taken_again = rw (one_of_two, held) refl

gives_back : reply_to third (Till 1) (Unassign 2) ≡ Ok Done
gives_back = rw (one_of_two, held) refl

held_by_nobody : reply_to second (Till 1) (Unassign 2) ≡ Err NotYours
held_by_nobody = rw (till_1, free_2) refl

signs_off : reply_to third (Till 1) SignOff ≡ Ok Done
signs_off = rw one_of_two refl
