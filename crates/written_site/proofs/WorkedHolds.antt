-- Worked holds: how one is taken and ended, and a history in which two tills hold a point one after
-- the other.
use Rattle.std.proofs.Common.{◌≡◌, ◌≢◌, ℕ, Bool, List, [], ◌∷◌, ◌++◌, not, Some, None, false, true}
use Rattle.std.proofs.Common.{refl, ap, ◌∙◌, sym, arith}
use Rattle.std.proofs.lemmas.Bool.Decides.{nat_tests}
use Rattle.std.specs.Cmp.{nat_cmp_total}
use Rattle.std.specs.FinSet as set
use Rattle.std.specs.FinMap as finite
use Rattle.std.specs.FinMap.{get-insert, get-remove, get-retain_keys, nat_cmp-IsAntisymmetric}
use Rattle.std.specs.List.{list_any}
use Rattle.site_base.specs.declared.actor.Actor.{Actor}
use Rattle.site_base.specs.declared.actor.Actor.TheVariants.{Till}
use Rattle.site_base.specs.declared.event.Event.{Event}
use Rattle.site_base.specs.declared.event.Event.TheVariants.{SignOn, SignOff, Assign, Unassign}
use Rattle.site_base.specs.declared.row.Row.{Row}
use Rattle.site_base.specs.declared.state.PointState.{PointState}
use Rattle.site_base.specs.declared.state.PointState.TheVariants.{Inoperative, Closed, Idle}
use Rattle.site_base.specs.declared.state.PointState.TheVariants.{Calling, Authorised, Started}
use Rattle.site_base.specs.declared.state.PointState.TheVariants.{SuspendedStarted, Fuelling}
use Rattle.site_base.specs.declared.state.PointState.TheVariants.{SuspendedFuelling}
use Rattle.fuelling_point.specs.KeptPoints.{Facts, empty_point}
use Rattle.written_site.specs.SiteState.{SiteState, holder_of, is_resting}
use Rattle.written_site.specs.SiteStep.{site_after, ends_at_sign_off}
use Rattle.written_site.specs.SiteRun.{row_to}
use Rattle.written_site.specs.Histories.{Moment, history}
use Rattle.written_site.specs.Holders.{takes_hold, ends_hold}
use Rattle.written_site.proofs.Holders.{held_by_one}
use Rattle.written_site.proofs.WorkedSteps.{two_points, first, second, third, till_1, till_2}
use Rattle.written_site.proofs.WorkedSteps.{free_2}
use Rattle.written_site.proofs.WorkedSteps.{held, one_of_two, two_of_two, leads_to_second}

-- an Assign takes the hold
assigns : holder_of (site_after second (Till 1) (Assign 2)) 2 ≡ Some 1
assigns = rw (till_1, free_2) held

-- an Unassign gives it back
unassigns : holder_of (site_after third (Till 1) (Unassign 2)) 2 ≡ None
unassigns = rw (one_of_two, held) (get-remove nat_cmp_total third.holds 2 2)

-- the holder's sign-off ends the hold of a closed point
lets_go : holder_of (site_after third (Till 1) SignOff) 2 ≡ None
lets_go = rw one_of_two
    (get-retain_keys third.holds outlives 2
    (λ x tied. ap outlives (sym (nat_cmp-IsAntisymmetric 2 x tied)))
    ∙ rw held refl)
  where
    outlives : ℕ → Bool
    outlives q = not (ends_at_sign_off third.points third.holds 1 q)

-- the states in which a point rests
closed_rests : is_resting Closed ≡ true
closed_rests = refl

idle_rests : is_resting Idle ≡ true
idle_rests = refl

calling_rests : is_resting Calling ≡ true
calling_rests = refl

inoperative_doesn't : is_resting Inoperative ≡ false
inoperative_doesn't = refl

authorised_doesn't : is_resting Authorised ≡ false
authorised_doesn't = refl

started_doesn't : is_resting Started ≡ false
started_doesn't = refl

suspended_started_doesn't : is_resting SuspendedStarted ≡ false
suspended_started_doesn't = refl

fuelling_doesn't : is_resting Fuelling ≡ false
fuelling_doesn't = refl

suspended_fuelling_doesn't : is_resting SuspendedFuelling ≡ false
suspended_fuelling_doesn't = refl

-- point 2 alone, in this state
abbrev alone : PointState → List (ℕ × Facts)
alone state = (2, empty_point state) ∷ []

-- till 1 holds point 2: its sign-off ends the hold where the point rests
ends_closed : ends_at_sign_off (alone Closed) third.holds 1 2 ≡ true
ends_closed = rw held refl

ends_idle : ends_at_sign_off (alone Idle) third.holds 1 2 ≡ true
ends_idle = rw held refl

ends_calling : ends_at_sign_off (alone Calling) third.holds 1 2 ≡ true
ends_calling = rw held refl

outlives_authorised : ends_at_sign_off (alone Authorised) third.holds 1 2 ≡ false
outlives_authorised = refl

-- and that of another till doesn't
another's_sign_off : ends_at_sign_off (alone Closed) third.holds 2 2 ≡ false
another's_sign_off = rw held refl

-- a history: the tills 1 and 2 sign on; till 1 takes point 2 and gives it back; till 2 takes it
abbrev events : List (Actor × Event)
events =
    (Till 1, SignOn)
    ∷ (Till 2, SignOn)
    ∷ (Till 1, Assign 2)
    ∷ (Till 1, Unassign 2)
    ∷ (Till 2, Assign 2)
    ∷ []

-- the site after both have signed on, and after till 1 has given the point back
abbrev both_on : SiteState
both_on = record second { signed_on = set.insert second.signed_on 2 }

abbrev free_again : SiteState
free_again = record third { holds = finite.remove third.holds 2 }

none_holds : holder_of free_again 2 ≡ None
none_holds = get-remove nat_cmp_total third.holds 2 2

leads_to_both : site_after second (Till 2) SignOn ≡ both_on
leads_to_both = rw till_2 refl

leads_to_third : site_after both_on (Till 1) (Assign 2) ≡ third
leads_to_third = rw (one_of_two, free_2) refl

leads_to_free : site_after third (Till 1) (Unassign 2) ≡ free_again
leads_to_free = rw (one_of_two, held) refl

-- its five rows, and the moments of the last three
abbrev row_1 : Row
row_1 = row_to first (Till 1) SignOn

abbrev row_2 : Row
row_2 = row_to second (Till 2) SignOn

abbrev row_3 : Row
row_3 = row_to both_on (Till 1) (Assign 2)

abbrev row_4 : Row
row_4 = row_to third (Till 1) (Unassign 2)

abbrev row_5 : Row
row_5 = row_to free_again (Till 2) (Assign 2)

abbrev signings : List Moment
signings = record { earlier = []; before = first; row = row_1 }
    ∷ record { earlier = row_1 ∷ []; before = second; row = row_2 }
    ∷ []

abbrev take_1 : Moment
take_1 = record { earlier = row_1 ∷ row_2 ∷ []; before = both_on; row = row_3 }

abbrev end_1 : Moment
end_1 = record { earlier = row_1 ∷ row_2 ∷ row_3 ∷ []; before = third; row = row_4 }

abbrev take_2 : Moment
take_2 = record {
  earlier = row_1 ∷ row_2 ∷ row_3 ∷ row_4 ∷ [];
  before = free_again;
  row = row_5;
}

till_1_takes : takes_hold 2 take_1 ≡ Some 1
till_1_takes = rw (one_of_two, free_2) refl

till_1_ends : ends_hold 2 1 end_1 ≡ true
till_1_ends = rw (one_of_two, held) refl

till_2_takes : takes_hold 2 take_2 ≡ Some 2
till_2_takes = rw (two_of_two, none_holds) refl

till_2_holds : holder_of (site_after free_again (Till 2) (Assign 2)) 2 ≡ Some 2
till_2_holds = rw (two_of_two, none_holds) (get-insert nat_cmp_total free_again.holds 2 2 2)

-- they are the moments of that history
are_its_moments : history two_points events ≡ signings ++ take_1 ∷ (end_1 ∷ []) ++ take_2 ∷ []
are_its_moments = rw (leads_to_second, leads_to_both, leads_to_third, leads_to_free) refl

differ : ◌≢◌ {A = ℕ} 1 2
differ same = grind (arith, nat_tests)

-- so the law of one holder speaks of it: each of its premises is met
ends_between : list_any (ends_hold 2 1) (end_1 ∷ []) ≡ true
ends_between =
    held_by_one two_points events 2 1 2 signings (end_1 ∷ []) [] take_1 take_2
    are_its_moments till_1_takes till_2_takes differ
