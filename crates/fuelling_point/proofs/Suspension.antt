-- A terminated fuelling, until it ends.
use Rattle.std.proofs.Common.{◌≡◌, Bool, true, false, ◌||◌, List, [], ◌∷◌, ◌++◌, Ok, refl, subst}
use Rattle.std.specs.List.{list_any}
use Rattle.fuelling_point.specs.declared.event.PointEvent.{PointEvent}
use Rattle.fuelling_point.specs.declared.step.PointStep.TheVariants.{Ending}
use Rattle.fuelling_point.specs.KeptPoints.{Facts}
use Rattle.fuelling_point.specs.History.{Moment, history, facts_at_end, facts_after}
use Rattle.fuelling_point.specs.Whole.{is_suspended}
use Rattle.fuelling_point.specs.Laws.{ends, reply_at}
use Rattle.fuelling_point.proofs.Events.{suspended_when_terminated, ending_when_terminated}
use Rattle.fuelling_point.proofs.Events.{suspended_kept, ending_kept}

-- the point is suspended, and its fuelling ending
pub record IsTerminated (f : Facts) : Type 0 where
  pub suspend_state : is_suspended f.state ≡ true
  pub ending : f.ending ≡ true

pub left_false : (a b : Bool) → (a || b) ≡ false → a ≡ false
left_false false b is = refl
left_false true b is = is

pub right_false : (a b : Bool) → (a || b) ≡ false → b ≡ false
right_false false b is = is
right_false true b is = absurd (cc)

keeps : (f : Facts) (events : List PointEvent) → IsTerminated f
    → list_any ends (history f events) ≡ false → IsTerminated (facts_at_end f events)
keeps f [] t on = t
keeps f (e ∷ es) t on =
    let now : ends (record { before = f; event = e }) ≡ false =
    left_false _ (list_any ends (history (facts_after e f) es)) on in
    let later : list_any ends (history (facts_after e f) es) ≡ false =
    right_false (ends (record { before = f; event = e })) _ on in
    keeps (facts_after e f) es (record {
      suspend_state = suspended_kept e f t.suspend_state t.ending now;
      ending = ending_kept e f t.suspend_state t.ending now;
    }) later

-- from the terminate on, as long as nothing ends the fuelling
pub stays_terminated : (f : Facts) (events : List PointEvent) (before since : List Moment)
    (m : Moment)
    → history f events ≡ before ++ m ∷ since
    → reply_at m ≡ Ok Ending → list_any ends since ≡ false → IsTerminated (facts_at_end f events)
stays_terminated f [] [] since m parts told on = cc
stays_terminated f [] (x ∷ xs) since m parts told on = cc
stays_terminated f (e ∷ es) [] since m parts told on =
    let here : m ≡ record { before = f; event = e } = cc in
    let rest : since ≡ history (facts_after e f) es = cc in
    let ended = subst (λ x. reply_at x ≡ Ok Ending) here told in
    keeps (facts_after e f) es (record {
      suspend_state = suspended_when_terminated e f ended;
      ending = ending_when_terminated e f ended;
    }) (subst (λ x. list_any ends x ≡ false) rest on)
stays_terminated f (e ∷ es) (x ∷ xs) since m parts told on =
    let rest : history (facts_after e f) es ≡ xs ++ m ∷ since = cc in
    stays_terminated (facts_after e f) es xs since m rest told on
