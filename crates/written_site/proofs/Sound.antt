-- Every event leaves a sound site sound.
use Rattle.std.proofs.Common.{◌≡◌, Option, Some, None, refl, sym, ◌∙◌, arith}
use Rattle.site_base.specs.declared.actor.Actor.{Actor}
use Rattle.site_base.specs.declared.event.Event.{Event}
use Rattle.site_base.specs.declared.refusal.Refusal.{Refusal}
use Rattle.written_site.specs.SiteState.{SiteState}
use Rattle.written_site.specs.SiteChecks.{Passed, first_refusal}
use Rattle.written_site.specs.SiteStep.{accepted_site, site_after}
use Rattle.written_site.specs.Sound.{InRange, Sound, StaysSound}
use Rattle.written_site.specs.SoundSteps.{IsTaken}
use Rattle.written_site.proofs.PassedChecks.{passed}
use Rattle.written_site.proofs.SoundDraws.{shifts_kept, shift_after, drawn_rows}
use Rattle.written_site.proofs.SoundMeters.{product_after}
use Rattle.written_site.proofs.SoundPrices.{in_range_after, priced_after}
use Rattle.written_site.proofs.SoundReports.{nozzles_stay}
use Rattle.written_site.proofs.SoundSold.{unpaid_after, order_after, sale_after}
use Rattle.written_site.proofs.SoundStandings.{standing_after}
use Rattle.written_site.proofs.SoundOpening.{opening_sound}
use Rattle.written_site.proofs.SoundPoints.{point_after}
use Rattle.written_site.proofs.SoundVolumes.{alone_after, conserved_after}

-- an accepted event passes the checks on which points and volumes depend
pub taken_when_passed : (s : SiteState) (a : Actor) (e : Event) → InRange e → Passed s a e
    → IsTaken s e
taken_when_passed s a e range passes = record {
  names = passes.names;
  takes = passes.takes;
  reads = passes.reads;
  range = range;
}

-- the site after an accepted event
sound_accepted : (s : SiteState) (a : Actor) (e : Event) → InRange e → Sound s
    → first_refusal s a e ≡ None → Sound (accepted_site s a e)
sound_accepted s a e range sound accepted =
    let passes = passed s a e accepted in
    let taken = taken_when_passed s a e range passes in
    let shifts = shifts_kept s e in
    record {
      numbers = alone_after s e sound.numbers;
      points = point_after s a e sound passes taken;
      products = λ p n q is.
          let supplied = sound.products p n q (sym (product_after s e p n) ∙ is) in
          record {
            low = supplied.low;
            high = supplied.high;
            priced = priced_after s e q supplied.priced;
          };
      prices = in_range_after s e passes.prices sound.prices;
      meters = nozzles_stay s e taken sound.meters;
      unpaid = unpaid_after s a e sound taken;
      order = λ p h later. order_after s a e sound.order p h (omega (arith, shifts, later));
      sales = sale_after s a e sound taken;
      standings = standing_after s a e sound passes;
      shift = shift_after s e passes.closes sound.shift;
      draws = drawn_rows s e sound.draws;
      conserved = λ w. conserved_after w s a e sound taken;
    }

-- the site after an event, which a refused one leaves
pub sound_after : (s : SiteState) (a : Actor) (e : Event) → InRange e → Sound s
    → Sound (site_after s a e)
sound_after s a e range sound = by_refusal (first_refusal s a e) refl
  where
    by_refusal : (r : Option Refusal) → first_refusal s a e ≡ r → Sound (site_after s a e)
    by_refusal (Some refusal) is = rw is sound
    by_refusal None is = rw is (sound_accepted s a e range sound is)

pub stays_sound : StaysSound
stays_sound = record { opens = opening_sound; keeps = sound_after }
