use Rattle.std.proofs.Common.{◌≡◌, length, take}
use Rattle.site_base.specs.declared.limits.TheConstants.{NOZZLE_CELLS}
use Rattle.meters.specs.Places.{ArePlaces}
use Rattle.meters.proofs.place.places_of.Given as goal

abbrev pub invariant-loop-place : goal.invariant-loop-place
invariant-loop-place l = record {
  cells : length l.places ≡ NOZZLE_CELLS;
  places : ArePlaces (take l.place l.meters) l.places;
}
