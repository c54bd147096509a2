use Rattle.std.proofs.Common.{◌≡◌, ◌+◌, ◌++◌, ◌∷◌, [], List, ℕ, Option, Some, None, length, ◌<◌}
use Rattle.std.proofs.Common.{get_or, take, sym, ap, subst, ◌∙◌, arith, length-take-le, length-set}
use Rattle.std.proofs.Math.ListN.{set}
use Rattle.std.proofs.lemmas.List.{get_or-replicate, length-replicate, take_more, take_all}
use Rattle.site_base.specs.declared.limits.TheConstants.{NOZZLE_CELLS}
use Rattle.meters.specs.Nozzles.{Nozzle}
use Rattle.meters.specs.Places.{nozzle_cell, ArePlaces}
use Rattle.meters.proofs.Cells.{filled, left, is_nothing}
use Rattle.meters.proofs.place.places_of.Goals as goal
use Rattle.meters.proofs.place.places_of.Goals.{then-is_none, else-is_none}

pub loop-place-init : goal.loop-place-init
loop-place-init c = record {
  cells = length-replicate {A = Option ℕ} NOZZLE_CELLS None;
  places = λ p n low high from most.
      get_or-replicate NOZZLE_CELLS (nozzle_cell p n) None None (omega arith);
}

pub loop-place-preserved : goal.loop-place-preserved
loop-place-preserved c =
    let xs : List Nozzle = c.args.meters.now in
    let i = c.loop-place.place in
    let x : Nozzle = c.index-meters-place.result in
    let cells : List (Option ℕ) = c.loop-place.places in
    let n = c.cell-cell.result in
    let more : take i xs ++ x ∷ [] ≡ take (i + 1) xs =
    ap (λ y. take i xs ++ y ∷ []) c.index-meters-place.is ∙ sym (take_more xs i x (omega arith)) in
    let count : length (take i xs) ≡ i = length-take-le i xs (omega arith) in
    let within : n < length cells = omega (arith, c.loop-place.invariant.cells) in
    elim c.if-is_none.branch [
      | then-is_none w ↦
          let none : get_or cells n None ≡ None =
          is_nothing (get_or cells n None) w.if-is_none.ensures in
          record {
            cells = ap length w.places-is ∙ length-set cells n (Some i)
                ∙ c.loop-place.invariant.cells;
            places = subst (λ ys. ArePlaces ys c.if-is_none.places) more
                (subst (ArePlaces (take i xs ++ x ∷ []))
                (ap (λ k. set cells n (Some k)) count ∙ sym w.places-is)
                (filled (take i xs) x cells n c.loop-place.invariant.places
                c.cell-cell.ensures.place c.cell-cell.ensures.point c.cell-cell.ensures.nozzle
                within none));
          }
      | else-is_none w ↦ record {
        cells = ap length w.places-is ∙ c.loop-place.invariant.cells;
        places = subst (λ ys. ArePlaces ys c.if-is_none.places) more
            (subst (ArePlaces (take i xs ++ x ∷ [])) (sym w.places-is)
            (left (take i xs) x cells n c.loop-place.invariant.places
            c.cell-cell.ensures.place c.cell-cell.ensures.point c.cell-cell.ensures.nozzle
            within w.if-is_none.ensures));
      }
    ]

pub returns : goal.returns
returns c =
    subst (λ ys. ArePlaces ys c.loop-place.places)
    (take_all c.loop-place.place c.args.meters.now c.loop-place-test.false)
    c.loop-place.invariant.places
