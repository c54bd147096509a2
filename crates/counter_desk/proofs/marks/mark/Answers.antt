use Rattle.std.proofs.Common.{◌≡◌, ℕ, ◌+◌, ap, arith, rules}
use Rattle.std.proofs.lemmas.Option.{slice_get_within}
use Rattle.counter_desk.specs.Receipts.{receipted_row, StandsAt}
use Rattle.counter_desk.proofs.MarkedLists.{marked_set}
use Rattle.counter_desk.proofs.marks.mark.Goals as goal

pub returns-clause-marked : goal.returns-clause-marked
returns-clause-marked g c =
    let place : ℕ = c.args.receipt.now.place in
    let stands : StandsAt c.args.site.now c.args.receipt.now = search rules in
    let within = slice_get_within c.args.site.now place (receipted_row c.args.receipt.now) stands in
    record {
      above = omega arith;
      stands = stands;
      weighed = λ h.
          let at : h (0 + place) ≡ h place = ap h (omega arith) in
          omega (
            arith,
            at,
            marked_set h 0 c.args.marks.now place (omega (arith, within))
                c.if-marks-place.false,
          );
    }
