use Rattle.std.proofs.Common.{◌≡◌, ◌+◌, drop, option_map}
use Rattle.row_tally.specs.Moments.{sold_place}
use Rattle.row_tally.proofs.sold_at.find_sold.Given as goal

-- the transaction's place is counted from here
abbrev pub invariant-loop-place : goal.invariant-loop-place
invariant-loop-place l = sold_place l.shift l.point l.number l.sold
    ≡ option_map (λ i. i + l.place) (sold_place l.shift l.point l.number (drop l.place l.sold))
