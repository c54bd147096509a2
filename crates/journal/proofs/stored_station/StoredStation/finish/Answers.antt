use Rattle.std.proofs.Common.{◌≡◌, subst, sym}
use Rattle.station.specs.Moves.{StationState}
use Rattle.station.specs.Runs.{Finishes, Forgets}
use Rattle.journal.proofs.Made.{Adds, stored_with}
use Rattle.journal.proofs.Moves.{move_adds}
use Rattle.journal.proofs.stored_station.StoredStation.finish.Goals as goal

pub invariant_of-self : goal.invariant_of-self
invariant_of-self g c =
    let station = c.self.inside.station in
    stored_with
    (record { station = station; unpaid = c.self.inside.unpaid; journal = c.self.inside.journal })
    c.finish.new.self
    c.self.invariant
    (subst (λ (t : StationState). Adds station.book t.book) (sym c.finish.ensures)
    (move_adds (Finishes c.args.key) station
    (λ is. absurd (let no : Finishes c.args.key ≡ Forgets = is in cc))))
