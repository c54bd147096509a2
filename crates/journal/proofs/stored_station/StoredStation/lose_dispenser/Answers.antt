use Rattle.std.proofs.Common.{◌≡◌, subst, sym}
use Rattle.station.specs.Moves.{StationState}
use Rattle.station.specs.Runs.{Forgets, Loses}
use Rattle.journal.proofs.Made.{Adds, stored_with}
use Rattle.journal.proofs.Moves.{move_adds}
use Rattle.journal.proofs.stored_station.StoredStation.lose_dispenser.Goals as goal

pub invariant_of-self : goal.invariant_of-self
invariant_of-self g c =
    let station = c.self.inside.station in
    let lost = Loses c.lose_dispenser.ensures.0 c.args.p in
    stored_with
    (record { station = station; unpaid = c.self.inside.unpaid; journal = c.self.inside.journal })
    c.lose_dispenser.new.self
    c.self.invariant
    (subst (λ (t : StationState). Adds station.book t.book) (sym c.lose_dispenser.ensures.1)
    (move_adds lost station (λ is. absurd (let no : lost ≡ Forgets = is in cc))))
