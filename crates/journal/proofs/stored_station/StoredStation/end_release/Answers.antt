use Rattle.std.proofs.Common.{◌≡◌, subst, sym}
use Rattle.station.specs.Moves.{StationState}
use Rattle.station.specs.Runs.{EndsRelease, Forgets}
use Rattle.journal.proofs.Made.{Adds, stored_with}
use Rattle.journal.proofs.Moves.{move_adds}
use Rattle.journal.proofs.stored_station.StoredStation.end_release.Goals as goal

pub invariant_of-self : goal.invariant_of-self
invariant_of-self g c =
    let station = c.self.inside.station in
    let ended = EndsRelease c.end_release.ensures.0 c.end_release.ensures.1 c.args.p in
    stored_with
    (record { station = station; unpaid = c.self.inside.unpaid; journal = c.self.inside.journal })
    c.end_release.new.self
    c.self.invariant
    (subst (λ (t : StationState). Adds station.book t.book) (sym c.end_release.ensures.2)
    (move_adds ended station (λ is. absurd (let no : ended ≡ Forgets = is in cc))))
