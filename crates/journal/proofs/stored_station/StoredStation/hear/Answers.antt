use Rattle.std.proofs.Common.{◌≡◌, subst, sym}
use Rattle.station.specs.Moves.{StationState}
use Rattle.station.specs.Runs.{Forgets, Says}
use Rattle.journal.proofs.Made.{Adds, stored_with}
use Rattle.journal.proofs.Moves.{move_adds}
use Rattle.journal.proofs.stored_station.StoredStation.hear.Goals as goal

pub invariant_of-self : goal.invariant_of-self
invariant_of-self g c =
    let station = c.self.inside.station in
    let said = Says c.hear.ensures.0 c.args.key c.args.octets.now in
    stored_with
    (record { station = station; unpaid = c.self.inside.unpaid; journal = c.self.inside.journal })
    c.hear.new.self
    c.self.invariant
    (subst (λ (t : StationState). Adds station.book t.book) (sym c.hear.ensures.1)
    (move_adds said station (λ is. absurd (let no : said ≡ Forgets = is in cc))))
