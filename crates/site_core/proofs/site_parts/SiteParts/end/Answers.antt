use Rattle.site_core.specs.SiteParts.{room_of, site_of}
use Rattle.site_core.proofs.RoomsLeft.{room_stays}
use Rattle.site_core.proofs.site_parts.SiteParts.end.Goals as goal

pub returns-in_default-clause-room : goal.returns-in_default-clause-room
returns-in_default-clause-room c =
    room_stays (site_of c.args.self.now) c.args.p c.args.growth c.args.step.now c.answer_to.result
    (room_of c.args.self.now) c.in_default.not-Sold
    (c.answer_to.ensures (site_of c.args.self.now) c.args.p c.args.growth)
